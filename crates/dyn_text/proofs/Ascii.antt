-- Names of ASCII bytes are UTF-8.
use Rattle.std.proofs.Common.{◌≡◌, ℕ, zero, suc, ◌<◌, ◌&&◌, Bool, true, false, List, [], ◌∷◌, get_or, refl, sym, arith, lit<}
use Rattle.std.specs.Prelude.{nat_lt}
use Rattle.std.specs.Str.{is_utf8}
use Rattle.std.proofs.lemmas.Bool.{true≢false}
use Rattle.std.proofs.lemmas.Bool.Decides.{nat_tests}
use Rattle.std.proofs.lemmas.Str.{is_utf8-from_IsUtf8, IsUtf8-from_ascii}

abbrev pub all_small : List ℕ → Bool
all_small [] = true
all_small (b ∷ bs) = nat_lt b 128 && all_small bs

both : (a b : Bool) → (a && b) ≡ true → (a ≡ true) × (b ≡ true)
both true b h = (refl, h)
both false b h = absurd (true≢false (sym h))

below : (b : ℕ) → nat_lt b 128 ≡ true → b < 128
below b h = grind (arith, nat_tests)

small_at : (bs : List ℕ) → all_small bs ≡ true → (i : ℕ) → get_or bs i 0 < 128
small_at [] h i = lit< tt
small_at (b ∷ bs) h zero = below b (both (nat_lt b 128) (all_small bs) h).0
small_at (b ∷ bs) h (suc i) = small_at bs (both (nat_lt b 128) (all_small bs) h).1 i

pub plain : (bs : List ℕ) → all_small bs ≡ true → is_utf8 bs ≡ true
plain bs h = is_utf8-from_IsUtf8 bs (IsUtf8-from_ascii bs (small_at bs h))
