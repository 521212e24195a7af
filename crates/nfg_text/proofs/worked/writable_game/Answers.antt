use Rattle.std.proofs.Common.{◌≡◌, ℕ, ◌%◌, ◌<◌, ◌≤◌, ◌^◌, ◌&&◌, Bool, true, nat_lt, List, [], ◌∷◌, length, map, All, pos, refl, arith, lit<, decimal}
use Rattle.std.specs.Int.{IsGcd}
use Rattle.std.specs.Str.Parse.{IsNumeral, digits_value}
use Rattle.std.proofs.lemmas.Fmt.{decimal_is_IsNumeral_wide, length-decimal-le_wide}
use Rattle.std.proofs.lemmas.Bool.Decides.{nat_tests}
use Rattle.std.proofs.lemmas.Int.{ints}
use Rattle.std.proofs.lemmas.List.Elements.{All-nil, All-cons}
use Rattle.std.proofs.lemmas.Nat.Gcd.{IsGcd-from_zero, IsGcd-from_mod}
use Rattle.pay_frac.specs.Ratio.{Ratio, IsLowest}
use Rattle.pay_frac.specs.Spelling.{digit_count}
use Rattle.pay_frac.proofs.Digits.{count_digits}
use Rattle.token_text.proofs.Written.{both}
use Rattle.nfg_text.specs.Worked.{whole}
use Rattle.nfg_text.specs.Writable.{IsShort}
use Rattle.nfg_text.proofs.worked.writable_game.Goals as goal

lowest_whole : (n : ℕ) → n < 2 ^ 127 → IsLowest (whole (pos n))
lowest_whole n h =
    let rest : n % 1 ≡ 0 = omega arith in
    record { positive = omega (arith, ints); coprime = IsGcd-from_mod n 1 1 (IsGcd-from_zero 1 (n % 1) rest); num_fits = h; den_fits = lit< tt }

short_whole : (n : ℕ) → n < 4 → IsShort (whole (pos n))
short_whole n h =
    let wide : 4 < 10 ^ 64 = lit< tt in
    let few : 4 < 10 ^ 36 = lit< tt in
    let fits : 4 < 2 ^ 127 = lit< tt in
    let d : IsNumeral 10 (decimal n) × (digits_value 10 (decimal n) ≡ n) = decimal_is_IsNumeral_wide n (omega arith) in
    let l : length (decimal n) ≤ 36 = length-decimal-le_wide 36 n (lit< tt) (omega arith) (omega arith) in
    let c : digit_count (decimal n) ≡ length (decimal n) = count_digits (decimal n) d.0.1 in
    let small : digit_count (decimal n) ≤ 36 = omega arith in
    (lowest_whole n (omega arith), small)

abbrev all_small : List ℕ → Bool
all_small [] = true
all_small (n ∷ ns) = nat_lt n 4 && all_small ns

below : (n : ℕ) → nat_lt n 4 ≡ true → n < 4
below n h = grind (arith, nat_tests)

shorts : (ns : List ℕ) → all_small ns ≡ true → All IsShort (map (λ n. whole (pos n)) ns)
shorts [] h = All-nil IsShort
shorts (n ∷ ns) h =
    let p = both (nat_lt n 4) (all_small ns) h in
    All-cons IsShort (whole (pos n)) (map (λ n. whole (pos n)) ns) (short_whole n (below n p.0)) (shorts ns p.1)

pub returns : goal.returns
returns c = record {
  title = λ e. omega arith;
  players = (λ e. omega arith, λ e. omega arith);
  strategies = ((lit< tt, omega arith), (lit< tt, omega arith));
  comment = tt;
  whole = refl;
  payoffs = shorts (2 ∷ 2 ∷ 3 ∷ 0 ∷ 0 ∷ 3 ∷ 1 ∷ 1 ∷ []) refl;
}
