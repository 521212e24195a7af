use Rattle.std.proofs.Common.{◌≡◌, ℕ, ◌≤◌, ◌&&◌, Bool, true, nat_le, List, [], ◌∷◌, All, refl, arith, lit<, codes}
use Rattle.std.proofs.lemmas.Bool.Decides.{nat_tests}
use Rattle.std.proofs.lemmas.List.Elements.{All-nil, All-cons}
use Rattle.token_text.proofs.Written.{both}
use Rattle.dyn_text.specs.declared.transitions.DynState.{DynState}
use Rattle.dyn_text.specs.Writable.{IsState}
use Rattle.dyn_text.proofs.Ascii.{plain}
use Rattle.dyn_text.proofs.worked.writable_transitions.Goals as goal

abbrev within : List ℕ → Bool
within [] = true
within (n ∷ ns) = nat_le n 4294967295 && within ns

at_most : (n : ℕ) → nat_le n 4294967295 ≡ true → n ≤ 4294967295
at_most n h = grind (arith, nat_tests)

smalls : (ns : List ℕ) → within ns ≡ true → All (λ n. n ≤ 4294967295) ns
smalls [] h = All-nil (λ n. n ≤ 4294967295)
smalls (n ∷ ns) h =
    let p = both (nat_le n 4294967295) (within ns) h in
    All-cons (λ n. n ≤ 4294967295) n ns (at_most n p.0) (smalls ns p.1)

abbrev good : DynState
good = record { name = codes "good"; file = codes "pd.nfg"; next = 0 ∷ 1 ∷ 1 ∷ 1 ∷ [] }

abbrev bad : DynState
bad = record { name = codes "bad"; file = codes "nil.nfg"; next = 1 ∷ [] }

good_is : IsState good
good_is = record { name = λ e. omega arith; file = λ e. omega arith; utf8 = plain (codes "pd.nfg") refl; next = smalls (0 ∷ 1 ∷ 1 ∷ 1 ∷ []) refl }

bad_is : IsState bad
bad_is = record { name = λ e. omega arith; file = λ e. omega arith; utf8 = plain (codes "nil.nfg") refl; next = smalls (1 ∷ []) refl }

pub returns : goal.returns
returns c = record {
  title = λ e. omega arith;
  some = omega arith;
  most = omega arith;
  states = All-cons IsState good (bad ∷ []) good_is (All-cons IsState bad [] bad_is (All-nil IsState));
}
