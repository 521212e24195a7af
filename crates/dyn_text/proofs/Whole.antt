-- From the parts of the assembling to its answer.
use Rattle.std.proofs.Common.{◌≡◌, ℕ, ◌-◌, ◌<◌, ◌≤◌, List, map, min, sym, ap, subst, ◌∙◌, arith}
use Rattle.std.specs.Prelude.{ℤ}
use Rattle.std.specs.List.{All}
use Rattle.std.specs.Int.RustNames.{unsigned_abs}
use Rattle.pay_frac.specs.Ratio.{Ratio}
use Rattle.nfg_text.specs.declared.nfg.Nfg.{Nfg}
use Rattle.nfg_text.specs.declared.what.What.{What}
use Rattle.nfg_text.specs.Grammar.{counts_of}
use Rattle.game_model.specs.declared.parts.ShapeFault.{ShapeFault}
use Rattle.game_model.specs.Parts.{IsFirstFault, HasNoFault}
use Rattle.dyn_text.specs.declared.transitions.Dyn.{Dyn}
use Rattle.dyn_text.specs.declared.transitions.DynState.{DynState}
use Rattle.dyn_text.specs.declared.fault.BuildFault.{BuildFault}
use Rattle.dyn_text.specs.declared.fault.BuildFault.TheVariants.{Shape, Wide, NoMemory}
use Rattle.dyn_text.specs.Assembled.{payoffs_in, denominators_in, game_of_lists, shape_of_lists, shape_of_texts, units}
use Rattle.dyn_text.specs.BuildFaults.{IsBuildFault, IsSmallPayoff, IsUnit, IsWide, IsWidePayoff}
use Rattle.dyn_text.proofs.Multiples.{one_multiple, wide_excluded}
use Rattle.dyn_text.proofs.Payoffs.{payoff_excluded}
use Rattle.dyn_text.proofs.Texts.{first_excluded, parts_game}
use Rattle.dyn_text.proofs.Unique.{Passed, by_discount, by_denominator, by_payoff, passed}

-- ---- capped numbers
pub capped_within : (m k b : ℕ) → b < k → min m k ≤ b → (min m k ≡ m) × (m ≤ b)
capped_within m k b h l = (omega arith, omega arith)

pub capped_past : (m k b : ℕ) → b < min m k → b < m
capped_past m k b h = omega arith

-- ---- lists
pub shape_is : (d : Dyn) (games : List Nfg) (ss ns : List (List ℕ)) → ss ≡ map (λ (n : Nfg). counts_of n.strategies) games → ns ≡ map (λ (x : DynState). x.next) d.states → shape_of_lists ss games ns ≡ shape_of_texts d games
shape_is d games ss ns a b = ap (λ x. shape_of_lists x games ns) a ∙ ap (λ x. shape_of_lists (map (λ (n : Nfg). counts_of n.strategies) games) games x) b

pub parts_are : (d : Dyn) (games : List Nfg) (r : Ratio) (unit : ℕ) (ss : List (List ℕ)) (us : List (List ℤ)) (ns : List (List ℕ)) (p q : ℕ)
    → ss ≡ map (λ (n : Nfg). counts_of n.strategies) games → us ≡ map (λ (n : Nfg). map (units unit) n.payoffs) games → ns ≡ map (λ (x : DynState). x.next) d.states
    → p ≡ unsigned_abs r.num → q ≡ unsigned_abs r.den → game_of_lists ss us ns unit p q ≡ parts_game d games r unit
parts_are d games r unit ss us ns p q a b c g h =
    let ss' = map (λ (n : Nfg). counts_of n.strategies) games in
    let us' = map (λ (n : Nfg). map (units unit) n.payoffs) games in
    let ns' = map (λ (x : DynState). x.next) d.states in
    ap (λ x. game_of_lists x us ns unit p q) a
    ∙ ap (λ x. game_of_lists ss' x ns unit p q) b
    ∙ ap (λ x. game_of_lists ss' us' x unit p q) c
    ∙ ap (λ x. game_of_lists ss' us' ns' unit x q) g
    ∙ ap (λ x. game_of_lists ss' us' ns' unit (unsigned_abs r.num) x) h

-- ---- faults
pub shape_fault_is : (d : Dyn) (games : List Nfg) (r : Ratio) (e : BuildFault) (f : ShapeFault) → e ≡ Shape f → IsFirstFault (shape_of_texts d games) f → IsBuildFault d games r e
shape_fault_is d games r e f h first = subst (IsBuildFault d games r) (sym h) first

pub wide_fault_is : (d : Dyn) (games : List Nfg) (r : Ratio) (e : BuildFault) (w : What) (n : ℤ) → e ≡ Wide w n → HasNoFault (shape_of_texts d games) → IsWide games r w n → IsBuildFault d games r e
wide_fault_is d games r e w n h none wide = subst (IsBuildFault d games r) (sym h) (none, wide)

none_passed : (games : List Nfg) (r : Ratio) (unit : ℕ) (w : What) (n : ℤ) → unsigned_abs r.den ≤ 1024 → IsUnit games unit → All (IsSmallPayoff unit) (payoffs_in games) → Passed games r w n → ⊥
none_passed games r unit w n small u all (by_discount a b c) = omega arith
none_passed games r unit w n small u all (by_denominator a b c) = wide_excluded (denominators_in games) unit n u.least u.within c
none_passed games r unit w n small u all (by_payoff a b v c k) =
    let same : v ≡ unit = one_multiple (denominators_in games) v unit c.least u.least in
    payoff_excluded unit (payoffs_in games) n all (subst (λ x. IsWidePayoff x (payoffs_in games) n) same k)

-- where all is within its limit no fault holds
pub excluded : (d : Dyn) (games : List Nfg) (r : Ratio) (unit : ℕ) → HasNoFault (shape_of_texts d games) → unsigned_abs r.den ≤ 1024 → IsUnit games unit → All (IsSmallPayoff unit) (payoffs_in games) → (e : BuildFault) → IsBuildFault d games r e → ⊥
excluded d games r unit none small u all (Shape f) h = first_excluded (shape_of_texts d games) f none h
excluded d games r unit none small u all (Wide w n) h = none_passed games r unit w n small u all (passed games r w n h.1)
excluded d games r unit none small u all NoMemory h = h
