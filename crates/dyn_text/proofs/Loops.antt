-- What the faults of single steps say of all.
use Rattle.std.proofs.Common.{◌≡◌, ℕ, ◌+◌, ◌-◌, ◌^◌, ◌<◌, ◌≤◌, List, [], ◌∷◌, ◌++◌, length, map, get_or, take, drop, min, Vec, Result, Err, refl, sym, ap, subst, ◌∙◌, arith, append_assoc, inl, inr}
use Rattle.std.specs.Prelude.{ℤ, pos, ◌⊎◌, ◌≤ℤ◌, ◌<ℤ◌, IfErr, slice_index, slice_index_or}
use Rattle.std.specs.Global.{Global}
use Rattle.std.specs.List.{All}
use Rattle.std.specs.Int.RustNames.{unsigned_abs}
use Rattle.std.proofs.lemmas.Int.{ints}
use Rattle.std.proofs.lemmas.List.{map-append, map_more}
use Rattle.std.proofs.lemmas.List.Elements.{All-append}
use Rattle.pay_frac.specs.Ratio.{Ratio}
use Rattle.pay_frac.specs.Whole.{IsLcm}
use Rattle.nfg_text.specs.declared.nfg.Nfg.{Nfg}
use Rattle.nfg_text.specs.declared.what.What.TheVariants.{Denominator, Payoff}
use Rattle.nfg_text.specs.Grammar.{counts_of}
use Rattle.nfg_text.specs.ReadGame.{IsReadGame, IsShortNumber}
use Rattle.game_model.specs.Game.{IsLeastCommonMultiple}
use Rattle.dyn_text.specs.declared.fault.BuildFault.{BuildFault}
use Rattle.dyn_text.specs.declared.fault.BuildFault.TheVariants.{NoMemory, Wide}
use Rattle.dyn_text.specs.Assembled.{denominators_in, denominators_of, payoffs_in, units}
use Rattle.dyn_text.specs.BuildFaults.{shown, IsSmallPayoff, IsWideDenominator, IsWidePayoff}
use Rattle.dyn_text.proofs.Multiples.{den, games_all, games_more, multiple_more, lcm_positive, wide_at, wide_more}
use Rattle.dyn_text.proofs.Payoffs.{wide_payoff_at, wide_payoff_in}
use Rattle.dyn_text.proofs.Texts.{counts_at, no_game}
use Rattle.dyn_text.proofs.Whole.{capped_within}

pub err_holds : {X : Type 0} (P : BuildFault → Type 0) (r : Result X BuildFault) (e : BuildFault) → r ≡ Err e → P e → IfErr r P
err_holds P r e h p = subst (λ r. IfErr r P) (sym h) p

-- a multiple within the limit is shown as it is
capped_at : (a d m : ℕ) → IsLcm a d m → shown m ≤ℤ pos (2 ^ 40) → IsLcm a d (min m (2 ^ 127 - 1)) × (min m (2 ^ 127 - 1) ≤ 2 ^ 40)
capped_at a d m l h =
    let k : min m (2 ^ 127 - 1) ≤ 2 ^ 40 = omega (arith, ints) in
    let c = capped_within m (2 ^ 127 - 1) (2 ^ 40) (omega arith) k in
    (subst (λ n. IsLcm a d n) (sym c.0) l, k)

pub multiple_within : (a d m : ℕ) (r : ℤ) → IsLcm a d m → r ≡ shown m → r ≤ℤ pos (2 ^ 40) → IsLcm a d (unsigned_abs r) × (unsigned_abs r ≤ 2 ^ 40)
multiple_within a d m r l e h =
    subst (λ (z : ℤ). IsLcm a d (unsigned_abs z) × (unsigned_abs z ≤ 2 ^ 40)) (sym e) (capped_at a d m l (subst (λ (z : ℤ). z ≤ℤ pos (2 ^ 40)) e h))

-- ---- denominators of a game
abbrev pub WideAfter : ℕ → Nfg → BuildFault → Type 0
WideAfter unit g e = (number : ℤ) × (e ≡ Wide Denominator number) × ((before : List ℕ) → IsLeastCommonMultiple before unit → IsWideDenominator (before ++ denominators_of g) number)

number_at : (g : Nfg) (k : ℕ) (r : Ratio) → IsReadGame g → k < length g.payoffs → r ≡ get_or g.payoffs k r → IsShortNumber r
number_at g k r read h e = subst IsShortNumber (sym e) (read.numbers k r h)

den_positive : (g : Nfg) (k : ℕ) (r : Ratio) → IsReadGame g → k < length g.payoffs → r ≡ get_or g.payoffs k r → 0 < den r
den_positive g k r read h e =
    let p : pos 0 <ℤ r.den = (number_at g k r read h e).lowest.positive in
    omega (arith, ints)

abbrev pub SoFar : ℕ → Nfg → ℕ → ℕ → Type 0
SoFar unit g k m = ((before : List ℕ) → IsLeastCommonMultiple before unit → IsLeastCommonMultiple (before ++ map den (take k g.payoffs)) m) × (0 < m) × (m ≤ 2 ^ 40)

pub wide_after : (unit : ℕ) (g : Nfg) (k u : ℕ) (r : Ratio) (e : BuildFault) → IsReadGame g → k < length g.payoffs → r ≡ get_or g.payoffs k r → SoFar unit g k u
    → (m : ℕ) × IsLcm u (den r) m × (2 ^ 40 < m) × (e ≡ Wide Denominator (shown m)) → WideAfter unit g e
wide_after unit g k u r e read h at so_far (m, l, passes, is) =
    (shown m, is, λ before b. wide_at before g.payoffs k r u m (shown m) h at (so_far.0 before b) so_far.2 (den_positive g k r read h at) l passes refl)

pub so_far_more : (unit : ℕ) (g : Nfg) (k u m : ℕ) (r : Ratio) → IsReadGame g → k < length g.payoffs → r ≡ get_or g.payoffs k r → SoFar unit g k u
    → IsLcm u (den r) m × (m ≤ 2 ^ 40) → SoFar unit g (k + 1) m
so_far_more unit g k u m r read h at so_far (l, within) = (
  λ before b. multiple_more before g.payoffs k r u m h at (so_far.0 before b) (den_positive g k r read h at) l,
  lcm_positive u (den r) m so_far.1 (den_positive g k r read h at) l,
  within,
)

-- ---- denominators of all games
abbrev pub WideIn : List Nfg → BuildFault → Type 0
WideIn games e = (number : ℤ) × (e ≡ Wide Denominator number) × IsWideDenominator (denominators_in games) number

pub wide_in : (games : List Nfg) (i u : ℕ) (g : Nfg) (e : BuildFault) → i < length games → g ≡ get_or games i g → IsLeastCommonMultiple (denominators_in (take i games)) u → WideAfter u g e → WideIn games e
wide_in games i u g e h at so_far (n, is, w) = (
  n,
  is,
  subst (λ l. IsWideDenominator l n) (sym (games_all denominators_of games (i + 1)))
      (wide_more (denominators_in (take (i + 1) games)) (denominators_in (drop (i + 1) games)) n
      (subst (λ l. IsWideDenominator l n) (sym (games_more denominators_of games i g h at)) (w (denominators_in (take i games)) so_far))),
)

pub unit_more : (games : List Nfg) (i u m : ℕ) (g : Nfg) → i < length games → g ≡ get_or games i g → IsLeastCommonMultiple (denominators_in (take i games)) u
    → ((before : List ℕ) → IsLeastCommonMultiple before u → IsLeastCommonMultiple (before ++ denominators_of g) m) → IsLeastCommonMultiple (denominators_in (take (i + 1) games)) m
unit_more games i u m g h at so_far more =
    subst (λ l. IsLeastCommonMultiple l m) (sym (games_more denominators_of games i g h at)) (more (denominators_in (take i games)) so_far)

-- ---- payoffs
abbrev pub PayoffFault : ℕ → List Ratio → BuildFault → Type 0
PayoffFault unit ps e = (e ≡ NoMemory) ⊎ ((number : ℤ) × (e ≡ Wide Payoff number) × IsWidePayoff unit ps number)

pub payoff_fault_at : (unit : ℕ) (ps : List Ratio) (k : ℕ) (r : Ratio) (e : BuildFault) → k < length ps → r ≡ get_or ps k r → All (IsSmallPayoff unit) (take k ps)
    → (2 ^ 26 < unsigned_abs (units unit r)) × (e ≡ Wide Payoff (shown (unsigned_abs (units unit r)))) → PayoffFault unit ps e
payoff_fault_at unit ps k r e h at all f =
    inr (shown (unsigned_abs (units unit r)), f.1, wide_payoff_at unit ps k r (shown (unsigned_abs (units unit r))) h at all f.0 refl)

pub values_more : (unit : ℕ) (ps : List Ratio) (k : ℕ) (r : Ratio) (xs ys : List ℤ) (z : ℤ) → k < length ps → r ≡ get_or ps k r → xs ≡ map (units unit) (take k ps)
    → ys ≡ xs ++ z ∷ [] → z ≡ units unit r → ys ≡ map (units unit) (take (k + 1) ps)
values_more unit ps k r xs ys z h at so_far more is =
    more
    ∙ ap (λ l. l ++ z ∷ []) so_far
    ∙ ap (λ y. map (units unit) (take k ps) ++ y ∷ []) (is ∙ ap (units unit) at)
    ∙ sym (map_more (units unit) ps k r h)

abbrev pub game_units : ℕ → Nfg → List ℤ
game_units unit n = map (units unit) n.payoffs

abbrev pub inner : Vec ℤ Global → List ℤ
inner w = w.items

pub lists_more : (unit : ℕ) (games : List Nfg) (i : ℕ) (g : Nfg) (vs ws : List (Vec ℤ Global)) (v : Vec ℤ Global) → i < length games → g ≡ get_or games i g
    → map inner vs ≡ map (game_units unit) (take i games) → ws ≡ vs ++ v ∷ [] → v.items ≡ game_units unit g → map inner ws ≡ map (game_units unit) (take (i + 1) games)
lists_more unit games i g vs ws v h at so_far more is =
    ap (map inner) more
    ∙ map-append inner vs (v ∷ [])
    ∙ ap (λ l. l ++ v.items ∷ []) so_far
    ∙ ap (λ y. map (game_units unit) (take i games) ++ y ∷ []) (is ∙ ap (game_units unit) at)
    ∙ sym (map_more (game_units unit) games i g h)

abbrev payoffs_of : Nfg → List Ratio
payoffs_of n = n.payoffs

pub payoff_fault_in : (unit : ℕ) (games : List Nfg) (i : ℕ) (g : Nfg) (e : BuildFault) → i < length games → g ≡ get_or games i g → All (IsSmallPayoff unit) (payoffs_in (take i games))
    → PayoffFault unit g.payoffs e → PayoffFault unit (payoffs_in games) e
payoff_fault_in unit games i g e h at all (inl n) = inl n
payoff_fault_in unit games i g e h at all (inr w) =
    let split : payoffs_in games ≡ payoffs_in (take i games) ++ (g.payoffs ++ payoffs_in (drop (i + 1) games)) =
    games_all payoffs_of games (i + 1)
    ∙ ap (λ l. l ++ payoffs_in (drop (i + 1) games)) (games_more payoffs_of games i g h at)
    ∙ append_assoc (payoffs_in (take i games)) g.payoffs (payoffs_in (drop (i + 1) games)) in
    inr (w.0, w.1, subst (λ l. IsWidePayoff unit l w.0) (sym split) (wide_payoff_in unit (payoffs_in (take i games)) g.payoffs (payoffs_in (drop (i + 1) games)) w.0 all w.2))

pub all_more : (unit : ℕ) (games : List Nfg) (i : ℕ) (g : Nfg) → i < length games → g ≡ get_or games i g → All (IsSmallPayoff unit) (payoffs_in (take i games)) → All (IsSmallPayoff unit) g.payoffs
    → All (IsSmallPayoff unit) (payoffs_in (take (i + 1) games))
all_more unit games i g h at before here =
    subst (All (IsSmallPayoff unit)) (sym (games_more payoffs_of games i g h at)) (All-append (IsSmallPayoff unit) (payoffs_in (take i games)) g.payoffs before here)

-- ---- counts of a state
pub few_at : (games : List Nfg) (ss : List (List ℕ)) (s : ℕ) → All IsReadGame games → ss ≡ map (λ (n : Nfg). counts_of n.strategies) games → s < length games
    → (j : ℕ) → j < length (slice_index_or ss s []) → slice_index (slice_index_or ss s []) j ≤ 16
few_at games ss s read e h =
    let game = read s no_game h in
    let two : length (counts_of (get_or games s no_game).strategies) ≡ 2 = game.two_counts in
    subst (λ (x : List (List ℕ)). (j : ℕ) → j < length (slice_index_or x s []) → slice_index (slice_index_or x s []) j ≤ 16) (sym e)
    (subst (λ (ms : List ℕ). (j : ℕ) → j < length ms → slice_index ms j ≤ 16) (sym (counts_at games s h))
    (λ j l. game.few_strategies j (omega arith)))
