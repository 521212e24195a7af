-- The game of texts keeps the limits, and has the shape of its lists.
use Rattle.std.proofs.Common.{◌≡◌, ℕ, zero, suc, ◌^◌, ◌<◌, ◌≤◌, List, [], ◌∷◌, length, map, get_or, Some, None, refl, sym, ap, subst, ◌∙◌, arith}
use Rattle.std.specs.Prelude.{ℤ, pos, neg_ℤ, ◌<ℤ◌, ◌≤ℤ◌, slice_index, slice_index_or}
use Rattle.std.specs.List.{All}
use Rattle.std.specs.Int.RustNames.{unsigned_abs}
use Rattle.std.proofs.lemmas.Int.{ints}
use Rattle.std.proofs.lemmas.List.{get_or-map, length-map}
use Rattle.std.proofs.lemmas.Nat.Gcd.{le_of_dvd}
use Rattle.pay_frac.specs.Ratio.{Ratio}
use Rattle.nfg_text.specs.declared.nfg.Nfg.{Nfg}
use Rattle.nfg_text.specs.declared.nfg.Strategies.TheVariants.{Counts}
use Rattle.nfg_text.specs.Grammar.{counts_of}
use Rattle.nfg_text.specs.ReadGame.{IsReadGame}
use Rattle.game_model.specs.declared.parts.ShapeFault.{ShapeFault}
use Rattle.game_model.specs.declared.parts.GameParts.{GameParts}
use Rattle.game_model.specs.Game.{DynamicGame, IsGame, states, Divides, IsLeastCommonMultiple}
use Rattle.game_model.specs.Parts.{KeepLimits, IsFirstFault, HasNoFault, shape_fault, list_fault, shape_of, game_of}
use Rattle.dyn_text.specs.declared.transitions.Dyn.{Dyn}
use Rattle.dyn_text.specs.declared.transitions.DynState.{DynState}
use Rattle.dyn_text.specs.Assembled.{payoffs_in, units, game_of_texts, shape_of_texts, AreTexts, IsDiscount}
use Rattle.dyn_text.specs.BuildFaults.{IsSmallPayoff, IsUnit}
use Rattle.dyn_text.proofs.Multiples.{one_multiple, to_dvd}
use Rattle.dyn_text.proofs.Payoffs.{all_in, between}

abbrev pub no_game : Nfg
no_game = record { title = []; players = []; strategies = Counts []; comment = None; payoffs = [] }

abbrev zero_ratio : Ratio
zero_ratio = record { num = pos 0; den = pos 1 }

-- ---- lists of a state
pub counts_at : (games : List Nfg) (s : ℕ) → s < length games → slice_index_or (map (λ (n : Nfg). counts_of n.strategies) games) s [] ≡ counts_of (get_or games s no_game).strategies
counts_at games s h = get_or-map (λ (n : Nfg). counts_of n.strategies) games s no_game [] h

payoffs_at : (unit : ℕ) (games : List Nfg) (s : ℕ) → s < length games → slice_index_or (map (λ (n : Nfg). map (units unit) n.payoffs) games) s [] ≡ map (units unit) (get_or games s no_game).payoffs
payoffs_at unit games s h = get_or-map (λ (n : Nfg). map (units unit) n.payoffs) games s no_game [] h

-- how many payoffs a state has, whatever is made of each
payoffs_count : {A : Type 0} (f : Ratio → A) (games : List Nfg) (s : ℕ) → length (slice_index_or (map (λ (n : Nfg). map f n.payoffs) games) s []) ≡ length (slice_index_or (map (λ (n : Nfg). n.payoffs) games) s [])
payoffs_count f [] s = refl
payoffs_count f (n ∷ games) zero = length-map n.payoffs f
payoffs_count f (n ∷ games) (suc s) = payoffs_count f games s

same_count : (unit : ℕ) (games : List Nfg) (s : ℕ) → length (slice_index_or (map (λ (n : Nfg). map (units unit) n.payoffs) games) s []) ≡ length (slice_index_or (map (λ (n : Nfg). map (λ (r : Ratio). r.num) n.payoffs) games) s [])
same_count unit games s = payoffs_count (units unit) games s ∙ sym (payoffs_count (λ (r : Ratio). r.num) games s)

-- ---- the shape of the game is that of the lists
abbrev pub parts_game : Dyn → List Nfg → Ratio → ℕ → DynamicGame
parts_game d games r unit = record (game_of_texts d games r unit) { base = 1 }

same_shape : (d : Dyn) (games : List Nfg) (r : Ratio) (unit s : ℕ) → shape_fault (parts_game d games r unit) s ≡ shape_fault (shape_of_texts d games) s
same_shape d games r unit s =
    ap (λ n. list_fault 2 (length (map (λ (n : Nfg). counts_of n.strategies) games)) s (slice_index_or (map (λ (n : Nfg). counts_of n.strategies) games) s []) n (slice_index_or (map (λ (x : DynState). x.next) d.states) s [])) (same_count unit games s)

some_none : {X : Type 0} {x : X} → Some x ≡ None → ⊥
some_none e = cc

-- where the lists have no fault, neither has the game
pub no_fault_built : (d : Dyn) (games : List Nfg) (r : Ratio) (unit : ℕ) (f : ShapeFault) → HasNoFault (shape_of_texts d games) → IsFirstFault (parts_game d games r unit) f → ⊥
no_fault_built d games r unit f none first =
    some_none (sym first.here ∙ same_shape d games r unit f.state ∙ none f.state first.known)

-- a game has a first fault or none
pub first_excluded : (g : DynamicGame) (f : ShapeFault) → HasNoFault g → IsFirstFault g f → ⊥
first_excluded g f none first = some_none (sym first.here ∙ none f.state first.known)

-- ---- limits
positive_parts : (r : Ratio) → IsDiscount r → (0 < unsigned_abs r.num) × (unsigned_abs r.num < unsigned_abs r.den)
positive_parts r d =
    let p : pos 0 <ℤ r.num = d.positive in
    let q : r.num <ℤ r.den = d.below in
    (omega (arith, ints), omega (arith, ints))

both : (P : ℕ → Type 0) (p i : ℕ) → P p → i < 2 → P (slice_index (p ∷ p ∷ []) i)
both P p zero h lt = h
both P p (suc zero) h lt = h
both P p (suc (suc i)) h lt = absurd (omega arith)

pub keep_limits : (d : Dyn) (games : List Nfg) (r : Ratio) (unit : ℕ) → AreTexts d games → IsDiscount r → unsigned_abs r.den ≤ 1024 → IsUnit games unit → All (IsSmallPayoff unit) (payoffs_in games) → KeepLimits (parts_game d games r unit)
keep_limits d games r unit t discount small u all =
    let p = unsigned_abs r.num in
    let q = unsigned_abs r.den in
    let parts = positive_parts r discount in
    let positive : 0 < unit = u.least.positive in
    let within : unit ≤ 2 ^ 40 = u.within in
    let some : 1 ≤ length games = t.some_state in
    let few : length games ≤ 64 = t.few_states in
    let n : length (map (λ (n : Nfg). counts_of n.strategies) games) ≡ length games = length-map games (λ (n : Nfg). counts_of n.strategies) in
    let m : length (map (λ (n : Nfg). map (units unit) n.payoffs) games) ≡ length games = length-map games (λ (n : Nfg). map (units unit) n.payoffs) in
    let k : length (map (λ (x : DynState). x.next) d.states) ≡ length d.states = length-map d.states (λ (x : DynState). x.next) in
    record {
      two_players = omega arith;
      three_players = omega arith;
      some_state = omega arith;
      few_states = omega arith;
      payoffs_listed = m ∙ sym n;
      next_listed = k ∙ sym t.one_each ∙ sym n;
      some_strategy = λ s i known below. some_strategy s i (omega arith) below;
      few_strategies = λ s i known below. few_strategies s i (omega arith) below;
      payoffs_small = λ s j known below. small_payoff s j (omega arith) below;
      denominator_positive = omega (arith, ints);
      denominator_small = omega (arith, ints);
      discounts_listed = refl;
      discounts_positive = λ i below. both (λ x. 0 < x) p i parts.0 below;
      discounts_below = λ i below. both (λ x. x < q) p i parts.1 below;
      q_small = small;
      lowest = λ c of_q each. le_of_dvd (omega arith) (discount.lowest.coprime.2 c (to_dvd c p (each 0 (omega arith))) (to_dvd c q of_q));
    }
  where
    here : (s : ℕ) → s < length games → IsReadGame (get_or games s no_game)
    here s h = t.read s no_game h

    some_strategy : (s i : ℕ) → s < length games → i < length (slice_index_or (map (λ (n : Nfg). counts_of n.strategies) games) s []) → 1 ≤ slice_index (slice_index_or (map (λ (n : Nfg). counts_of n.strategies) games) s []) i
    some_strategy s i h =
        let two : length (counts_of (get_or games s no_game).strategies) ≡ 2 = (here s h).two_counts in
        subst (λ (ms : List ℕ). i < length ms → 1 ≤ slice_index ms i) (sym (counts_at games s h)) (λ l. (here s h).some_strategy i (omega arith))

    few_strategies : (s i : ℕ) → s < length games → i < length (slice_index_or (map (λ (n : Nfg). counts_of n.strategies) games) s []) → slice_index (slice_index_or (map (λ (n : Nfg). counts_of n.strategies) games) s []) i ≤ 16
    few_strategies s i h =
        let two : length (counts_of (get_or games s no_game).strategies) ≡ 2 = (here s h).two_counts in
        subst (λ (ms : List ℕ). i < length ms → slice_index ms i ≤ 16) (sym (counts_at games s h)) (λ l. (here s h).few_strategies i (omega arith))

    small_payoff : (s j : ℕ) → s < length games → j < length (slice_index_or (map (λ (n : Nfg). map (units unit) n.payoffs) games) s [])
        → (neg_ℤ (pos (2 ^ 26)) ≤ℤ slice_index_or (slice_index_or (map (λ (n : Nfg). map (units unit) n.payoffs) games) s []) j (pos 0)) × (slice_index_or (slice_index_or (map (λ (n : Nfg). map (units unit) n.payoffs) games) s []) j (pos 0) ≤ℤ pos (2 ^ 26))
    small_payoff s j h =
        let ps = (get_or games s no_game).payoffs in
        let each : All (IsSmallPayoff unit) ps = all_in (IsSmallPayoff unit) (λ (n : Nfg). n.payoffs) games s no_game all h in
        let length_is : length (map (units unit) ps) ≡ length ps = length-map ps (units unit) in
        subst (λ (us : List ℤ). j < length us → (neg_ℤ (pos (2 ^ 26)) ≤ℤ slice_index_or us j (pos 0)) × (slice_index_or us j (pos 0) ≤ℤ pos (2 ^ 26))) (sym (payoffs_at unit games s h))
        (λ l.
        let inside : j < length ps = omega arith in
        subst (λ (z : ℤ). (neg_ℤ (pos (2 ^ 26)) ≤ℤ z) × (z ≤ℤ pos (2 ^ 26))) (sym (get_or-map (units unit) ps j zero_ratio (pos 0) inside))
        (between (units unit (get_or ps j zero_ratio)) (2 ^ 26) (each j zero_ratio inside)))

-- ---- the game that is built
self : (p : ℕ) → Divides p p
self p = (1, omega arith)

pair_multiple : (p : ℕ) → 0 < p → IsLeastCommonMultiple (p ∷ p ∷ []) p
pair_multiple p h = record {
  positive = h;
  multiple = λ i below. both (λ x. Divides x p) p i (self p) below;
  least = λ c each. each 0 (omega arith);
}

pub game_is : (d : Dyn) (games : List Nfg) (r : Ratio) (unit : ℕ) (parts : GameParts) (g : DynamicGame) → IsDiscount r → shape_of parts ≡ parts_game d games r unit → g ≡ game_of parts g.base → IsGame g → g ≡ game_of_texts d games r unit
game_is d games r unit parts g discount shape built ok =
    let p = unsigned_abs r.num in
    let whole : g ≡ record (game_of_texts d games r unit) { base = g.base } = built ∙ ap (λ (h : DynamicGame). record h { base = g.base }) shape in
    let discounts : g.discounts ≡ p ∷ p ∷ [] = ap (λ (h : DynamicGame). h.discounts) whole in
    let base : g.base ≡ p = one_multiple (p ∷ p ∷ []) g.base p (subst (λ (ps : List ℕ). IsLeastCommonMultiple ps g.base) discounts ok.base_least) (pair_multiple p (positive_parts r discount).0) in
    whole ∙ ap (λ (b : ℕ). record (game_of_texts d games r unit) { base = b }) base
