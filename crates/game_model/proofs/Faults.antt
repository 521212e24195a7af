-- what a state without a fault keeps, and which state a fault names
use Rattle.std.proofs.Common.{◌≡◌, ℕ, zero, suc, ◌*◌, ◌<◌, List, [], ◌∷◌, length, map, get_or, Vec, vec_len, Option, Some, None, Bool, true, false, cond, not, refl, sym, ◌∙◌, arith}
use Rattle.std.specs.List.{find}
use Rattle.std.specs.Prelude.{nat_le, slice_index_or, ℤ}
use Rattle.std.specs.Global.{Global}
use Rattle.std.proofs.lemmas.Bool.{eqb-true, leb-false}
use Rattle.std.proofs.lemmas.List.{length-map}
use Rattle.game_model.specs.declared.parts.GameParts.{GameParts}
use Rattle.game_model.specs.Game.{DynamicGame, IsGame, IsState, IsLeastCommonMultiple, states, counts, profile_count}
use Rattle.game_model.specs.Parts.{fault_of_successor, list_fault, shape_fault, shape_of, game_of, KeepLimits}
use Rattle.game_model.proofs.Lists.{inner_at, inner_length}

-- a test that gives nothing was passed, and so was the rest
passed : {X : Type 0} (b : Bool) (x : X) (r : Option X) → cond (not b) (Some x) r ≡ None → (b ≡ true) × (r ≡ None)
passed true x r e = (refl, e)
passed false x r e = cc

passed_find : (b : Bool) (x : ℕ) (r : Option ℕ) → cond b (Some x) r ≡ None → (b ≡ false) × (r ≡ None)
passed_find true x r e = cc
passed_find false x r e = (refl, e)

find_none : (p : ℕ → Bool) (xs : List ℕ) → find p xs ≡ None → (i : ℕ) → i < length xs → p (get_or xs i 0) ≡ false
find_none p [] e i below = absurd (omega arith)
find_none p (x ∷ xs) e zero below = (passed_find (p x) x (find p xs) e).0
find_none p (x ∷ xs) e (suc i) below = find_none p xs (passed_find (p x) x (find p xs) e).1 i (omega arith)

none_from_fault : (s n : ℕ) (found : Option ℕ) → fault_of_successor s n found ≡ None → found ≡ None
none_from_fault s n None e = refl
none_from_fault s n (Some t) e = cc

-- what lists without a fault keep
pub record Fit (players n : ℕ) (sizes : List ℕ) (payoffs : ℕ) (next : List ℕ) : Type 0 where
  pub one_each : length sizes ≡ players
  pub payoffs_fit : payoffs ≡ profile_count sizes * players
  pub next_fit : length next ≡ profile_count sizes
  pub next_known : (a : ℕ) → a < length next → get_or next a 0 < n

pub fit_from_none : (players n s : ℕ) (sizes : List ℕ) (payoffs : ℕ) (next : List ℕ) → list_fault players n s sizes payoffs next ≡ None → Fit players n sizes payoffs next
fit_from_none players n s sizes payoffs next e =
    let p = passed _ _ _ e in
    let q = passed _ _ _ p.1 in
    let r = passed _ _ _ q.1 in
    record {
      one_each = eqb-true _ _ p.0;
      payoffs_fit = eqb-true _ _ q.0;
      next_fit = eqb-true _ _ r.0;
      next_known = λ a below. leb-false _ _ (find_none (λ t. nat_le n t) next (none_from_fault s n _ r.1) a below);
    }

-- a state without a fault is one of a game
pub state_from : (g : DynamicGame) → KeepLimits g → (s : ℕ) → s < states g → shape_fault g s ≡ None → IsState g s
state_from g limits s known none =
    let fit = fit_from_none g.players (states g) s (counts g s) (length (slice_index_or g.payoffs s [])) (slice_index_or g.next s []) none in
    record {
      one_each = fit.one_each;
      some_strategy = λ i below. limits.some_strategy s i known (omega (arith, fit.one_each));
      few_strategies = λ i below. limits.few_strategies s i known (omega (arith, fit.one_each));
      payoffs_fit = fit.payoffs_fit;
      next_fit = fit.next_fit;
      next_known = λ a below. fit.next_known a (omega (arith, fit.next_fit));
      payoffs_small = λ k below. limits.payoffs_small s k known below;
    }

-- parts whose states have no fault are a game, with the least common multiple as its base
pub game_from : (p : GameParts) (b : ℕ) → KeepLimits (shape_of p) → ((s : ℕ) → s < states (shape_of p) → shape_fault (shape_of p) s ≡ None) → IsLeastCommonMultiple p.discounts.items b → IsGame (game_of p b)
game_from p b limits none least =
    let state : (s : ℕ) → s < states (shape_of p) → IsState (shape_of p) s = λ (s : ℕ) (known : s < states (shape_of p)). state_from (shape_of p) limits s known (none s known) in
    record {
      two_players = limits.two_players;
      three_players = limits.three_players;
      some_state = limits.some_state;
      few_states = limits.few_states;
      payoffs_listed = limits.payoffs_listed;
      next_listed = limits.next_listed;
      each_state = λ s known. let t = state s known in record {
        one_each = t.one_each;
        some_strategy = t.some_strategy;
        few_strategies = t.few_strategies;
        payoffs_fit = t.payoffs_fit;
        next_fit = t.next_fit;
        next_known = t.next_known;
        payoffs_small = t.payoffs_small;
      };
      denominator_positive = limits.denominator_positive;
      denominator_small = limits.denominator_small;
      discounts_listed = limits.discounts_listed;
      discounts_positive = limits.discounts_positive;
      discounts_below = limits.discounts_below;
      q_small = limits.q_small;
      lowest = limits.lowest;
      base_least = least;
    }

-- the fault that the code finds over the lists of a state
pub same_fault : (p : GameParts) (s : ℕ) (sizes next : Vec ℕ Global) (payoffs : Vec ℤ Global) → length p.payoffs.items ≡ length p.strategies.items → length p.next.items ≡ length p.strategies.items → s < length p.strategies.items →
    sizes ≡ get_or p.strategies.items s sizes → payoffs ≡ get_or p.payoffs.items s payoffs → next ≡ get_or p.next.items s next →
    list_fault p.players (vec_len p.strategies) s sizes.items (vec_len payoffs) next.items ≡ shape_fault (shape_of p) s
same_fault p s sizes next payoffs u v known a b c =
    let e = inner_at p.strategies.items s sizes known a in
    let f = inner_length p.payoffs.items s payoffs (rw (length-map p.payoffs.items (λ (v : Vec ℤ Global). v.items)) (omega arith)) b in
    let h = inner_at p.next.items s next (omega arith) c in
    let n : length (map (λ (v : Vec ℕ Global). v.items) p.strategies.items) ≡ vec_len p.strategies = length-map p.strategies.items (λ (v : Vec ℕ Global). v.items) ∙ sym p.strategies.ok.0 in
    rw (e, f, h, n) refl
