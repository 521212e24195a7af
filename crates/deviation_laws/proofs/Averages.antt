-- What follows a strategy at an entry that is generated: which entries, and that the player doesn't gain on their average.
use Rattle.std.proofs.Common.{◌≡◌, ◌≢◌, ℕ, zero, suc, ◌-◌, ◌*◌, ◌<◌, Bool, true, false, inl, inr, List, [], ◌∷◌, length, get_or, refl, ap, sym, ◌∙◌, arith, nat_eq, if◌then◌else◌}
use Rattle.std.specs.Prelude.{ℤ, pos, ◌+ℤ◌, ◌*ℤ◌, ◌≤ℤ◌, slice_index}
use Rattle.std.proofs.Math.ListN.{set}
use Rattle.std.proofs.lemmas.List.{set-get_or, get_or_read}
use Rattle.std.proofs.lemmas.Bool.Decides.{nat_tests, eqb_tells}
use Rattle.std.proofs.lemmas.Bool.{eq-eqb}
use Rattle.exact_algebra.specs.Poly.{var, lit, ◌⊕◌, ◌⊗◌}
use Rattle.exact_algebra.proofs.Normal.{ring}
use Rattle.exact_algebra.proofs.Order.{at_most_from_same}
use Rattle.game_model.specs.Game.{DynamicGame, IsGame, IsProfile, IsDeviation, states, counts, profile_number, strategies_of, strategy_at, successor, payoff_at}
use Rattle.game_model.specs.SelfGeneration.{Entry, Correspondence, IsGenerated, entries_of, entry_at, part, total_weight, weighted_part, profile_of, punishment}
use Rattle.game_model.proofs.Profiles.{strategies_of-profile_number, profile_number_below, IsProfile-set}
use Rattle.selfgen_check.proofs.Profiles.{one_each, plays}
use Rattle.deviation_laws.specs.Plans.{profile_after, state_after, outcomes_after}

-- the payoff after the strategy, discounted, in units of the entries' parts times q
abbrev pub now_of : DynamicGame → Correspondence → ℕ → Entry → ℕ → ℕ → ℤ
now_of g c s e i b = pos ((g.q - slice_index g.discounts i) * c.scale) *ℤ payoff_at g s (profile_after g s e i b) i

pub record Follows (g : DynamicGame) (c : Correspondence) (s : ℕ) (e : Entry) (i b : ℕ) (os : List (ℕ × ℕ)) : Type 0 where
  pub next : state_after g s e i b < states g
  pub known : (j : ℕ) → j < length os → (get_or os j (0, 0)).0 < length (entries_of c (state_after g s e i b))
  pub weight : 0 < total_weight os
  pub bound : ((now_of g c s e i b *ℤ pos (total_weight os)) +ℤ (pos (slice_index g.discounts i) *ℤ weighted_part (entries_of c (state_after g s e i b)) i os))
      ≤ℤ ((pos g.q *ℤ part e.point i) *ℤ pos (total_weight os))

-- the entry's own strategy leads to its own profile
stays : (g : DynamicGame) (s : ℕ) (e : Entry) (i : ℕ) → IsProfile (counts g s) e.profile → profile_after g s e i (strategy_at g s (profile_of g s e) i) ≡ profile_of g s e
stays g s e i fits =
    ap (λ (xs : List ℕ). profile_number (counts g s) xs) (set-get_or (strategies_of (counts g s) (profile_of g s e)) i 0)
    ∙ ap (λ (xs : List ℕ). profile_number (counts g s) xs) (strategies_of-profile_number (counts g s) e.profile fits)

-- each strategy leads to a state
pub after_known : (g : DynamicGame) (s : ℕ) (e : Entry) (i b : ℕ) → IsGame g → s < states g → IsProfile (counts g s) e.profile → i < g.players → b < slice_index (counts g s) i → state_after g s e i b < states g
after_known g s e i b ok state fits player within =
    let ms : List ℕ = counts g s in
    let n : length ms ≡ g.players = one_each g s ok state in
    let back : strategies_of ms (profile_of g s e) ≡ e.profile = strategies_of-profile_number ms e.profile fits in
    let changed : IsProfile ms (set (strategies_of ms (profile_of g s e)) i b) = rw back (IsProfile-set ms e.profile i b fits (omega arith) within) in
    (ok.each_state s state).next_known (profile_after g s e i b) (profile_number_below ms (set (strategies_of ms (profile_of g s e)) i b) changed)

-- after the entry's own strategy
bound_own : (q d scale weights : ℕ) (n u w : ℤ) → pos (q * weights) *ℤ n ≡ (pos ((q - d) * weights * scale) *ℤ u) +ℤ (pos d *ℤ w) →
    (((pos ((q - d) * scale) *ℤ u) *ℤ pos weights) +ℤ (pos d *ℤ w)) ≤ℤ ((pos q *ℤ n) *ℤ pos weights)
bound_own q d scale weights n u w h =
    let l : (pos ((q - d) * scale) *ℤ u) *ℤ pos weights ≡ pos ((q - d) * weights * scale) *ℤ u =
    ring (pos (q - d) ∷ pos scale ∷ u ∷ pos weights ∷ []) (((var 0 ⊗ var 1) ⊗ var 2) ⊗ var 3) (((var 0 ⊗ var 3) ⊗ var 1) ⊗ var 2) refl in
    let r : (pos q *ℤ n) *ℤ pos weights ≡ pos (q * weights) *ℤ n = ring (pos q ∷ n ∷ pos weights ∷ []) ((var 0 ⊗ var 1) ⊗ var 2) ((var 0 ⊗ var 2) ⊗ var 1) refl in
    at_most_from_same _ _ (ap (λ z. z +ℤ (pos d *ℤ w)) l ∙ (sym h ∙ sym r))

-- after a deviation
bound_other : (u v h n : ℤ) → (u +ℤ (v *ℤ h)) ≤ℤ n → ((u *ℤ pos 1) +ℤ (v *ℤ ((pos 1 *ℤ h) +ℤ pos 0))) ≤ℤ (n *ℤ pos 1)
bound_other u v h n k =
    let l : (u *ℤ pos 1) +ℤ (v *ℤ ((pos 1 *ℤ h) +ℤ pos 0)) ≡ u +ℤ (v *ℤ h) = ring (u ∷ v ∷ h ∷ []) ((var 0 ⊗ lit (pos 1)) ⊕ (var 1 ⊗ ((lit (pos 1) ⊗ var 2) ⊕ lit (pos 0)))) (var 0 ⊕ (var 1 ⊗ var 2)) refl in
    let r : n *ℤ pos 1 ≡ n = ring (n ∷ []) (var 0 ⊗ lit (pos 1)) (var 0) refl in
    rw (l, r) k

follows_by : (g : DynamicGame) (c : Correspondence) (s : ℕ) (e : Entry) (i b : ℕ) → IsGame g → s < states g → IsGenerated g c s e → i < g.players → b < slice_index (counts g s) i →
    (t : Bool) → nat_eq b (strategy_at g s (profile_of g s e) i) ≡ t → Follows g c s e i b (if t then e.lottery else ((punishment g s e i b, 1) ∷ []))
follows_by g c s e i b ok state made player within true h =
    let same : b ≡ strategy_at g s (profile_of g s e) i = grind (arith, nat_tests) in
    let back : profile_after g s e i b ≡ profile_of g s e = ap (λ (x : ℕ). profile_after g s e i x) same ∙ stays g s e i made.profile in
    record {
      next = after_known g s e i b ok state made.profile player within;
      known = rw back made.lottery;
      weight = made.weights;
      bound = rw back (bound_own g.q (slice_index g.discounts i) c.scale (total_weight e.lottery) (part e.point i) (payoff_at g s (profile_of g s e) i) (weighted_part (entries_of c (successor g s (profile_of g s e))) i e.lottery) (made.value i player));
    }
follows_by g c s e i b ok state made player within false h =
    let other : b ≢ strategy_at g s (profile_of g s e) i = λ x. absurd (differs b (strategy_at g s (profile_of g s e) i) h x) in
    let d : IsDeviation g s (profile_of g s e) i b = record { player = player; strategy = within; other = other } in
    record {
      next = after_known g s e i b ok state made.profile player within;
      known = one_known (punishment g s e i b) (length (entries_of c (state_after g s e i b))) (made.punishments i b d);
      weight = omega arith;
      bound = bound_other (now_of g c s e i b) (pos (slice_index g.discounts i)) (part (entry_at c (state_after g s e i b) (punishment g s e i b)).point i) (pos g.q *ℤ part e.point i) (made.incentive i b d);
    }
  where
    differs : (x y : ℕ) → nat_eq x y ≡ false → x ≡ y → ⊥
    differs x y h e = grind (arith, nat_tests)

    one_known : (x n : ℕ) → x < n → (j : ℕ) → j < 1 → (get_or {A = ℕ × ℕ} ((x, 1) ∷ []) j (0, 0)).0 < n
    one_known x n h zero k = h
    one_known x n h (suc j) k = absurd (omega arith)

pub follows : (g : DynamicGame) (c : Correspondence) (s : ℕ) (e : Entry) (i b : ℕ) → IsGame g → s < states g → IsGenerated g c s e → i < g.players → b < slice_index (counts g s) i →
    Follows g c s e i b (outcomes_after g s e i b)
follows g c s e i b ok state made player within = follows_by g c s e i b ok state made player within (nat_eq b (strategy_at g s (profile_of g s e) i)) refl

-- the two cases of what may follow
pub outcomes_own : (g : DynamicGame) (s : ℕ) (e : Entry) (i b : ℕ) → IsProfile (counts g s) e.profile → b ≡ get_or e.profile i 0 → outcomes_after g s e i b ≡ e.lottery
outcomes_own g s e i b fits h =
    let same : nat_eq b (strategy_at g s (profile_of g s e) i) ≡ true = eq-eqb b (strategy_at g s (profile_of g s e) i) (h ∙ sym (plays g s e i fits)) in
    ap (λ (t : Bool). if t then e.lottery else ((punishment g s e i b, 1) ∷ [])) same

unequal : (x y : ℕ) → x ≢ y → nat_eq x y ≡ false
unequal x y h = elim (eqb_tells x y) [
  | inl p ↦ absurd (h p.1)
  | inr p ↦ p.0
]

pub outcomes_other : (g : DynamicGame) (s : ℕ) (e : Entry) (i b : ℕ) → IsProfile (counts g s) e.profile → b ≢ get_or e.profile i 0 → outcomes_after g s e i b ≡ (punishment g s e i b, 1) ∷ []
outcomes_other g s e i b fits h =
    let other : nat_eq b (strategy_at g s (profile_of g s e) i) ≡ false = unequal b (strategy_at g s (profile_of g s e) i) (λ x. h (x ∙ plays g s e i fits)) in
    ap (λ (t : Bool). if t then e.lottery else ((punishment g s e i b, 1) ∷ [])) other

-- what is read at a place, whatever stands for a missing item
pub own_read : (xs ys : List ℕ) (i x : ℕ) → xs ≡ ys → x ≡ get_or xs i x → i < length ys → x ≡ get_or ys i 0
own_read xs ys i x e h within = get_or_read ys i x within (rw e at h) 0
