-- Rows of all candidates.
use Rattle.std.proofs.Common.{◌≡◌, ℕ, ◌<◌, ◌≤◌, ⊎_elim, List, [], length, get_or, sym, ap, subst, ◌∙◌, arith}
use Rattle.std.specs.Prelude.{ℤ, Contains}
use Rattle.std.proofs.lemmas.Bool.{cases_lt}
use Rattle.std.proofs.lemmas.List.{length-map, get_or_default, get_or_past, ext_get_or}
use Rattle.std.proofs.lemmas.List.Elements.{All-contains, Contains-get_or}
use Rattle.game_model.specs.Game.{DynamicGame, states}
use Rattle.hull_weights.specs.Hull.{point_at}
use Rattle.inner_sets.specs.declared.item.Item.{Item}
use Rattle.inner_sets.specs.Candidates.{IsAscending, IsCandidate, Precedes}
use Rattle.inner_sets.specs.Choice.{sublist}
use Rattle.inner_sets.specs.Rows.{points_in, no_item, item_at, row_at, IsFullRow, AreOpen}
use Rattle.inner_sets.proofs.Lists.{All-at}
use Rattle.inner_sets.proofs.Rounds.{sublist_row, point_in}

pub full_row : (g : DynamicGame) (n s : ℕ) (points : List (List ℤ)) (items : List Item) → IsAscending points → ((v : List ℤ) → (Contains points v → IsCandidate g n s v) × (IsCandidate g n s v → Contains points v))
    → points_in items ≡ points → ((k : ℕ) → k < length items → (item_at items k).profile ≡ 0) → IsFullRow g n s items
full_row g n s points items order exactly same first =
    let long : length items ≡ length points = sym (length-map items (λ (x : Item). x.point)) ∙ ap length same in
    record {
      row = record {
        ascending = λ i j d less below.
            let other : i < length items = omega arith in
            let e : get_or points i [] ≡ (get_or items i d).point = ap (λ (xs : List (List ℤ)). get_or xs i []) (sym same) ∙ (point_in items i [] other ∙ ap (λ (x : Item). x.point) (get_or_default items i no_item d other)) in
            let f : get_or points j [] ≡ (get_or items j d).point = ap (λ (xs : List (List ℤ)). get_or xs j []) (sym same) ∙ (point_in items j [] below ∙ ap (λ (x : Item). x.point) (get_or_default items j no_item d below)) in
            subst (λ (v : List ℤ). Precedes v (get_or items j d).point) e (subst (λ (w : List ℤ). Precedes (get_or points i []) w) f (order i j [] less (omega (arith, long, below))));
        candidates = All-at (λ (x : Item). IsCandidate g n s x.point) items no_item
            (λ k below. subst (λ (v : List ℤ). IsCandidate g n s v) (ap (λ (xs : List (List ℤ)). get_or xs k []) (sym same) ∙ point_in items k [] below)
            ((exactly (get_or points k [])).0 (Contains-get_or points k [] (omega (arith, long, below)))));
      };
      all = λ v candidate. subst (λ (xs : List (List ℤ)). Contains xs v) (sym same) ((exactly v).1 candidate);
      start = All-at (λ (x : Item). x.profile ≡ 0) items no_item first;
    }

pub open_from_full : (g : DynamicGame) (n : ℕ) (rows : List (List Item)) → length rows ≡ states g → ((t : ℕ) → t < states g → IsFullRow g n t (row_at rows t)) → AreOpen g n rows
open_from_full g n rows one_each full = record {
  one_each = one_each;
  each = λ s state. (full s state).row;
  enough = λ other choice s v there.
      ⊎_elim
      (λ (state : s < states g). subst (λ (xs : List (List ℤ)). Contains xs v) (sym (sublist_row rows s)) ((full s state).all v (All-contains (IsCandidate g n s) (sublist other s) v (choice.candidates s state) there)))
      (λ (past : states g ≤ s). absurd (nothing v (subst (λ (xs : List (List ℤ)). Contains xs v) (get_or_past other s [] (omega (arith, choice.one_list_each, past))) there)))
      (cases_lt s (states g));
  failed = λ s state k d below b less meets. let zero : (get_or (row_at rows s) k d).profile ≡ 0 = (full s state).start k d below in omega (arith, zero, less);
}
  where
    nothing : (v : List ℤ) → Contains [] v → ⊥
    nothing v (k, below, is) = omega arith

-- what `Row::of` makes
pub made_points : (points : List (List ℤ)) (items : List Item) → length items ≡ length points → ((j : ℕ) → j < length points → item_at items j ≡ record { point = point_at points j; profile = 0 }) → points_in items ≡ points
made_points points items long each = ext_get_or [] (points_in items) points (length-map items (λ (x : Item). x.point) ∙ long)
    (λ k below.
    let inside : k < length items = omega (arith, length-map items (λ (x : Item). x.point)) in
    point_in items k [] inside ∙ ap (λ (x : Item). x.point) (each k (omega (arith, long, inside))))
