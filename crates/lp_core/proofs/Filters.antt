-- Items without those that add nothing.
use Rattle.std.proofs.Common.{◌≡◌, ℕ, suc, ◌<◌, ◌≤◌, ◌^◌, List, [], ◌∷◌, length, get_or, refl, sym, ap, subst, ◌∙◌, arith}
use Rattle.std.specs.Prelude.{ℤ, pos, ◌+ℤ◌, ◌*ℤ◌, ◌<ℤ◌, ◌≤ℤ◌, All, Bool, true, false, cond}
use Rattle.std.specs.List.{filter}
use Rattle.std.specs.Int.RustNames.{unsigned_abs}
use Rattle.std.proofs.lemmas.Int.{ints}
use Rattle.std.proofs.lemmas.List.Elements.{All-filter, filter_passes, All-head, All-tail}
use Rattle.exact_algebra.specs.Poly.{var, lit, ◌⊕◌, ◌⊗◌}
use Rattle.exact_algebra.specs.Sums.{total_by}
use Rattle.exact_algebra.proofs.Normal.{ring}
use Rattle.lp_cert.specs.Program.{Program, entry, row_at}
use Rattle.lp_cert.specs.Certificate.{AreWeights, AreSmall, ProvesBound, ProvesEmpty}
use Rattle.lp_core.specs.Kept.{is_kept}

nothing : (m : ℤ) → is_kept (0, m) ≡ false → pos 0 ≤ℤ m → m ≡ pos 0
nothing m e h = grind (arith, ints)

kept_positive : (m : ℤ) → is_kept (0, m) ≡ true → pos 0 <ℤ m
kept_positive m e = grind (arith, ints)

same_sum : (g : ℕ → ℤ) (items : List (ℕ × ℤ)) → All (λ item. pos 0 ≤ℤ item.1) items → total_by (λ item. item.1 *ℤ g item.0) (filter is_kept items) ≡ total_by (λ item. item.1 *ℤ g item.0) items
same_sum g [] h = refl
same_sum g (item ∷ items) h = by_case (same_sum g items (All-tail (λ (item : ℕ × ℤ). pos 0 ≤ℤ item.1) item items h)) (is_kept item) refl
  where
    by_case : total_by (λ item. item.1 *ℤ g item.0) (filter is_kept items) ≡ total_by (λ item. item.1 *ℤ g item.0) items
        → (b : Bool) → is_kept item ≡ b → total_by (λ item. item.1 *ℤ g item.0) (cond b (item ∷ filter is_kept items) (filter is_kept items)) ≡ item.1 *ℤ g item.0 +ℤ total_by (λ item. item.1 *ℤ g item.0) items
    by_case rest true e = ap (λ z. item.1 *ℤ g item.0 +ℤ z) rest
    by_case rest false e =
        let none : item.1 ≡ pos 0 = nothing item.1 e (All-head (λ (item : ℕ × ℤ). pos 0 ≤ℤ item.1) item items h) in
        rest ∙ ring (g item.0 ∷ total_by (λ item. item.1 *ℤ g item.0) items ∷ []) (var 1) (lit (pos 0) ⊗ var 0 ⊕ var 1) refl
        ∙ ap (λ z. z *ℤ g item.0 +ℤ total_by (λ item. item.1 *ℤ g item.0) items) (sym none)

pub filter_few : (items : List (ℕ × ℤ)) → length (filter is_kept items) ≤ length items
filter_few [] = omega arith
filter_few (item ∷ items) = by_case (filter_few items) (is_kept item)
  where
    by_case : length (filter is_kept items) ≤ length items → (b : Bool) → length (cond b (item ∷ filter is_kept items) (filter is_kept items)) ≤ suc (length items)
    by_case h true = omega (arith, h)
    by_case h false = omega (arith, h)

pub all_positive : (items : List (ℕ × ℤ)) → All (λ item. pos 0 <ℤ item.1) (filter is_kept items)
all_positive items = λ k d l. kept_positive (get_or (filter is_kept items) k d).1 (filter_passes is_kept items k d l)

pub kept_small : (items : List (ℕ × ℤ)) → AreSmall items → AreSmall (filter is_kept items)
kept_small items h = All-filter is_kept (λ (item : ℕ × ℤ). unsigned_abs item.1 ≤ 2 ^ 20) items h

kept_weights : (p : Program) (items : List (ℕ × ℤ)) → AreWeights p items → AreWeights p (filter is_kept items)
kept_weights p items w = record {
  rows = All-filter is_kept (λ (item : ℕ × ℤ). item.0 < length p.rows) items w.rows;
  not_negative = All-filter is_kept (λ (item : ℕ × ℤ). pos 0 ≤ℤ item.1) items w.not_negative;
}

pub kept_bound : (p : Program) (o : List ℤ) (items : List (ℕ × ℤ)) (num den : ℤ) → ProvesBound p o items num den → ProvesBound p o (filter is_kept items) num den
kept_bound p o items num den b = record {
  positive = b.positive;
  weights = kept_weights p items b.weights;
  entries = λ k l. same_sum (λ r. entry (row_at p r).c k) items b.weights.not_negative ∙ b.entries k l;
  side = subst (λ z. z ≤ℤ num) (sym (same_sum (λ r. (row_at p r).h) items b.weights.not_negative)) b.side;
}

pub kept_empty : (p : Program) (items : List (ℕ × ℤ)) → ProvesEmpty p items → ProvesEmpty p (filter is_kept items)
kept_empty p items b = record {
  weights = kept_weights p items b.weights;
  entries = λ k l. same_sum (λ r. entry (row_at p r).c k) items b.weights.not_negative ∙ b.entries k l;
  side = subst (λ z. z <ℤ pos 0) (sym (same_sum (λ r. (row_at p r).h) items b.weights.not_negative)) b.side;
}
