use Rattle.std.proofs.Common.{◌≡◌, ℕ, zero, suc, ◌+◌, ◌-◌, ◌*◌, ◌<◌, ◌⊎◌, inl, inr, refl, sym, subst, arith}
use Rattle.std.specs.Prelude.{pos, ◌<ℤ◌}
use Rattle.lp_core.specs.Bounds.{IsBoxRow, IsMissedRow, left_entry, left_side}
use Rattle.lp_core.specs.Lines.{line_at}
use Rattle.lp_core.specs.Planar.{lines_of, pivot_of, reach_of}
use Rattle.lp_core.proofs.Ends.{ends_more}
use Rattle.lp_core.proofs.edge.Edge.box_ends.Goals as goal

-- the rows of the box, by the place of the variable that goes
four : (place l : ℕ) → place < 2 → l < 4 → ((IsBoxRow (1 - place) l) ⊎ (l ≡ 2 * place)) ⊎ (l ≡ 2 * place + 1)
four zero zero p l = inl (inr refl)
four zero (suc zero) p l = inr refl
four zero (suc (suc zero)) p l = inl (inl (inl refl))
four zero (suc (suc (suc zero))) p l = inl (inl (inr refl))
four (suc zero) zero p l = inl (inl (inl refl))
four (suc zero) (suc zero) p l = inl (inl (inr refl))
four (suc zero) (suc (suc zero)) p l = inl (inr refl)
four (suc zero) (suc (suc (suc zero))) p l = inr refl
four place (suc (suc (suc (suc n)))) p l = absurd (omega (arith, l))
four (suc (suc n)) l p h = absurd (omega (arith, p))

more : (place : ℕ) → place < 2 → 2 * place + 1 < 4
more place p = omega (arith, p)

pub returns-in-Err : goal.returns-in-Err
returns-in-Err c =
    let planar = c.args.self.now.planar in
    let v = pivot_of c.args.self.now in
    let k = 1 - c.args.self.now.place in
    let lines = lines_of c.args.rows.now in
    let h : (c.in-Err.l ≡ 2 * c.args.self.now.place) × IsMissedRow lines v k (2 * c.args.self.now.place) = c.in-Err.ensures in
    let e = h.0 in
    record {
      row = omega (arith, e, planar);
      none = subst (λ n. left_entry v (line_at lines n) k ≡ pos 0) (sym h.0) h.1.none;
      side = subst (λ n. left_side v (line_at lines n) <ℤ pos 0) (sym h.0) h.1.below;
    }

pub returns-in-Err-with_row : goal.returns-in-Err-with_row
returns-in-Err-with_row c =
    let planar = c.args.self.now.planar in
    let v = pivot_of c.args.self.now in
    let k = 1 - c.args.self.now.place in
    let lines = lines_of c.args.rows.now in
    let h : (c.in-Err-with_row.l ≡ 2 * c.args.self.now.place + 1) × IsMissedRow lines v k (2 * c.args.self.now.place + 1) = c.in-Err-with_row.ensures in
    let e = h.0 in
    record {
      row = omega (arith, e, planar);
      none = subst (λ n. left_entry v (line_at lines n) k ≡ pos 0) (sym h.0) h.1.none;
      side = subst (λ n. left_side v (line_at lines n) <ℤ pos 0) (sym h.0) h.1.below;
    }

pub returns-in-Ok-with_row : goal.returns-in-Ok-with_row
returns-in-Ok-with_row c =
    let planar = c.args.self.now.planar in
    let place = c.args.self.now.place in
    let v = pivot_of c.args.self.now in
    let k = 1 - place in
    let lines = lines_of c.args.rows.now in
    let first = ends_more lines v k (2 * place) (IsBoxRow k) (λ i. IsBoxRow k i ⊎ (i ≡ 2 * place)) (λ i. i < 4) (λ i h. h) (reach_of c.other_ends.result) (reach_of c.in-Ok.ends) _ _ c.other_ends.ensures c.in-Ok.ensures (omega (arith, planar)) refl refl in
    ends_more lines v k (2 * place + 1) (λ i. IsBoxRow k i ⊎ (i ≡ 2 * place)) (λ i. i < 4) (λ i. i < 4) (λ i h. four place i planar h) (reach_of c.in-Ok.ends) (reach_of c.in-Ok-with_row.ends) _ _ first c.in-Ok-with_row.ensures (more place planar) refl refl
