use Rattle.std.proofs.Common.{◌≡◌, ◌≢◌, ◌⊎◌, ℕ, ◌+◌, ◌*◌, ◌<◌, length, inl, inr, ap, refl, sym, subst, ◌∙◌, arith}
use Rattle.std.specs.Prelude.{pos, negsuc, ◌<ℤ◌, true, false}
use Rattle.lp_core.specs.Bounds.{IsBoxRow, IsMissedRow, IsReach, IsSeenRow, Limit, left_entry, left_side}
use Rattle.lp_core.specs.Lines.{is_seen, line_at}
use Rattle.lp_core.specs.Wide.{reach_of}
use Rattle.lp_core.proofs.Boxes.{upper_seen, lower_seen}
use Rattle.lp_core.proofs.Edges.{box_left}
use Rattle.lp_core.proofs.Ends.{ends_more, own_ends}
use Rattle.lp_core.proofs.Lines.{half_box, or_last, reach_fewer}
use Rattle.lp_core.proofs.wide.ends.Goals as goal
use Rattle.lp_core.proofs.wide.ends.Goals.{then-l-k+then-is_seen+in-Ok, else-l-k, else-l-k-via-then-l-k+else-is_seen, else-l-k-via-else-l-k}

never : {A : Type 0} → false ≡ true → A
never e = absurd (grind (arith, e))

first : (k i : ℕ) (S : Type 0) → IsBoxRow k i ⊎ ((i < 0) × S) → IsBoxRow k i
first k i S (inl h) = h
first k i S (inr h) = absurd (omega (arith, h.0))

next : (k l i : ℕ) (S : Type 0) → IsBoxRow k i ⊎ ((i < l + 1) × S) → (IsBoxRow k i ⊎ ((i < l) × S)) ⊎ (i ≡ l)
next k l i S (inl h) = inl (inl h)
next k l i S (inr h) = by_case (or_last l i h.0)
  where
    by_case : (i < l) ⊎ (i ≡ l) → (IsBoxRow k i ⊎ ((i < l) × S)) ⊎ (i ≡ l)
    by_case (inl g) = inl (inr (g, h.1))
    by_case (inr g) = inr g

left_out : (k l i : ℕ) (seen : ℕ → Type 0) → (seen l → IsBoxRow k l) → IsBoxRow k i ⊎ ((i < l + 1) × seen i) → IsBoxRow k i ⊎ ((i < l) × seen i)
left_out k l i seen not h = by_case (next k l i (seen i) h) h
  where
    here : i ≡ l → seen i → IsBoxRow k i ⊎ ((i < l) × seen i)
    here g s = inl (subst (λ j. IsBoxRow k j) (sym g) (not (subst seen g s)))

    by_case : (IsBoxRow k i ⊎ ((i < l) × seen i)) ⊎ (i ≡ l) → IsBoxRow k i ⊎ ((i < l + 1) × seen i) → IsBoxRow k i ⊎ ((i < l) × seen i)
    by_case (inl g) h = g
    by_case (inr g) (inl b) = inl b
    by_case (inr g) (inr s) = here g s.1

pub loop-l-init : goal.loop-l-init
loop-l-init c =
    let P = c.args.program.now in
    let r = c.args.r in
    let v = c.args.pivot.now in
    let k = c.args.k in
    let o = c.requires.other in
    let box = c.requires.within in
    let rows = IsSeenRow P r in
    let e = reach_of c.box_ends-ends.result in
    let up = c.box_ends-ends.ensures.upper in
    let lo = c.box_ends-ends.ensures.lower in
    let inside = box.within in
    let apart : v.place ≢ k = λ f. o.apart (sym f) in
    let u = box_left v (line_at P.lines (2 * k)) k (pos 1) box.upper o.inside apart in
    let l = box_left v (line_at P.lines (2 * k + 1)) k (negsuc 0) box.lower o.inside apart in
    reach_fewer P.lines v k (IsBoxRow k) (λ i. IsBoxRow k i ⊎ ((i < 0) × (is_seen P.live r i ≡ true))) rows rows e (λ i h. first k i (is_seen P.live r i ≡ true) h) (λ i h. h)
    (own_ends P.lines v k rows e (omega (arith, inside), upper_seen P.live r k o.inside o.stays) (inside, lower_seen P.live r k o.inside o.stays)
    (ap (λ (z : Limit). z.row) up) (ap (λ (z : Limit). z.row) lo) (ap (λ (z : Limit). z.entry) up) (ap (λ (z : Limit). z.entry) lo) u.0 l.0
    (ap (λ (z : Limit). z.side) up ∙ sym u.1) (ap (λ (z : Limit). z.side) lo ∙ sym l.1))

pub loop-l-preserved : goal.loop-l-preserved
loop-l-preserved c =
    let P = c.args.program.now in
    let r = c.args.r in
    let v = c.args.pivot.now in
    let k = c.args.k in
    let n = c.loop-l.l in
    let rows = IsSeenRow P r in
    let seen = λ (i : ℕ). is_seen P.live r i ≡ true in
    let done = λ (i : ℕ). IsBoxRow k i ⊎ ((i < n) × (is_seen P.live r i ≡ true)) in
    let after = λ (i : ℕ). IsBoxRow k i ⊎ ((i < n + 1) × (is_seen P.live r i ≡ true)) in
    let within : n < length P.lines = omega (arith, c.loop-l-test.true, c.len-l-end.ensures) in
    let skip = λ (not : seen n → IsBoxRow k n). reach_fewer P.lines v k done after rows rows (reach_of c.loop-l.ends) (λ i h. left_out k n i seen not h) (λ i h. h) c.loop-l.invariant in
    elim c.if-l-k.branch [
      | then-l-k+then-is_seen+in-Ok w ↦ subst (λ z. IsReach P.lines v k after rows (reach_of z)) (sym w.ends-is)
          (ends_more P.lines v k n done after rows (λ i h. next k n i (seen i) h) (reach_of c.loop-l.ends) (reach_of w.in-Ok.ends) _ _ c.loop-l.invariant w.in-Ok.ensures (within, sym w.is_seen.ensures ∙ w.if-is_seen.true) refl refl)
      | else-l-k w ↦ subst (λ z. IsReach P.lines v k after rows (reach_of z)) (sym w.ends-is) (elim w.else-l-k.branch [
        | else-l-k-via-then-l-k+else-is_seen w' ↦ skip (λ s. never (sym w'.if-is_seen.false ∙ w'.is_seen.ensures ∙ s))
        | else-l-k-via-else-l-k w' ↦ skip (λ s. half_box n k w'.if-l-k.false)
      ])
    ]

pub returns : goal.returns
returns c =
    let P = c.args.program.now in
    let r = c.args.r in
    let k = c.args.k in
    let n = c.loop-l.l in
    let rows = IsSeenRow P r in
    reach_fewer P.lines c.args.pivot.now k (λ (i : ℕ). IsBoxRow k i ⊎ ((i < n) × (is_seen P.live r i ≡ true))) rows rows rows (reach_of c.loop-l.ends)
    (λ i h. inr (let a = h.0 in omega (arith, a, c.loop-l-test.false, c.len-l-end.ensures), h.1)) (λ i h. h) c.loop-l.invariant

pub returns-in-Err : goal.returns-in-Err
returns-in-Err c =
    let P = c.args.program.now in
    let r = c.args.r in
    let v = c.args.pivot.now in
    let k = c.args.k in
    let n = c.loop-l.l in
    let within : n < length P.lines = omega (arith, c.loop-l-test.true, c.len-l-end.ensures) in
    let h : (c.in-Err.l ≡ n) × IsMissedRow P.lines v k n = c.in-Err.ensures in
    let row : IsSeenRow P r n = (within, sym c.is_seen.ensures ∙ c.if-is_seen.true) in
    record {
      row = subst (λ i. IsSeenRow P r i) (sym h.0) row;
      none = subst (λ i. left_entry v (line_at P.lines i) k ≡ pos 0) (sym h.0) h.1.none;
      side = subst (λ i. left_side v (line_at P.lines i) <ℤ pos 0) (sym h.0) h.1.below;
    }
