use Rattle.std.proofs.Common.{◌≡◌, ℕ, ◌+◌, List, length, drop, sym, ap, ◌∙◌, arith, length-drop}
use Rattle.report_lines.specs.Forms.{has_form, lines_of, place_from, place_of}
use Rattle.report_lines.proofs.Places.{place_step, place_stop, place_end}
use Rattle.report_lines.proofs.forms.fault_place.Goals as goal

pub loop-end-preserved : goal.loop-end-preserved
loop-end-preserved c = record {
  place =
      ap (λ (xs : List ℕ). place_from (c.loop-end.start + (c.loop-end.end + 1)) (lines_of xs)) c.behind-rest.ensures
      ∙ sym (place_step c.loop-end.start c.loop-end.end c.loop-end.rest.now c.loop-end.invariant.end c.loop-end-test.true (sym (ap has_form c.up_to.ensures) ∙ sym c.has_form.ensures ∙ c.if-not-has_form.false))
      ∙ c.loop-end.invariant.place;
  end = c.line_end-end-in-loop-end.ensures.value;
  within = c.line_end-end-in-loop-end.ensures.within;
  room =
      let e : length c.behind-rest.result.now ≡ length (drop (c.loop-end.end + 1) c.loop-end.rest.now) = ap length c.behind-rest.ensures in
      omega (arith, e, length-drop (c.loop-end.end + 1) c.loop-end.rest.now, c.loop-end.invariant.room, c.loop-end-test.true);
}

pub returns-then-not-has_form : goal.returns-then-not-has_form
unfolding place_of
returns-then-not-has_form c =
    sym (place_stop c.loop-end.start c.loop-end.end c.loop-end.rest.now c.loop-end.invariant.end c.loop-end-test.true (sym (ap has_form c.up_to.ensures) ∙ sym c.has_form.ensures ∙ c.if-not-has_form.true))
    ∙ c.loop-end.invariant.place

pub returns : goal.returns
unfolding place_of
returns c =
    sym (place_end c.loop-end.start c.loop-end.end c.loop-end.rest.now c.loop-end.invariant.end (omega (arith, c.loop-end.invariant.within, c.loop-end-test.false)))
    ∙ c.loop-end.invariant.place
