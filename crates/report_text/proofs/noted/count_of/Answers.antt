use Rattle.std.proofs.Common.{ℕ, ◌+◌, [], ◌∷◌, ◌++◌, length, refl, sym, ap, ◌∙◌, arith}
use Rattle.std.proofs.lemmas.List.{length_push, length-append}
use Rattle.std.proofs.lemmas.Bool.{true≢false}
use Rattle.report_text.proofs.Kept.{reason_taken, reasons_all_left, reasons_end}
use Rattle.report_text.proofs.noted.count_of.Goals as goal

pub loop-count-init : goal.loop-count-init
loop-count-init c = record {
  read = λ s list rest few k end e. ([], refl, reasons_all_left c.args.sizes s list rest c.same-ahead.result k (c.same-ahead.ensures ∙ e));
}

pub loop-count-preserved : goal.loop-count-preserved
loop-count-preserved c = record {
  read = λ s list rest few k end e.
      let h = c.loop-count.invariant.read s list rest few k end e in (
        h.0 ++ c.why-reason.result ∷ [],
        length_push h.0 c.why-reason.result ∙ ap (λ (n : ℕ). n + 1) h.1,
        reason_taken c.args.sizes s list h.0 rest c.loop-count.ahead c.why-reason.new.words c.why-reason.result h.2 end (c.next_is.ensures.0 c.if-not-next_is.false) c.why-reason.ensures.read,
      );
}

pub returns-then-not-next_is-clause-read : goal.returns-then-not-next_is-clause-read
returns-then-not-next_is-clause-read c = λ s list rest few k end e.
    let h = c.loop-count.invariant.read s list rest few k end e in
    sym h.1 ∙ ap length (reasons_end c.args.sizes s list h.0 rest c.loop-count.ahead h.2 (λ w. true≢false (sym (c.next_is.ensures.1 w) ∙ c.if-not-next_is.true)))

pub returns-clause-read : goal.returns-clause-read
returns-clause-read c = λ s list rest few k end e.
    let h = c.loop-count.invariant.read s list rest few k end e in
    omega (arith, h.1, ap length h.2.together, length-append h.0 h.2.left, c.loop-count-test.false, few)
