use Rattle.std.proofs.Common.{◌≡◌, ◌+◌, List, [], length, sym, ap, subst, ◌∙◌, arith}
use Rattle.std.proofs.lemmas.List.{length_push}
use Rattle.level_table.specs.declared.reason.Reason.{Reason}
use Rattle.level_table.specs.Room.{Reasons}
use Rattle.report_text.specs.Rules.{KeepReasons}
use Rattle.report_text.proofs.Kept.{LeftReasons, keep_more_reasons, reason_counted, reasons_all_left, reasons_full}
use Rattle.report_text.proofs.noted.reasons.Goals as goal

pub loop-kept-init : goal.loop-kept-init
loop-kept-init c =
    let none : c.in_ok-reasons.reasons.list ≡ [] = ap (λ (r : Reasons). r.list) c.in_ok-reasons.ensures in
    let room : c.in_ok-reasons.reasons.spare ≡ c.count_of-count.result = ap (λ (r : Reasons). r.spare) c.in_ok-reasons.ensures in
    record {
      kept = ap length none;
      room = omega (arith, ap length none, room);
      keeps = subst (KeepReasons c.args.sizes) (sym none) tt;
      read = λ s list rest few k end e.
          subst (λ (xs : List Reason). LeftReasons c.args.sizes s list xs rest c.args.words.now) (sym none) (reasons_all_left c.args.sizes s list rest c.args.words.now k e);
    }

pub loop-kept-preserved : goal.loop-kept-preserved
loop-kept-preserved c =
    let more = c.push.ensures.list in
    let size : length c.push.new.self.list ≡ length c.loop-kept.reasons.list + 1 = ap length more ∙ length_push c.loop-kept.reasons.list c.why.result in
    let kept : length c.loop-kept.reasons.list ≡ c.loop-kept._kept = c.loop-kept.invariant.kept in
    record {
      kept = omega (arith, size, kept);
      room = omega (arith, size, c.loop-kept.invariant.room, c.push.ensures.spare);
      keeps = subst (KeepReasons c.args.sizes) (sym more) (keep_more_reasons c.args.sizes c.loop-kept.reasons.list c.why.result c.loop-kept.invariant.keeps c.why.ensures.keeps);
      read = λ s list rest few k end e.
          let count : c.count_of-count.result ≡ length list = c.count_of-count.ensures.read s list rest few k end e in
          subst (λ (xs : List Reason). LeftReasons c.args.sizes s list xs rest c.why.new.words) (sym more)
          (reason_counted c.args.sizes s list c.loop-kept.reasons.list rest c.loop-kept.words c.why.new.words c.why.result (c.loop-kept.invariant.read s list rest few k end e) end
          (omega (arith, count, kept, c.loop-kept-test.true)) c.why.ensures.read);
    }

pub returns-clause-read : goal.returns-clause-read
returns-clause-read c = λ s list rest few k end e.
    let count : c.count_of-count.result ≡ length list = c.count_of-count.ensures.read s list rest few k end e in
    reasons_full c.args.sizes s list c.loop-kept.reasons.list rest c.loop-kept.words (c.loop-kept.invariant.read s list rest few k end e) (omega (arith, count, c.loop-kept.invariant.kept, c.loop-kept-test.false))
