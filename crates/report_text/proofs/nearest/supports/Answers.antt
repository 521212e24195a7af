use Rattle.std.proofs.Common.{◌≡◌, ◌<◌, [], ◌∷◌, ◌++◌, length, get_or, sym, ◌∙◌, arith}
use Rattle.std.proofs.lemmas.List.{length_push}
use Rattle.std.proofs.lemmas.List.Elements.{All-push}
use Rattle.level_table.specs.declared.level.Level.TheVariants.{Empty}
use Rattle.set_operator.specs.declared.row.Support.{Support}
use Rattle.report_text.specs.ReportText.{IsFraction}
use Rattle.report_text.proofs.Supports.{empty_no_number, row_passed, rows_more, rows_more_empty, support_taken}
use Rattle.report_text.proofs.nearest.supports.Goals as goal
use Rattle.report_text.proofs.nearest.supports.Goals.{in-Empty, in-At+in_ok-push-in-At}

pub loop-row-preserved : goal.loop-row-preserved
loop-row-preserved c =
    let k = c.loop-row.invariant in
    let z = c.args.sizes in
    let ls = c.args.levels.now.levels in
    let row = c.loop-row.row in
    let here : row < length ls = omega (arith, c.loop-row-test.true, c.requires.levels.one_each) in
    elim c.match-get.branch [
      | in-Empty w ↦
          let none : get_or ls row Empty ≡ Empty = sym c.get.ensures ∙ w.in-Empty.is in
          rw (w.supports-is, w.words-is)
          (record {
            few = omega (arith, k.few);
            keeps = rows_more_empty z.players row ls c.loop-row.supports here none k.keeps;
            printable = k.printable;
            read = λ ss rest h b. row_passed z ls ss c.loop-row.supports row rest c.loop-row.words here none (k.read ss rest h b);
          })
      | in-At+in_ok-push-in-At w ↦
          let more : w.push.new.self ≡ c.loop-row.supports ++ w.support.result ∷ [] = w.in_ok-push-in-At.ensures.ok in
          let some : get_or ls row Empty ≡ Empty → ⊥ = λ e. empty_no_number w.in-At.field-0 (sym (sym c.get.ensures ∙ w.in-At.is) ∙ e) in
          rw (w.supports-is, w.words-is, more)
          (record {
            few = omega (arith, length_push c.loop-row.supports w.support.result, k.few);
            keeps = rows_more z.players row ls c.loop-row.supports w.support.result here some k.keeps w.support.ensures.keeps;
            printable = All-push (λ (s : Support). IsFraction s.point.num s.point.den) c.loop-row.supports w.support.result k.printable w.support.ensures.printable;
            read = λ ss rest h b. support_taken z ls ss c.loop-row.supports row rest c.loop-row.words w.support.new.words w.support.result here some (k.read ss rest h b) w.support.ensures.read;
          })
    ]
