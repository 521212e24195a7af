use Rattle.std.proofs.Common.{◌≡◌, ◌∙◌, ap, List, ℕ, [], get_or, length, ◌<◌, arith}
use Rattle.std.proofs.lemmas.List.{get_or_default}
use Rattle.report_text.specs.ReportText.{numbers_at}
use Rattle.report_text.proofs.SetLemmas.{entry_from_words}
use Rattle.report_text.proofs.sets.entry_line.Goals as goal

pub returns : goal.returns
returns c =
    let row : c.get.result.now ≡ numbers_at c.args.report.now c.args.s =
    c.get.ensures ∙ get_or_default c.args.report.now.numbers c.args.s c.get.result.now [] (omega (arith, c.requires.lists, c.requires.state)) in
    let known : c.args.j < length c.get.result.now =
    omega (arith, c.requires.entry, c.requires.numbered.one_number_each c.args.s c.requires.state, ap (λ (ns : List ℕ). length ns) row) in
    let number : c.get-2.result.now ≡ get_or (numbers_at c.args.report.now c.args.s) c.args.j 0 =
    c.get-2.ensures ∙ get_or_default c.get.result.now c.args.j c.get-2.result.now 0 known ∙ ap (λ (ns : List ℕ). get_or ns c.args.j 0) row in
    entry_from_words c.args.report.now c.args.sets.now c.args.s c.args.j c.get-2.result.now c.entry-entry.result.now
    c.args.out.now.items c.extend_from_slice.new.self.items c.number.new.out.items c.number-2.new.out.items c.point.new.out.items c.promise.new.out.items c.push.new.self.items
    number c.entry-entry.ensures c.in_ok-extend_from_slice.ensures.items c.in_ok-number.ensures c.in_ok-number-2.ensures c.in_ok-point.ensures c.in_ok-promise.ensures c.in_ok-push.ensures.items
