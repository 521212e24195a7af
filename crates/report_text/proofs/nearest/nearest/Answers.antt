use Rattle.std.proofs.Common.{sym, subst, arith, rules, SFits, None}
use Rattle.std.specs.Int.{w128}
use Rattle.std.proofs.lemmas.Int.{ints, to_z-of_z}
use Rattle.report_text.specs.declared.report.Report.{Report}
use Rattle.report_text.proofs.Candidate.{agrees_from, printable_from, verdict_printable}
use Rattle.report_text.proofs.Whole.{AreWords, report_words}
use Rattle.report_text.proofs.nearest.nearest.Goals as goal

pub returns-clause-printable : goal.returns-clause-printable
returns-clause-printable c =
    let h = c.in_ok-head.head in
    let k = c.in_ok-head.ensures.keeps in
    let l = c.in_ok-levels.ensures.keeps in
    let r : Report =
    record { players = h.sizes.players; states = h.sizes.states; directions = h.sizes.directions; discounts = h.discounts; unit = h.unit; slack = h.slack; sweeps = h.sweeps; levels = c.in_ok-levels.levels; verdict = c.in_ok-verdict.verdict; notes = c.in_ok-notes.notes; inner = None; numbers = c.new-numbers.result } in
    record {
      some_player = omega (arith, k.sizes.some_players);
      few_players = omega (arith, k.sizes.few_players);
      one_each = k.discounts.one_each;
      positive = printable_from h.sizes.players h.discounts k.discounts;
      states = l.states;
      directions = l.directions;
      verdict = verdict_printable r c.in_ok-verdict.verdict l c.in_ok-verdict.ensures.keeps c.in_ok-verdict.ensures.printable;
      sets = c.new-numbers.ensures;
    }

pub returns-clause-agrees : goal.returns-clause-agrees
returns-clause-agrees c = λ a k x.
    let h = c.in_ok-head.head in
    let f : SFits w128 h.unit = first_of (search rules, omega (arith, ints, c.in_ok-head.ensures.keeps.unit.0, c.in_ok-head.ensures.keeps.unit.1)) in
    agrees_from a c.of-words.result (subst (AreWords a) (sym c.of-words.ensures) (report_words a c.args.bytes.now k x)) k h c.in_ok-levels.levels c.in_ok-verdict.verdict c.in_ok-notes.notes c.new-numbers.result _
    c.read_head.new.words c.levels.new.words c.verdict.new.words
    c.in_ok-head.ensures.read c.in_ok-levels.ensures.keeps c.in_ok-levels.ensures.read c.in_ok-verdict.ensures.read c.in_ok-notes.ensures.read
    (to_z-of_z w128 h.unit f) c.new-numbers.ensures
