use Rattle.std.proofs.Common.{sym, subst, ◌∙◌}
use Rattle.report_text.specs.declared.report.Report.{Report}
use Rattle.report_text.specs.ReportText.{IsPrintable, IsReportText}
use Rattle.report_text.specs.Rules.{Agrees, KeepsRules}
use Rattle.report_text.proofs.Answering.{text_again, ok_gives, err_gives}
use Rattle.report_text.proofs.read.read_report.Goals as goal

pub returns-clause-keeps : goal.returns-clause-keeps
returns-clause-keeps c = ok_gives KeepsRules c.compared.result c.in_ok-report.report c.as_slice.result.now c.args.bytes.now c.compared.ensures.ok (λ e. c.in_ok-report.ensures.keeps)

pub returns-clause-printable : goal.returns-clause-printable
returns-clause-printable c = ok_gives IsPrintable c.compared.result c.in_ok-report.report c.as_slice.result.now c.args.bytes.now c.compared.ensures.ok (λ e. c.in_ok-report.ensures.printable)

pub returns-clause-text : goal.returns-clause-text
returns-clause-text c =
    ok_gives (λ (r : Report). IsReportText r c.args.bytes.now) c.compared.result c.in_ok-report.report c.as_slice.result.now c.args.bytes.now c.compared.ensures.ok
    (λ e. subst (IsReportText c.in_ok-report.report) (sym c.as_slice.ensures.value ∙ e) c.in_ok-text.ensures)

pub returns-clause-only : goal.returns-clause-only
returns-clause-only c =
    ok_gives (λ (r : Report). (a : Report) → KeepsRules a → IsReportText a c.args.bytes.now → Agrees a r) c.compared.result c.in_ok-report.report c.as_slice.result.now c.args.bytes.now c.compared.ensures.ok
    (λ e. c.in_ok-report.ensures.agrees)

pub returns-clause-fault : goal.returns-clause-fault
returns-clause-fault c =
    err_gives c.compared.result c.as_slice.result.now c.args.bytes.now c.compared.ensures.err
    (λ a k x. text_again a c.in_ok-report.report c.args.bytes.now c.as_slice.result.now k c.in_ok-report.ensures.keeps (c.in_ok-report.ensures.agrees a k x) x
    (subst (IsReportText c.in_ok-report.report) (sym c.as_slice.ensures.value) c.in_ok-text.ensures))
