use Rattle.std.proofs.Common.{inl, inr, sym, subst}
use Rattle.report_text.specs.ReportText.{IsReportText}
use Rattle.solve_run.proofs.run.write_report.Goals as goal

pub returns-in-Err-put_all : goal.returns-in-Err-put_all
returns-in-Err-put_all g c = record {
  wrote = inr (inl (
    c.in-Err-put_all.written,
    c.with_report.ensures,
    record {
      text = c.deref.result.now;
      is_text = subst (IsReportText c.args.report) (sym c.deref.ensures.value) c.in-Ok.ensures;
      within = c.in-Err-put_all.ensures.within;
      taken = c.in-Err-put_all.ensures.part;
      cause = c.in-Err-put_all.ensures.cause;
    },
  ));
}

pub returns : goal.returns
returns g c = record {
  wrote = inl (
    c.status_of.result,
    c.with_report-in-Ok-put_all.ensures,
    record {
      text = c.deref.result.now;
      is_text = subst (IsReportText c.args.report) (sym c.deref.ensures.value) c.in-Ok.ensures;
      taken = c.in-Ok-put_all.ensures.whole;
    },
    c.status_of.ensures,
  );
}
