use Rattle.std.proofs.Common.{◌∙◌, inl, inr}
use Rattle.solve_run.proofs.run.print_made.Goals as goal

pub returns-in-Err-put_all : goal.returns-in-Err-put_all
returns-in-Err-put_all g c = record {
  printed = inr (inl (
    c.in-Err-put_all.written,
    c.with_made.ensures,
    record {
      text = c.as_bytes.result.now;
      is_text = c.as_bytes.ensures.value ∙ c.in-Ok.ensures;
      within = c.in-Err-put_all.ensures.within;
      taken = c.in-Err-put_all.ensures.part;
      cause = c.in-Err-put_all.ensures.cause;
    },
  ));
}
