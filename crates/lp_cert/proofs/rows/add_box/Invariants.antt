use Rattle.std.proofs.Common.{◌≡◌, take}
use Rattle.lp_cert.specs.Program.{box_rows}
use Rattle.lp_cert.proofs.rows.add_box.Given as goal

abbrev pub invariant-loop-i : goal.invariant-loop-i
invariant-loop-i l = l.rows.items ≡ box_rows 0 (take l.i l.upper) (take l.i l.lower)
