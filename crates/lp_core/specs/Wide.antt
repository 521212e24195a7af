-- Bounds on 128 bits, as plain numbers.
use Rattle.lp_core.specs.declared.limits.Bound.{Bound}
use Rattle.lp_core.specs.declared.limits.Ends.{Ends}
use Rattle.lp_core.specs.declared.limits.Tip.{Tip}
use Rattle.lp_core.specs.Bounds.{Limit, Reach, Peak}

abbrev pub limit_of : Bound → Limit
limit_of b = record { row = b.row; entry = b.entry; side = b.side }

abbrev pub reach_of : Ends → Reach
reach_of e = record { upper = limit_of e.upper; lower = limit_of e.lower }

abbrev pub peak_of : Tip → Peak
peak_of t = record { row = t.row; at = t.at; den = t.den; times = t.times }
