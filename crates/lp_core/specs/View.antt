-- Programs that are seen over the rows that they came from.
use Rattle.std.specs.Prelude.{◌≡◌, ◌^◌, List, Bool, Option, None, Some, IfSome}
use Rattle.lp_cert.specs.Program.{Program, IsProgram}
use Rattle.lp_core.specs.declared.pivot.Step.{Step}
use Rattle.lp_core.specs.Planar.{whole_of}
use Rattle.lp_core.specs.Reduced.{Reduced}
use Rattle.lp_core.specs.Sizes.{IsSmallLine}
use Rattle.lp_core.specs.Smaller.{smaller}

-- the whole program, or that without the variable of a step
abbrev pub viewed : Program → Option Step → Reduced
viewed p None = whole_of p
viewed p (Some s) = smaller s.pivot (whole_of p) s.r

pub record IsStepOver (p : Program) (s : Step) : Type 0 where
  pub all : p.dimension ≡ 3
  pub small : IsSmallLine (2 ^ 10) (2 ^ 80) s.pivot.line

pub record IsView (p : Program) (live : List Bool) (step : Option Step) : Type 0 where
  pub program : IsProgram p
  pub live_is : live ≡ (viewed p step).live
  pub over : IfSome step (IsStepOver p)
