use Rattle.std.proofs.Common.{inl, inr, sym, subst, arith, ap}
use Rattle.game_model.specs.Game.{counts, profile_count}
use Rattle.std.proofs.lemmas.Bool.{cases_eq}
use Rattle.level_table.specs.Levels.{levels_in}
use Rattle.level_table.specs.Operator.{Admissible}
use Rattle.set_operator.proofs.alive.is_alive.Goals as goal

pub loop-a-preserved : goal.loop-a-preserved
loop-a-preserved c = λ b y below adm. elim (cases_eq c.loop-a.a b) [
  | inl same ↦ absurd (let t = c.if-admits_at.ensures.none y (subst (λ a. Admissible c.args.p.now (levels_in c.args.levels.now) c.args.state a y) (sym same) adm) in cc)
  | inr other ↦ c.loop-a.invariant b y (omega arith) adm
]

pub returns : goal.returns
returns c = (
  λ t. absurd (cc),
  λ h. absurd (c.loop-a.invariant h.profile h.vector (omega (arith, h.known, ap (λ g. profile_count (counts g c.args.state)) c.game.ensures.game, c.profiles-a-end.ensures, c.loop-a.auto.a-end, c.loop-a-test.false)) h.admissible),
)
