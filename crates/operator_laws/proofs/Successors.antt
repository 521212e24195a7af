-- A row level reads the rows of the successors alone.
use Rattle.std.proofs.Common.{◌≡◌, ℕ, ◌<◌, sym, subst, ◌∙◌}
use Rattle.std.specs.Prelude.{ℤ, pos, ◌-ℤ◌}
use Rattle.game_model.specs.Game.{states, counts, profile_count, successor, reached, deviation_at, IsGame, IsDeviation}
use Rattle.level_table.specs.declared.level.Level.{Level}
use Rattle.level_table.specs.declared.level.Level.TheVariants.{Empty, At}
use Rattle.level_table.specs.Problem.{IsProblem, Problem, direction_count, minus_axis}
use Rattle.level_table.specs.Levels.{Levels, IsNumber}
use Rattle.level_table.specs.Operator.{Fractions, Admissible, HasValueAbove, IsRowLevel}
use Rattle.operator_laws.specs.Successors.{AgreeAfter}
use Rattle.bound_laws.proofs.Places.{minus_axis_known}

turned : (p : Problem) (t u : Levels) (s : ℕ) → AgreeAfter p t u s → AgreeAfter p u t s
turned p t u s h a k profile dir = (sym (h a k profile dir).0, λ i b d. sym ((h a k profile dir).1 i b d))

admits : (p : Problem) (t u : Levels) (s a : ℕ) (y : Fractions) → IsProblem p → AgreeAfter p t u s → a < profile_count (counts p.game s) → Admissible p t s a y → Admissible p u s a y
admits p t u s a y ok same profile h = record {
  positive = h.positive;
  next_known = λ k dir. subst IsNumber (same a k profile dir).0 (h.next_known k dir);
  reached_known = λ i b k d dir. subst IsNumber ((same a k profile dir).1 i b d) (h.reached_known i b k d dir);
  half_planes = λ k x dir e. h.half_planes k x dir ((same a k profile dir).0 ∙ e);
  incentives = λ i b x d e. h.incentives i b x d ((same a (minus_axis i) profile (minus_axis_known p i ok d.player)).1 i b d ∙ e);
}

pub reads : (p : Problem) (t u : Levels) (s k : ℕ) (l : Level) → IsProblem p → AgreeAfter p t u s → IsRowLevel p t s k l → IsRowLevel p u s k l
reads p t u s k Empty ok same h = λ a y profile adm. h a y profile (admits p u t s a y ok (turned p t u s same) profile adm)
reads p t u s k (At x) ok same h = (
  λ a y profile adm. h.0 a y profile (admits p u t s a y ok (turned p t u s same) profile adm),
  record { profile = h.1.profile; vector = h.1.vector; known = h.1.known; admissible = admits p t u s h.1.profile h.1.vector ok same h.1.known h.1.admissible; above = h.1.above },
)
