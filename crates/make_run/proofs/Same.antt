-- The numbers of a game that is made are one.
use Rattle.std.proofs.Common.{◌≡◌, ℕ, ◌<◌, refl, sym, ap, ◌∙◌, arith}
use Rattle.std.specs.Prelude.{ℤ, pos}
use Rattle.std.proofs.lemmas.Int.{ints}
use Rattle.exact_algebra.proofs.Order.{same_from_at_most}
use Rattle.game_model.specs.Game.{states}
use Rattle.game_model.specs.SelfGeneration.{sum_below}
use Rattle.level_table.specs.declared.level.Level.{Level}
use Rattle.level_table.specs.declared.level.Level.TheVariants.{Empty, At}
use Rattle.level_table.specs.Problem.{Problem, direction_count}
use Rattle.level_table.specs.Levels.{AtMost, IsRow, Levels, opening_table}
use Rattle.level_table.specs.Iterates.{number_of}
use Rattle.level_table.specs.Supported.{IsGreatest}
use Rattle.bound_laws.proofs.Sums.{sum_below-same}
use Rattle.make_run.specs.Made.{IsMade, made_problem}
use Rattle.make_run.specs.Summary.{empty_count, finite_count, sum_of_rows}
use Rattle.make_run.specs.declared.made.Made.{Made}

same_level : (a b : Level) → AtMost a b → AtMost b a → a ≡ b
same_level Empty Empty h k = refl
same_level Empty (At y) h k = absurd k
same_level (At x) Empty h k = absurd h
same_level (At x) (At y) h k = ap At (same_from_at_most x y h k)

-- greatest tables agree in each row
one_greatest : (p : Problem) (start t u : Levels) (s k : ℕ) → IsGreatest p start t → IsGreatest p start u → IsRow p s k → t s k ≡ u s k
one_greatest p start t u s k h g row = same_level (t s k) (u s k) (g.greatest t h.below h.supported s k row) (h.greatest u g.below g.supported s k row)

same_sum : (p : Problem) (f : Level → ℤ) (t u : Levels) → ((s k : ℕ) → IsRow p s k → t s k ≡ u s k) → sum_of_rows p f t ≡ sum_of_rows p f u
same_sum p f t u h =
    sum_below-same (λ s. sum_below (λ k. f (t s k)) (direction_count p)) (λ s. sum_below (λ k. f (u s k)) (direction_count p)) (states p.game)
    (λ s hs. sum_below-same (λ k. f (t s k)) (λ k. f (u s k)) (direction_count p) (λ k hk. ap f (h s k (record { state = hs; direction = hk }))))

pub same_made : (seed count : ℕ) (a b : Made) → 0 < direction_count (made_problem seed count) → IsMade seed count a → IsMade seed count b → a ≡ b
same_made seed count a b some h g =
    let p = made_problem seed count in
    let rows : (s k : ℕ) → IsRow p s k → h.table s k ≡ g.table s k = λ s k row. one_greatest p (opening_table p) h.table g.table s k h.greatest g.greatest row in
    let empties : pos a.empty ≡ pos b.empty =
    h.summary.empty
    ∙ sum_below-same (λ s. empty_count (h.table s 0)) (λ s. empty_count (g.table s 0)) (states p.game) (λ s hs. ap empty_count (rows s 0 (record { state = hs; direction = some })))
    ∙ sym g.summary.empty in
    let finites : pos a.rows ≡ pos b.rows = h.summary.rows ∙ same_sum p finite_count h.table g.table rows ∙ sym g.summary.rows in
    let empty : a.empty ≡ b.empty = omega (arith, ints, empties) in
    let finite : a.rows ≡ b.rows = omega (arith, ints, finites) in
    let seeds : a.seed ≡ b.seed = h.seed_shown ∙ sym g.seed_shown in
    let counts : a.states ≡ b.states = h.states_shown ∙ sym g.states_shown in
    let totals : a.total ≡ b.total = h.summary.total ∙ same_sum p number_of h.table g.table rows ∙ sym g.summary.total in
    λ i. record { seed = seeds i; states = counts i; empty = empty i; rows = finite i; total = totals i }
