-- Which states, profiles and directions there are.
use Rattle.std.proofs.Common.{ℕ, ◌<◌, arith}
use Rattle.game_model.specs.Game.{DynamicGame, IsGame, IsState, IsDeviation, states, counts, profile_count, successor, reached, deviation_at}
use Rattle.game_model.proofs.Profiles.{EachPositive, Moves, moves}
use Rattle.level_table.specs.Problem.{Problem, direction_count, minus_axis, plus_axis, IsProblem}

pub each_positive : (g : DynamicGame) (s : ℕ) → IsGame g → s < states g → EachPositive (counts g s)
each_positive g s ok state j within =
    let st : IsState g s = ok.each_state s state in
    st.some_strategy j (omega (arith, st.one_each))

pub deviation_known : (g : DynamicGame) (s a i b : ℕ) → IsGame g → s < states g → a < profile_count (counts g s) → IsDeviation g s a i b → deviation_at g s a i b < profile_count (counts g s)
deviation_known g s a i b ok state profile d =
    let st : IsState g s = ok.each_state s state in
    let m : Moves (counts g s) a i b = moves (counts g s) a i b (each_positive g s ok state) profile (omega (arith, st.one_each, d.player)) d.strategy in
    m.below

pub next_state : (g : DynamicGame) (s a : ℕ) → IsGame g → s < states g → a < profile_count (counts g s) → successor g s a < states g
next_state g s a ok state profile = (ok.each_state s state).next_known a profile

pub reached_state : (g : DynamicGame) (s a i b : ℕ) → IsGame g → s < states g → a < profile_count (counts g s) → IsDeviation g s a i b → reached g s a i b < states g
reached_state g s a i b ok state profile d = next_state g s (deviation_at g s a i b) ok state (deviation_known g s a i b ok state profile d)

pub minus_axis_known : (p : Problem) (i : ℕ) → IsProblem p → i < p.game.players → minus_axis i < direction_count p
minus_axis_known p i ok player = omega (arith, ok.directions.has_axes)

pub plus_axis_known : (p : Problem) (i : ℕ) → IsProblem p → i < p.game.players → plus_axis i < direction_count p
plus_axis_known p i ok player = omega (arith, ok.directions.has_axes)

pub q_positive : (g : DynamicGame) → IsGame g → 0 < g.q
q_positive g ok = omega (arith, ok.two_players, ok.discounts_below 0 (omega (arith, ok.two_players)))
