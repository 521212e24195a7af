use Rattle.std.proofs.Common.{◌≡◌, ◌+◌, ◌*◌, ◌/◌, ◌%◌, ◌<◌, get_or, pos, ap, ◌∙◌, arith}
use Rattle.std.specs.Prelude.{[], slice_index}
use Rattle.game_model.specs.Game.{counts, profile_count, strategies_of}
use Rattle.case_maker.specs.Generated.{generated_game, next_drawn, payoff_drawn, payoffs_drawn, successors_drawn}
use Rattle.case_maker.proofs.Limits.{sizes, state_count}
use Rattle.case_maker.proofs.Listed.{get_or-listed}
use Rattle.case_maker.proofs.worked.profiles_are_drawn.Goals as goal

pub returns-clause-payoffs : goal.returns-clause-payoffs
returns-clause-payoffs c seed count s a i hs ha hi =
    let within : a * 2 + i < 32 = omega arith in
    let profile : (a * 2 + i) / 2 ≡ a = omega arith in
    let player : (a * 2 + i) % 2 ≡ i = omega arith in
    ap (λ xs. get_or xs (a * 2 + i) (pos 0)) (get_or-listed (payoffs_drawn seed) count s [] hs)
    ∙ get_or-listed (λ k. pos (payoff_drawn seed s (k / 2) (k % 2))) 32 (a * 2 + i) (pos 0) within
    ∙ ap (λ b. pos (payoff_drawn seed s b ((a * 2 + i) % 2))) profile ∙ ap (λ j. pos (payoff_drawn seed s a j)) player

pub returns-clause-successors : goal.returns-clause-successors
returns-clause-successors c seed count s a hs ha =
    ap (λ xs. get_or xs a 0) (get_or-listed (successors_drawn seed count) count s [] hs) ∙ get_or-listed (next_drawn seed count s) 16 a 0 ha

pub returns-clause-first : goal.returns-clause-first
returns-clause-first c seed count s a hs = ap (λ ms. slice_index (strategies_of ms a) 0) (sizes seed count s hs)

pub returns-clause-second : goal.returns-clause-second
returns-clause-second c seed count s a hs = ap (λ ms. slice_index (strategies_of ms a) 1) (sizes seed count s hs)

pub returns-clause-few : goal.returns-clause-few
returns-clause-few c seed count s a i hs ha hi =
    let known : s < count = omega (arith, hs, state_count seed count) in
    let sixteen : profile_count (counts (generated_game seed count) s) ≡ 16 = ap profile_count (sizes seed count s known) in
    let here = returns-clause-payoffs c seed count s a i known (omega arith) hi in
    let few : payoff_drawn seed s a i < 16 = omega arith in
    rw here (omega arith)
