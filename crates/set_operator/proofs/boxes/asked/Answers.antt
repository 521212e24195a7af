-- the profile that the deviation reaches, and the gain in 64 bits
use Rattle.std.proofs.Common.{◌≡◌, ◌+◌, ◌*◌, ◌<◌, ◌-◌, ◌/◌, ◌∙◌, ap, subst, sym, arith, false, slice_index_or, ◌-ℤ◌}
use Rattle.std.specs.Prelude.{IsTrue}
use Rattle.game_model.specs.Game.{counts, profile_count, payoff_at, deviation_at, reached, successor}
use Rattle.game_model.proofs.Lists.{few_profiles}
use Rattle.level_table.specs.declared.level.Level.TheVariants.{At}
use Rattle.level_table.specs.Levels.{IsNumber, levels_in}
use Rattle.level_table.specs.Problem.{minus_axis, discount_at, fineness}
use Rattle.level_table.specs.Reasons.{IsKnown}
use Rattle.bound_laws.proofs.Places.{reached_state, minus_axis_known, deviation_known}
use Rattle.set_operator.proofs.Scales.{IsGap, difference_fits, product_fits, gain_fits, gap_fits, gap_small, code_is, gain_by_factors}
use Rattle.set_operator.proofs.Strides.{gap_by}
use Rattle.set_operator.proofs.boxes.asked.Goals as goal

pub overflow_mul-instead : goal.overflow_mul-instead
overflow_mul-instead c =
    let p = c.args.p.now in
    let ok = c.game-game.ensures.is_problem in
    let steps : c.args.by.now.first + c.args.b * c.args.by.now.stride ≡ deviation_at c.args.p.now.game c.args.by.now.state c.args.profile c.args.by.now.player c.args.b = c.requires.from.steps c.args.b c.requires.deviation.strategy in
    let known : deviation_at c.args.p.now.game c.args.by.now.state c.args.profile c.args.by.now.player c.args.b < profile_count (counts p.game c.args.by.now.state) = deviation_known c.args.p.now.game c.args.by.now.state c.args.profile c.args.by.now.player c.args.b ok.game c.requires.state c.requires.profile c.requires.deviation in
    omega (arith, steps, known, few_profiles p.game ok.game c.args.by.now.state c.requires.state)

pub overflow_add-instead : goal.overflow_add-instead
overflow_add-instead c =
    let p = c.args.p.now in
    let ok = c.game-game.ensures.is_problem in
    let steps : c.args.by.now.first + c.args.b * c.args.by.now.stride ≡ deviation_at c.args.p.now.game c.args.by.now.state c.args.profile c.args.by.now.player c.args.b = c.requires.from.steps c.args.b c.requires.deviation.strategy in
    let known : deviation_at c.args.p.now.game c.args.by.now.state c.args.profile c.args.by.now.player c.args.b < profile_count (counts p.game c.args.by.now.state) = deviation_known c.args.p.now.game c.args.by.now.state c.args.profile c.args.by.now.player c.args.b ok.game c.requires.state c.requires.profile c.requires.deviation in
    omega (arith, steps, known, few_profiles p.game ok.game c.args.by.now.state c.requires.state)

pub next-next-requires-clause-profile : goal.next-next-requires-clause-profile
next-next-requires-clause-profile c =
    let p = c.args.p.now in
    let ok = c.game-game.ensures.is_problem in
    let steps : c.args.by.now.first + c.args.b * c.args.by.now.stride ≡ deviation_at c.args.p.now.game c.args.by.now.state c.args.profile c.args.by.now.player c.args.b = c.requires.from.steps c.args.b c.requires.deviation.strategy in
    let known : deviation_at c.args.p.now.game c.args.by.now.state c.args.profile c.args.by.now.player c.args.b < profile_count (counts p.game c.args.by.now.state) = deviation_known c.args.p.now.game c.args.by.now.state c.args.profile c.args.by.now.player c.args.b ok.game c.requires.state c.requires.profile c.requires.deviation in
    rw (c.game-game.ensures.game, steps) known

pub payoff-requires-clause-profile : goal.payoff-requires-clause-profile
payoff-requires-clause-profile c =
    let p = c.args.p.now in
    let ok = c.game-game.ensures.is_problem in
    let steps : c.args.by.now.first + c.args.b * c.args.by.now.stride ≡ deviation_at c.args.p.now.game c.args.by.now.state c.args.profile c.args.by.now.player c.args.b = c.requires.from.steps c.args.b c.requires.deviation.strategy in
    let known : deviation_at c.args.p.now.game c.args.by.now.state c.args.profile c.args.by.now.player c.args.b < profile_count (counts p.game c.args.by.now.state) = deviation_known c.args.p.now.game c.args.by.now.state c.args.profile c.args.by.now.player c.args.b ok.game c.requires.state c.requires.profile c.requires.deviation in
    rw (c.game-game.ensures.game, steps) known

pub overflow_sub-more : goal.overflow_sub-more
overflow_sub-more c =
    let p = c.args.p.now in
    let ok = c.game-game.ensures.is_problem in
    let steps : c.args.by.now.first + c.args.b * c.args.by.now.stride ≡ deviation_at c.args.p.now.game c.args.by.now.state c.args.profile c.args.by.now.player c.args.b = c.requires.from.steps c.args.b c.requires.deviation.strategy in
    let known : deviation_at c.args.p.now.game c.args.by.now.state c.args.profile c.args.by.now.player c.args.b < profile_count (counts p.game c.args.by.now.state) = deviation_known c.args.p.now.game c.args.by.now.state c.args.profile c.args.by.now.player c.args.b ok.game c.requires.state c.requires.profile c.requires.deviation in
    let u : c.payoff.result ≡ payoff_at p.game c.args.by.now.state (deviation_at c.args.p.now.game c.args.by.now.state c.args.profile c.args.by.now.player c.args.b) c.args.by.now.player = cc in
    let gap : IsGap c.args.by.now.weight c.args.by.now.unit c.payoff.result c.args.by.now.payoff c.finite-worst.result =
    gap_by p c.args.by.now.state c.args.profile c.args.by.now.player c.args.b c.args.by.now.weight c.args.by.now.unit c.payoff.result c.args.by.now.payoff c.finite-worst.result ok c.requires.opening c.requires.state c.requires.profile c.requires.deviation
    c.requires.from.weight c.requires.from.unit u c.requires.from.payoff c.finite-worst.ensures.small in
    difference_fits c.args.by.now.weight c.args.by.now.unit c.payoff.result c.args.by.now.payoff c.finite-worst.result gap

pub overflow_mul-result : goal.overflow_mul-result
overflow_mul-result c =
    let p = c.args.p.now in
    let ok = c.game-game.ensures.is_problem in
    let steps : c.args.by.now.first + c.args.b * c.args.by.now.stride ≡ deviation_at c.args.p.now.game c.args.by.now.state c.args.profile c.args.by.now.player c.args.b = c.requires.from.steps c.args.b c.requires.deviation.strategy in
    let known : deviation_at c.args.p.now.game c.args.by.now.state c.args.profile c.args.by.now.player c.args.b < profile_count (counts p.game c.args.by.now.state) = deviation_known c.args.p.now.game c.args.by.now.state c.args.profile c.args.by.now.player c.args.b ok.game c.requires.state c.requires.profile c.requires.deviation in
    let u : c.payoff.result ≡ payoff_at p.game c.args.by.now.state (deviation_at c.args.p.now.game c.args.by.now.state c.args.profile c.args.by.now.player c.args.b) c.args.by.now.player = cc in
    let gap : IsGap c.args.by.now.weight c.args.by.now.unit c.payoff.result c.args.by.now.payoff c.finite-worst.result =
    gap_by p c.args.by.now.state c.args.profile c.args.by.now.player c.args.b c.args.by.now.weight c.args.by.now.unit c.payoff.result c.args.by.now.payoff c.finite-worst.result ok c.requires.opening c.requires.state c.requires.profile c.requires.deviation
    c.requires.from.weight c.requires.from.unit u c.requires.from.payoff c.finite-worst.ensures.small in
    product_fits c.args.by.now.weight c.args.by.now.unit c.payoff.result c.args.by.now.payoff c.finite-worst.result gap

pub overflow_mul-result-2 : goal.overflow_mul-result-2
overflow_mul-result-2 c =
    let p = c.args.p.now in
    let ok = c.game-game.ensures.is_problem in
    let steps : c.args.by.now.first + c.args.b * c.args.by.now.stride ≡ deviation_at c.args.p.now.game c.args.by.now.state c.args.profile c.args.by.now.player c.args.b = c.requires.from.steps c.args.b c.requires.deviation.strategy in
    let known : deviation_at c.args.p.now.game c.args.by.now.state c.args.profile c.args.by.now.player c.args.b < profile_count (counts p.game c.args.by.now.state) = deviation_known c.args.p.now.game c.args.by.now.state c.args.profile c.args.by.now.player c.args.b ok.game c.requires.state c.requires.profile c.requires.deviation in
    let u : c.payoff.result ≡ payoff_at p.game c.args.by.now.state (deviation_at c.args.p.now.game c.args.by.now.state c.args.profile c.args.by.now.player c.args.b) c.args.by.now.player = cc in
    let gap : IsGap c.args.by.now.weight c.args.by.now.unit c.payoff.result c.args.by.now.payoff c.finite-worst.result =
    gap_by p c.args.by.now.state c.args.profile c.args.by.now.player c.args.b c.args.by.now.weight c.args.by.now.unit c.payoff.result c.args.by.now.payoff c.finite-worst.result ok c.requires.opening c.requires.state c.requires.profile c.requires.deviation
    c.requires.from.weight c.requires.from.unit u c.requires.from.payoff c.finite-worst.ensures.small in
    gain_fits c.args.by.now.weight c.args.by.now.unit c.payoff.result c.args.by.now.payoff c.finite-worst.result gap

pub overflow_sub-result : goal.overflow_sub-result
overflow_sub-result c =
    let p = c.args.p.now in
    let ok = c.game-game.ensures.is_problem in
    let steps : c.args.by.now.first + c.args.b * c.args.by.now.stride ≡ deviation_at c.args.p.now.game c.args.by.now.state c.args.profile c.args.by.now.player c.args.b = c.requires.from.steps c.args.b c.requires.deviation.strategy in
    let known : deviation_at c.args.p.now.game c.args.by.now.state c.args.profile c.args.by.now.player c.args.b < profile_count (counts p.game c.args.by.now.state) = deviation_known c.args.p.now.game c.args.by.now.state c.args.profile c.args.by.now.player c.args.b ok.game c.requires.state c.requires.profile c.requires.deviation in
    let u : c.payoff.result ≡ payoff_at p.game c.args.by.now.state (deviation_at c.args.p.now.game c.args.by.now.state c.args.profile c.args.by.now.player c.args.b) c.args.by.now.player = cc in
    let gap : IsGap c.args.by.now.weight c.args.by.now.unit c.payoff.result c.args.by.now.payoff c.finite-worst.result =
    gap_by p c.args.by.now.state c.args.profile c.args.by.now.player c.args.b c.args.by.now.weight c.args.by.now.unit c.payoff.result c.args.by.now.payoff c.finite-worst.result ok c.requires.opening c.requires.state c.requires.profile c.requires.deviation
    c.requires.from.weight c.requires.from.unit u c.requires.from.payoff c.finite-worst.ensures.small in
    gap_fits c.args.by.now.weight c.args.by.now.unit c.payoff.result c.args.by.now.payoff c.finite-worst.result gap

pub finite-worst-requires-clause-number : goal.finite-worst-requires-clause-number
finite-worst-requires-clause-number c =
    let p = c.args.p.now in
    let ok = c.game-game.ensures.is_problem in
    let steps : c.args.by.now.first + c.args.b * c.args.by.now.stride ≡ deviation_at c.args.p.now.game c.args.by.now.state c.args.profile c.args.by.now.player c.args.b = c.requires.from.steps c.args.b c.requires.deviation.strategy in
    let known : deviation_at c.args.p.now.game c.args.by.now.state c.args.profile c.args.by.now.player c.args.b < profile_count (counts p.game c.args.by.now.state) = deviation_known c.args.p.now.game c.args.by.now.state c.args.profile c.args.by.now.player c.args.b ok.game c.requires.state c.requires.profile c.requires.deviation in
    let at : c.next-next.result ≡ reached c.args.p.now.game c.args.by.now.state c.args.profile c.args.by.now.player c.args.b = c.next-next.ensures ∙ ap (λ g. successor g c.args.by.now.state (c.args.by.now.first + c.args.b * c.args.by.now.stride)) c.game-game.ensures.game ∙ ap (successor p.game c.args.by.now.state) steps in
    let all : IsKnown p (levels_in c.args.levels.now) (reached c.args.p.now.game c.args.by.now.state c.args.profile c.args.by.now.player c.args.b) =
    (c.requires.known (reached c.args.p.now.game c.args.by.now.state c.args.profile c.args.by.now.player c.args.b) (reached_state c.args.p.now.game c.args.by.now.state c.args.profile c.args.by.now.player c.args.b ok.game c.requires.state c.requires.profile c.requires.deviation)).0 (subst (λ m. IsTrue (slice_index_or c.args.known.now m false)) at c.if-not-known-next.false) in
    subst (λ m. IsNumber (levels_in c.args.levels.now m (minus_axis c.args.by.now.player))) (sym at) (all (minus_axis c.args.by.now.player) (minus_axis_known p c.args.by.now.player ok c.requires.deviation.player))

pub returns-clause-some : goal.returns-clause-some
returns-clause-some c =
    let p = c.args.p.now in
    let ok = c.game-game.ensures.is_problem in
    let steps : c.args.by.now.first + c.args.b * c.args.by.now.stride ≡ deviation_at c.args.p.now.game c.args.by.now.state c.args.profile c.args.by.now.player c.args.b = c.requires.from.steps c.args.b c.requires.deviation.strategy in
    let known : deviation_at c.args.p.now.game c.args.by.now.state c.args.profile c.args.by.now.player c.args.b < profile_count (counts p.game c.args.by.now.state) = deviation_known c.args.p.now.game c.args.by.now.state c.args.profile c.args.by.now.player c.args.b ok.game c.requires.state c.requires.profile c.requires.deviation in
    let u : c.payoff.result ≡ payoff_at p.game c.args.by.now.state (deviation_at c.args.p.now.game c.args.by.now.state c.args.profile c.args.by.now.player c.args.b) c.args.by.now.player = cc in
    let gap : IsGap c.args.by.now.weight c.args.by.now.unit c.payoff.result c.args.by.now.payoff c.finite-worst.result =
    gap_by p c.args.by.now.state c.args.profile c.args.by.now.player c.args.b c.args.by.now.weight c.args.by.now.unit c.payoff.result c.args.by.now.payoff c.finite-worst.result ok c.requires.opening c.requires.state c.requires.profile c.requires.deviation
    c.requires.from.weight c.requires.from.unit u c.requires.from.payoff c.finite-worst.ensures.small in
    let at : c.next-next.result ≡ reached c.args.p.now.game c.args.by.now.state c.args.profile c.args.by.now.player c.args.b = c.next-next.ensures ∙ ap (λ g. successor g c.args.by.now.state (c.args.by.now.first + c.args.b * c.args.by.now.stride)) c.game-game.ensures.game ∙ ap (successor p.game c.args.by.now.state) steps in (
      c.finite-worst.result,
      subst (λ m. levels_in c.args.levels.now m (minus_axis c.args.by.now.player) ≡ At c.finite-worst.result) at c.finite-worst.ensures.value,
      code_is c.args.by.now.weight c.args.by.now.unit c.payoff.result c.args.by.now.payoff c.finite-worst.result gap
          ∙ rw (c.requires.from.weight, c.requires.from.unit, u, c.requires.from.payoff)
          (ap (λ z. c.finite-worst.result -ℤ z) (gain_by_factors (p.game.q - discount_at p c.args.by.now.player) (p.game.base / discount_at p c.args.by.now.player) (fineness p) (payoff_at p.game c.args.by.now.state (deviation_at c.args.p.now.game c.args.by.now.state c.args.profile c.args.by.now.player c.args.b) c.args.by.now.player -ℤ payoff_at p.game c.args.by.now.state c.args.profile c.args.by.now.player))),
    )

pub returns-clause-small : goal.returns-clause-small
returns-clause-small c =
    let p = c.args.p.now in
    let ok = c.game-game.ensures.is_problem in
    let steps : c.args.by.now.first + c.args.b * c.args.by.now.stride ≡ deviation_at c.args.p.now.game c.args.by.now.state c.args.profile c.args.by.now.player c.args.b = c.requires.from.steps c.args.b c.requires.deviation.strategy in
    let known : deviation_at c.args.p.now.game c.args.by.now.state c.args.profile c.args.by.now.player c.args.b < profile_count (counts p.game c.args.by.now.state) = deviation_known c.args.p.now.game c.args.by.now.state c.args.profile c.args.by.now.player c.args.b ok.game c.requires.state c.requires.profile c.requires.deviation in
    let u : c.payoff.result ≡ payoff_at p.game c.args.by.now.state (deviation_at c.args.p.now.game c.args.by.now.state c.args.profile c.args.by.now.player c.args.b) c.args.by.now.player = cc in
    let gap : IsGap c.args.by.now.weight c.args.by.now.unit c.payoff.result c.args.by.now.payoff c.finite-worst.result =
    gap_by p c.args.by.now.state c.args.profile c.args.by.now.player c.args.b c.args.by.now.weight c.args.by.now.unit c.payoff.result c.args.by.now.payoff c.finite-worst.result ok c.requires.opening c.requires.state c.requires.profile c.requires.deviation
    c.requires.from.weight c.requires.from.unit u c.requires.from.payoff c.finite-worst.ensures.small in
    rw (code_is c.args.by.now.weight c.args.by.now.unit c.payoff.result c.args.by.now.payoff c.finite-worst.result gap) (gap_small c.args.by.now.weight c.args.by.now.unit c.payoff.result c.args.by.now.payoff c.finite-worst.result gap)

pub returns-clause-known : goal.returns-clause-known
returns-clause-known c =
    let p = c.args.p.now in
    let ok = c.game-game.ensures.is_problem in
    let steps : c.args.by.now.first + c.args.b * c.args.by.now.stride ≡ deviation_at c.args.p.now.game c.args.by.now.state c.args.profile c.args.by.now.player c.args.b = c.requires.from.steps c.args.b c.requires.deviation.strategy in
    let known : deviation_at c.args.p.now.game c.args.by.now.state c.args.profile c.args.by.now.player c.args.b < profile_count (counts p.game c.args.by.now.state) = deviation_known c.args.p.now.game c.args.by.now.state c.args.profile c.args.by.now.player c.args.b ok.game c.requires.state c.requires.profile c.requires.deviation in
    let at : c.next-next.result ≡ reached c.args.p.now.game c.args.by.now.state c.args.profile c.args.by.now.player c.args.b = c.next-next.ensures ∙ ap (λ g. successor g c.args.by.now.state (c.args.by.now.first + c.args.b * c.args.by.now.stride)) c.game-game.ensures.game ∙ ap (successor p.game c.args.by.now.state) steps in
    let all : IsKnown p (levels_in c.args.levels.now) (reached c.args.p.now.game c.args.by.now.state c.args.profile c.args.by.now.player c.args.b) =
    (c.requires.known (reached c.args.p.now.game c.args.by.now.state c.args.profile c.args.by.now.player c.args.b) (reached_state c.args.p.now.game c.args.by.now.state c.args.profile c.args.by.now.player c.args.b ok.game c.requires.state c.requires.profile c.requires.deviation)).0 (subst (λ m. IsTrue (slice_index_or c.args.known.now m false)) at c.if-not-known-next.false) in
    all
