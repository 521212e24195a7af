use Rattle.std.proofs.Common.{◌≡◌, ℕ, ℤ, ◌-◌, ◌^◌, ◌≤◌, ◌∙◌, arith, rules, ◌*ℤ◌, to_z, of_z, FitsSigned}
use Rattle.std.specs.Int.{w64}
use Rattle.std.specs.Int.RustNames.{unsigned_abs}
use Rattle.std.proofs.lemmas.Int.{to_z-of_z}
use Rattle.game_model.specs.Game.{counts, profile_count, payoff_at}
use Rattle.level_table.specs.Problem.{largest}
use Rattle.level_table.proofs.Sizes.{some_profile}
use Rattle.level_table.proofs.OpeningLemmas.{largest_more, max_small}
use Rattle.level_table.proofs.openings.largest_in.Goals as goal

pub payoff_times-most-requires-clause-profile : goal.payoff_times-most-requires-clause-profile
payoff_times-most-requires-clause-profile c = some_profile c.args.game.now c.args.s c.requires.game c.requires.state

pub loop-a-preserved : goal.loop-a-preserved
loop-a-preserved c =
    let fits : FitsSigned w64 c.max-most.result = search rules in
    let same : to_z w64 (of_z w64 c.max-most.result) ≡ c.max-most.result = to_z-of_z w64 c.max-most.result fits in
    let one_fits : FitsSigned w64 c.payoff_times.result = search rules in
    let one : to_z w64 (of_z w64 c.payoff_times.result) ≡ c.payoff_times.result = to_z-of_z w64 c.payoff_times.result one_fits in
    let one_small : unsigned_abs (to_z w64 (of_z w64 c.payoff_times.result)) ≤ 2 ^ 28 = rw one c.payoff_times.ensures.small in
    let f : ℕ → ℤ = λ a. to_z w64 (of_z w64 c.args.factor) *ℤ payoff_at c.args.game.now c.args.s a c.args.i in
    let old : ℤ = to_z w64 c.loop-a.most-bits in
    let new : ℤ = to_z w64 (of_z w64 c.payoff_times.result) in
    record {
      largest = same ∙ largest_more f c.loop-a.a old new c.max-most.result c.loop-a.auto.a c.loop-a.invariant.largest (one ∙ c.payoff_times.ensures.product) c.max-most.ensures.value;
      small = rw same (max_small old new c.max-most.result (2 ^ 28) c.loop-a.invariant.small one_small c.max-most.ensures.value);
    }

pub returns-clause-largest : goal.returns-clause-largest
returns-clause-largest c =
    let some : 1 ≤ profile_count (counts c.args.game.now c.args.s) = some_profile c.args.game.now c.args.s c.requires.game c.requires.state in
    let all : c.loop-a.a - 1 ≡ profile_count (counts c.args.game.now c.args.s) - 1 = omega (arith, c.profiles-a-end.ensures, c.loop-a.auto.a-end, c.loop-a-test.false) in
    let factor : to_z w64 (of_z w64 c.args.factor) ≡ c.args.factor = to_z-of_z w64 c.args.factor c.ranges.factor in
    let whole : to_z w64 c.loop-a.most-bits ≡ largest (λ a. to_z w64 (of_z w64 c.args.factor) *ℤ payoff_at c.args.game.now c.args.s a c.args.i) (c.loop-a.a - 1) = c.loop-a.invariant.largest in
    rw (factor, all) at whole
