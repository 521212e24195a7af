use Rattle.std.proofs.Common.{◌≡◌, ℕ, ℤ, ◌-◌, ◌^◌, ◌≤◌, ◌∙◌, arith, rules, ◌*ℤ◌, to_z, of_z, FitsSigned}
use Rattle.std.specs.Int.{w64}
use Rattle.std.specs.Int.RustNames.{unsigned_abs}
use Rattle.std.proofs.lemmas.Int.{to_z-of_z}
use Rattle.game_model.specs.Game.{states, counts, profile_count, payoff_at}
use Rattle.level_table.specs.Problem.{largest}
use Rattle.level_table.proofs.OpeningLemmas.{largest_more, max_small}
use Rattle.level_table.proofs.openings.largest_payoff.Goals as goal

pub loop-s-preserved : goal.loop-s-preserved
loop-s-preserved c =
    let fits : FitsSigned w64 c.max-most.result = search rules in
    let same : to_z w64 (of_z w64 c.max-most.result) ≡ c.max-most.result = to_z-of_z w64 c.max-most.result fits in
    let one_fits : FitsSigned w64 c.largest_in.result = search rules in
    let one : to_z w64 (of_z w64 c.largest_in.result) ≡ c.largest_in.result = to_z-of_z w64 c.largest_in.result one_fits in
    let one_small : unsigned_abs (to_z w64 (of_z w64 c.largest_in.result)) ≤ 2 ^ 28 = rw one c.largest_in.ensures.small in
    let f : ℕ → ℤ = λ s. largest (λ a. to_z w64 (of_z w64 c.args.factor) *ℤ payoff_at c.args.game.now s a c.args.i) (profile_count (counts c.args.game.now s) - 1) in
    let old : ℤ = to_z w64 c.loop-s.most-bits in
    let new : ℤ = to_z w64 (of_z w64 c.largest_in.result) in
    record {
      largest = same ∙ largest_more f c.loop-s.s old new c.max-most.result c.loop-s.auto.s c.loop-s.invariant.largest (one ∙ c.largest_in.ensures.largest) c.max-most.ensures.value;
      small = rw same (max_small old new c.max-most.result (2 ^ 28) c.loop-s.invariant.small one_small c.max-most.ensures.value);
    }

pub returns-clause-largest : goal.returns-clause-largest
returns-clause-largest c =
    let all : c.loop-s.s - 1 ≡ states c.args.game.now - 1 = omega (arith, c.states-s-end.ensures, c.loop-s.auto.s-end, c.loop-s-test.false, c.requires.game.some_state) in
    let factor : to_z w64 (of_z w64 c.args.factor) ≡ c.args.factor = to_z-of_z w64 c.args.factor c.ranges.factor in
    let whole : to_z w64 c.loop-s.most-bits ≡ largest (λ s. largest (λ a. to_z w64 (of_z w64 c.args.factor) *ℤ payoff_at c.args.game.now s a c.args.i) (profile_count (counts c.args.game.now s) - 1)) (c.loop-s.s - 1) = c.loop-s.invariant.largest in
    rw (factor, all) at whole
