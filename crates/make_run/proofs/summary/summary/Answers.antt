use Rattle.std.proofs.Common.{ap, ◌∙◌, rules, FitsSigned}
use Rattle.std.specs.Int.{w64}
use Rattle.std.proofs.lemmas.Int.{to_z-of_z}
use Rattle.game_model.specs.SelfGeneration.{sum_below}
use Rattle.level_table.specs.Iterates.{number_of}
use Rattle.level_table.specs.Levels.{levels_in}
use Rattle.make_run.specs.Summary.{empty_count, finite_count}
use Rattle.make_run.proofs.Counts.{small_by_row, sum_of_all}
use Rattle.make_run.proofs.summary.summary.Goals as goal

pub finite-rows-requires : goal.finite-rows-requires
finite-rows-requires c = λ row within. small_by_row c.args.p.now c.args.levels.now row c.requires within

pub returns-clause-numbers : goal.returns-clause-numbers
returns-clause-numbers c =
    let p = c.args.p.now in
    let t = c.args.levels.now in
    let fits : FitsSigned w64 c.finite-rows.result.1 = search rules in
    record {
      empty = c.empty_states.ensures ∙ ap (sum_below (λ s. empty_count (levels_in t s 0))) c.requires.sizes.states_agree;
      rows = c.finite-rows.ensures.rows ∙ sum_of_all p t finite_count c.requires;
      total = to_z-of_z w64 c.finite-rows.result.1 fits ∙ c.finite-rows.ensures.total ∙ sum_of_all p t number_of c.requires;
    }
