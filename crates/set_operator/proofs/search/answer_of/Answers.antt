-- the answer of the first best profile
use Rattle.std.proofs.Common.{subst, sym, rules, FitsSigned}
use Rattle.std.specs.Int.{w64}
use Rattle.std.specs.Prelude.{Some}
use Rattle.std.proofs.lemmas.Int.{to_z-of_z}
use Rattle.game_model.specs.Game.{counts, profile_count}
use Rattle.level_table.specs.Levels.{levels_in}
use Rattle.set_operator.specs.Answers.{IsLevelAnswer}
use Rattle.set_operator.specs.Search.{IsEarliest, IsLargestBelow, IsLargestSoFar}
use Rattle.set_operator.proofs.SearchLemmas.{answer_by_code}
use Rattle.set_operator.proofs.search.answer_of.Goals as goal

pub returns-in-Some : goal.returns-in-Some
returns-in-Some c =
    let p = c.args.p.now in
    let t = levels_in c.args.levels.now in
    let s = c.args.row.state in
    let k = c.args.row.dir in
    let best = c.in-Some.best in
    let h : IsLargestBelow p t s k (profile_count (counts p.game s)) best = subst (λ o. IsLargestSoFar p t s k (profile_count (counts p.game s)) o) c.in-Some.is c.requires.largest in
    let earliest : IsEarliest p t s k (Some best) = subst (λ o. IsEarliest p t s k o) c.in-Some.is c.requires.earliest in
    let fits : FitsSigned w64 c.level_of.result = search rules in
    subst (λ z. IsLevelAnswer p t s k z best.profile best.point c.of.result) (sym (to_z-of_z w64 c.level_of.result fits))
    (answer_by_code p t s k best c.value_unit.result c.level_of.result c.of.result h earliest c.value_unit.ensures.unit c.value_unit.ensures.small c.level_of.ensures.ceiling c.level_of.ensures.small c.of.ensures.lowest c.of.ensures.equal)
