-- one profile more
use Rattle.std.proofs.Common.{◌<◌, subst, sym}
use Rattle.game_model.specs.Game.{counts, profile_count}
use Rattle.std.specs.Prelude.{Some, IfSome, IfNone}
use Rattle.level_table.specs.Levels.{levels_in}
use Rattle.level_table.specs.Operator.{Admissible, Fractions}
use Rattle.set_operator.specs.Search.{IsBestOf, IsEarliest, IsLargestSoFar}
use Rattle.set_operator.proofs.SearchLemmas.{box_there, so_far_skip, so_far_start, start_is_earliest, unknown_admits_nothing}
use Rattle.set_operator.proofs.search.with_profile.Goals as goal

pub returns-in-None-clause-largest : goal.returns-in-None-clause-largest
returns-in-None-clause-largest c =
    so_far_skip c.args.p.now (levels_in c.args.levels.now) c.args.row.state c.args.row.dir c.args.a c.args.before c.requires.before
    (unknown_admits_nothing c.args.p.now (levels_in c.args.levels.now) c.args.row.state c.args.a c.args.program.now c.in-None.is c.requires.at)

pub returns-in-None-before-clause-largest : goal.returns-in-None-before-clause-largest
returns-in-None-before-clause-largest c =
    let p = c.args.p.now in
    let t = levels_in c.args.levels.now in
    let b = box_there p t c.args.row.state c.args.a c.args.program.now c.in-Some.found c.in-Some.is c.requires.at in
    let some : IfSome c.best_of.result (IsBestOf p t c.args.row.state c.args.row.dir c.args.a) =
    subst (λ s. IfSome c.best_of.result (IsBestOf p t s c.args.row.dir c.args.a)) b.0 (subst (λ a. IfSome c.best_of.result (IsBestOf p t c.in-Some.found.state c.args.row.dir a)) b.1 c.best_of.ensures.some) in
    let none : IfNone c.best_of.result ((z : Fractions) → Admissible p t c.args.row.state c.args.a z → ⊥) =
    subst (λ s. IfNone c.best_of.result ((z : Fractions) → Admissible p t s c.args.a z → ⊥)) b.0 (subst (λ a. IfNone c.best_of.result ((z : Fractions) → Admissible p t c.in-Some.found.state a z → ⊥)) b.1 c.best_of.ensures.none) in
    so_far_start p t c.args.row.state c.args.row.dir c.args.a c.best_of.result (subst (λ n. n < profile_count (counts p.game c.args.row.state)) b.1 (subst (λ s. c.in-Some.found.profile < profile_count (counts p.game s)) b.0 b.2.profile)) (subst (λ o. IsLargestSoFar p t c.args.row.state c.args.row.dir c.args.a o) c.in-None-before.is c.requires.before) some none

pub returns-in-None-before-clause-earliest : goal.returns-in-None-before-clause-earliest
returns-in-None-before-clause-earliest c =
    let p = c.args.p.now in
    let t = levels_in c.args.levels.now in
    let b = box_there p t c.args.row.state c.args.a c.args.program.now c.in-Some.found c.in-Some.is c.requires.at in
    let some : IfSome c.best_of.result (IsBestOf p t c.args.row.state c.args.row.dir c.args.a) =
    subst (λ s. IfSome c.best_of.result (IsBestOf p t s c.args.row.dir c.args.a)) b.0 (subst (λ a. IfSome c.best_of.result (IsBestOf p t c.in-Some.found.state c.args.row.dir a)) b.1 c.best_of.ensures.some) in
    λ _. start_is_earliest p t c.args.row.state c.args.row.dir c.args.a c.best_of.result (subst (λ o. IsLargestSoFar p t c.args.row.state c.args.row.dir c.args.a o) c.in-None-before.is c.requires.before) some

pub returns-in-Some-before-clause-earliest : goal.returns-in-Some-before-clause-earliest
returns-in-Some-before-clause-earliest c =
    let p = c.args.p.now in
    let t = levels_in c.args.levels.now in
    let k = c.args.row.dir in
    let b = box_there p t c.args.row.state c.args.a c.args.program.now c.in-Some.found c.in-Some.is c.requires.at in
    λ h. subst (λ s. IsEarliest p t s k (Some c.improved.result)) b.0
    (c.improved.ensures.earliest (subst (λ s. IsEarliest p t s k (Some c.in-Some-before.best)) (sym b.0) (subst (λ o. IsEarliest p t c.args.row.state k o) c.in-Some-before.is h)))
