use Rattle.std.proofs.Common.{◌≡◌, ◌∙◌, rules, subst, to_z, of_z, FitsSigned}
use Rattle.std.specs.Prelude.{IfSome}
use Rattle.std.specs.Int.{int_min, w64}
use Rattle.std.proofs.lemmas.Int.{to_z-of_z}
use Rattle.level_table.specs.Levels.{levels_in}
use Rattle.set_operator.specs.Search.{IsLeader}
use Rattle.set_operator.proofs.PreparedLemmas.{leader_admits, lesser_level}
use Rattle.set_operator.proofs.prepared.lesser_of.Goals as goal

pub returns-in-Some : goal.returns-in-Some
returns-in-Some c =
    let p = c.args.p.now in
    let t = levels_in c.args.levels.now in
    let s = c.args.row.state in
    let k = c.args.row.dir in
    let best = c.in-Some.best in
    let h : IsLeader p t s k c.args.level best = subst (λ o. IfSome o (IsLeader p t s k c.args.level)) c.in-Some.is c.requires.some in
    let fits : FitsSigned w64 c.min.result = search rules in
    let found_fits : FitsSigned w64 c.level_of.result = search rules in
    let value : c.min.result ≡ int_min (to_z w64 (of_z w64 c.args.level)) (to_z w64 (of_z w64 c.level_of.result)) = c.min.ensures.value in
    let is : c.min.result ≡ int_min c.args.level c.level_of.result = rw (to_z-of_z w64 c.args.level c.ranges.level, to_z-of_z w64 c.level_of.result found_fits) at value in
    (leader_admits p t s k c.args.level best h, h.known, λ m level. to_z-of_z w64 c.min.result fits ∙ is ∙ lesser_level p t s k c.args.level c.level_of.result best c.rules.ensures c.requires.state h c.level_of.ensures.ceiling m level)
