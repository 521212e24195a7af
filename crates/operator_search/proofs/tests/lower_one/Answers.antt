use Rattle.std.proofs.Common.{◌≡◌, ◌≤◌, sym, subst, arith, ℤ}
use Rattle.std.specs.Int.RustNames.{unsigned_abs}
use Rattle.std.proofs.lemmas.Int.{to_z-of_z, fits_signed_from_abs}
use mir.Syntax.{w64}
use mir.Val.{to_z, of_z, SFits}
use Rattle.level_table.specs.declared.level.Level.TheVariants.{At}
use Rattle.level_table.specs.Levels.{IsSmall}
use Rattle.level_table.specs.Problem.{problem_of}
use Rattle.operator_search.proofs.SmallGames.{level_is_small, put_is_small}
use Rattle.operator_search.proofs.tests.lower_one.Goals as goal

pub returns-then-number-from : goal.returns-then-number-from
returns-then-number-from c =
    let x = c.drawn-level.result in
    let small : unsigned_abs x ≤ 60 = c.drawn-level.ensures in
    let fits : SFits w64 x = fits_signed_from_abs w64 x (omega (arith, small)) in
    let back : to_z w64 (of_z w64 x) ≡ x = to_z-of_z w64 x fits in
    put_is_small (problem_of c.args.game.now c.args.dirs.now 2) c.args.levels.now _ _ _ _ c.requires c.put.ensures (subst (λ (z : ℤ). IsSmall (At z)) (sym back) (level_is_small x small))
