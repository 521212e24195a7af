use Rattle.std.proofs.Common.{◌≡◌, ◌≤◌, ◌<◌, sym, ap, subst, ◌∙◌, refl, rules, T, Fits, FitsSigned}
use lib.Signed.{non_neg}
use Rattle.std.specs.Int.{w64}
use Rattle.std.specs.Prelude.{pos, nat_abs}
use Rattle.direction_set.specs.DirectionTable.{opposite_of}
use Rattle.level_table.specs.Problem.{direction_count, opening_level}
use Rattle.make_run.proofs.Openings.{cast_fits, cast_is, cast_small, height_within, opening_number, sum_is}
use Rattle.make_run.proofs.budget.height_in.Goals as goal

pub overflow_cast-result : goal.overflow_cast-result
overflow_cast-result c =
    let p = c.args.p.now in
    let t = c.args.start.now in
    let k = c.args.k in
    let ok = c.rules.ensures in
    let j = opposite_of k in
    let within : j < direction_count p = ok.directions.opposite_within k c.requires.dir in
    let a : FitsSigned w64 c.number.result = search rules in
    let b : FitsSigned w64 c.number-2.result = search rules in
    let e : c.number.result ≡ opening_level p k = opening_number p t k k c.at.result c.number.result ok c.requires.opening c.requires.dir c.number.ensures c.at.ensures.level refl in
    let f : c.number-2.result ≡ opening_level p j =
    opening_number p t j c.opposite-opposite.result c.at-2.result c.number-2.result ok c.requires.opening within c.number-2.ensures c.at-2.ensures.level c.opposite-opposite.ensures.number in
    let h = height_within p k ok (c.opening_is_start.ensures.start p ok) c.requires.tiny c.requires.dir in
    subst (λ z. T (non_neg z) × Fits w64 (nat_abs z)) (sym (sum_is _ _ _ _ a b e f h)) (cast_fits _ h)

pub returns-clause-height : goal.returns-clause-height
returns-clause-height c =
    let p = c.args.p.now in
    let t = c.args.start.now in
    let k = c.args.k in
    let ok = c.rules.ensures in
    let j = opposite_of k in
    let within : j < direction_count p = ok.directions.opposite_within k c.requires.dir in
    let a : FitsSigned w64 c.number.result = search rules in
    let b : FitsSigned w64 c.number-2.result = search rules in
    let e : c.number.result ≡ opening_level p k = opening_number p t k k c.at.result c.number.result ok c.requires.opening c.requires.dir c.number.ensures c.at.ensures.level refl in
    let f : c.number-2.result ≡ opening_level p j =
    opening_number p t j c.opposite-opposite.result c.at-2.result c.number-2.result ok c.requires.opening within c.number-2.ensures c.at-2.ensures.level c.opposite-opposite.ensures.number in
    let h = height_within p k ok (c.opening_is_start.ensures.start p ok) c.requires.tiny c.requires.dir in
    ap (λ z. pos (nat_abs z)) (sum_is _ _ _ _ a b e f h) ∙ cast_is _ h.0

pub returns-clause-small : goal.returns-clause-small
returns-clause-small c =
    let p = c.args.p.now in
    let t = c.args.start.now in
    let k = c.args.k in
    let ok = c.rules.ensures in
    let j = opposite_of k in
    let within : j < direction_count p = ok.directions.opposite_within k c.requires.dir in
    let a : FitsSigned w64 c.number.result = search rules in
    let b : FitsSigned w64 c.number-2.result = search rules in
    let e : c.number.result ≡ opening_level p k = opening_number p t k k c.at.result c.number.result ok c.requires.opening c.requires.dir c.number.ensures c.at.ensures.level refl in
    let f : c.number-2.result ≡ opening_level p j =
    opening_number p t j c.opposite-opposite.result c.at-2.result c.number-2.result ok c.requires.opening within c.number-2.ensures c.at-2.ensures.level c.opposite-opposite.ensures.number in
    let h = height_within p k ok (c.opening_is_start.ensures.start p ok) c.requires.tiny c.requires.dir in
    subst (λ z. nat_abs z ≤ 2880) (sym (sum_is _ _ _ _ a b e f h)) (cast_small _ h)
