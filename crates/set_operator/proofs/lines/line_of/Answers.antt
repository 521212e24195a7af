-- one strategy more
use Rattle.std.proofs.Common.{◌≡◌, ◌+◌, ◌*◌, ◌^◌, ◌<◌, ◌∙◌, arith, ap, subst, sym, lit<, ℤ}
use Rattle.std.specs.Prelude.{slice_index}
use Rattle.game_model.specs.Game.{counts, deviation_at, successor}
use Rattle.game_model.proofs.Lists.{few_profiles}
use Rattle.level_table.specs.Levels.{levels_in}
use Rattle.level_table.specs.Reasons.{IsKnown}
use Rattle.set_operator.specs.Lines.{IsKnownLine, IsLineBelow, IsTerm}
use Rattle.set_operator.proofs.LineLemmas.{first_place, for_none, line_more, line_start, place_below, place_by, some_strategy}
use Rattle.set_operator.proofs.Scales.{W, kept}
use Rattle.set_operator.proofs.lines.line_of.Goals as goal

pub returns-in_err-term-clause-none : goal.returns-in_err-term-clause-none
returns-in_err-term-clause-none c =
    let p = c.args.p.now in
    let t = levels_in c.args.levels.now in
    let s = c.args.by.now.state in
    let i = c.args.by.now.player in
    let ok = c.rules.ensures in
    for_none c.from_residual.result (IsKnownLine p t s c.args.first i → ⊥)
    (λ h. c.in_err-term.ensures.none (subst (λ m. IsKnown p t (successor p.game s m)) (first_place p.game s c.args.first i ok.game c.requires.state c.requires.profile c.requires.player c.requires.begins) (h 0 (some_strategy p.game s i ok.game c.requires.state c.requires.player))))

pub loop-b-init : goal.loop-b-init
loop-b-init c =
    let p = c.args.p.now in
    let t = levels_in c.args.levels.now in
    let s = c.args.by.now.state in
    let i = c.args.by.now.player in
    let ok = c.rules.ensures in
    let x : ℤ = c.in_ok-term.field-0 in
    let is : W x ≡ x = kept x (2 ^ 61) c.in_ok-term.ensures.small (lit< tt) in
    let place : c.args.first ≡ deviation_at p.game s c.args.first i 0 = sym (first_place p.game s c.args.first i ok.game c.requires.state c.requires.profile c.requires.player c.requires.begins) in
    subst (λ z. IsLineBelow p t s c.args.first i 1 (record { least = z; first = 0 })) (sym is)
    (line_start p t s c.args.first i x (subst (λ m. IsTerm p t s i m x) place c.in_ok-term.ensures.some) (subst (λ m. IsKnown p t (successor p.game s m)) place c.in_ok-term.ensures.known) c.in_ok-term.ensures.small)

pub overflow_mul-b : goal.overflow_mul-b
overflow_mul-b c =
    let p = c.args.p.now in
    let s = c.args.by.now.state in
    let i = c.args.by.now.player in
    let ok = c.rules.ensures in
    let inside : c.loop-b.b < slice_index (counts p.game s) i = omega (arith, c.strategies-b-end.ensures ∙ ap (λ g. slice_index (counts g s) i) c.game.ensures.game, c.loop-b-test.true) in
    let step : c.args.first + c.loop-b.b * c.args.by.now.stride ≡ deviation_at p.game s c.args.first i c.loop-b.b =
    place_by p.game s c.args.first i c.loop-b.b c.args.by.now.stride ok.game c.requires.state c.requires.profile c.requires.player inside c.requires.begins c.requires.from.stride in
    omega (arith, step, place_below p.game s c.args.first i c.loop-b.b ok.game c.requires.state c.requires.profile c.requires.player inside, few_profiles p.game ok.game s c.requires.state)

pub overflow_add-first : goal.overflow_add-first
overflow_add-first c =
    let p = c.args.p.now in
    let s = c.args.by.now.state in
    let i = c.args.by.now.player in
    let ok = c.rules.ensures in
    let inside : c.loop-b.b < slice_index (counts p.game s) i = omega (arith, c.strategies-b-end.ensures ∙ ap (λ g. slice_index (counts g s) i) c.game.ensures.game, c.loop-b-test.true) in
    let step : c.args.first + c.loop-b.b * c.args.by.now.stride ≡ deviation_at p.game s c.args.first i c.loop-b.b =
    place_by p.game s c.args.first i c.loop-b.b c.args.by.now.stride ok.game c.requires.state c.requires.profile c.requires.player inside c.requires.begins c.requires.from.stride in
    omega (arith, step, place_below p.game s c.args.first i c.loop-b.b ok.game c.requires.state c.requires.profile c.requires.player inside, few_profiles p.game ok.game s c.requires.state)

pub term-requires-in-loop-b-clause-profile : goal.term-requires-in-loop-b-clause-profile
term-requires-in-loop-b-clause-profile c =
    let p = c.args.p.now in
    let s = c.args.by.now.state in
    let i = c.args.by.now.player in
    let ok = c.rules.ensures in
    let inside : c.loop-b.b < slice_index (counts p.game s) i = omega (arith, c.strategies-b-end.ensures ∙ ap (λ g. slice_index (counts g s) i) c.game.ensures.game, c.loop-b-test.true) in
    let step : c.args.first + c.loop-b.b * c.args.by.now.stride ≡ deviation_at p.game s c.args.first i c.loop-b.b =
    place_by p.game s c.args.first i c.loop-b.b c.args.by.now.stride ok.game c.requires.state c.requires.profile c.requires.player inside c.requires.begins c.requires.from.stride in
    rw step (place_below p.game s c.args.first i c.loop-b.b ok.game c.requires.state c.requires.profile c.requires.player inside)

pub returns-in_err-term-2-clause-none : goal.returns-in_err-term-2-clause-none
returns-in_err-term-2-clause-none c =
    let p = c.args.p.now in
    let t = levels_in c.args.levels.now in
    let s = c.args.by.now.state in
    let i = c.args.by.now.player in
    let ok = c.rules.ensures in
    let inside : c.loop-b.b < slice_index (counts p.game s) i = omega (arith, c.strategies-b-end.ensures ∙ ap (λ g. slice_index (counts g s) i) c.game.ensures.game, c.loop-b-test.true) in
    let step : c.args.first + c.loop-b.b * c.args.by.now.stride ≡ deviation_at p.game s c.args.first i c.loop-b.b =
    place_by p.game s c.args.first i c.loop-b.b c.args.by.now.stride ok.game c.requires.state c.requires.profile c.requires.player inside c.requires.begins c.requires.from.stride in
    for_none c.from_residual-in_err-term-2.result (IsKnownLine p t s c.args.first i → ⊥)
    (λ h. c.in_err-term-2.ensures.none (subst (λ m. IsKnown p t (successor p.game s m)) (sym step) (h c.loop-b.b inside)))

pub loop-b-preserved : goal.loop-b-preserved
loop-b-preserved c =
    let p = c.args.p.now in
    let t = levels_in c.args.levels.now in
    let s = c.args.by.now.state in
    let i = c.args.by.now.player in
    let ok = c.rules.ensures in
    let inside : c.loop-b.b < slice_index (counts p.game s) i = omega (arith, c.strategies-b-end.ensures ∙ ap (λ g. slice_index (counts g s) i) c.game.ensures.game, c.loop-b-test.true) in
    let step : c.args.first + c.loop-b.b * c.args.by.now.stride ≡ deviation_at p.game s c.args.first i c.loop-b.b =
    place_by p.game s c.args.first i c.loop-b.b c.args.by.now.stride ok.game c.requires.state c.requires.profile c.requires.player inside c.requires.begins c.requires.from.stride in
    let x : ℤ = c.in_ok-term-2.field-0 in
    let is : W x ≡ x = kept x (2 ^ 61) c.in_ok-term-2.ensures.small (lit< tt) in
    line_more p t s c.args.first i c.loop-b.b c.loop-b.line c.lowered-line.result (W x) c.loop-b.invariant
    (rw is (subst (λ m. IsTerm p t s i m x) step c.in_ok-term-2.ensures.some))
    (subst (λ m. IsKnown p t (successor p.game s m)) step c.in_ok-term-2.ensures.known)
    (rw is c.in_ok-term-2.ensures.small)
    c.lowered-line.ensures.less c.lowered-line.ensures.no_less

pub returns-clause-some : goal.returns-clause-some
returns-clause-some c =
    let p = c.args.p.now in
    let t = levels_in c.args.levels.now in
    let s = c.args.by.now.state in
    let i = c.args.by.now.player in
    let some = some_strategy p.game s i c.rules.ensures.game c.requires.state c.requires.player in
    let end : c.loop-b.b ≡ slice_index (counts p.game s) i = omega (arith, some, c.strategies-b-end.ensures ∙ ap (λ g. slice_index (counts g s) i) c.game.ensures.game, c.loop-b.auto.b-end, c.loop-b-test.false) in
    subst (λ n. IsLineBelow p t s c.args.first i n c.loop-b.line) end c.loop-b.invariant
