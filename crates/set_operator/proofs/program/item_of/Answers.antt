use Rattle.std.proofs.Common.{◌≡◌, ◌<◌, ◌/◌, ◌∙◌, ℕ, arith, sym, ap, subst}
use Rattle.std.specs.Prelude.{None, List, slice_index_or}
use Rattle.std.specs.Int.{w64, w128}
use Rattle.std.specs.Int.RustNames.{FitsSigned}
use Rattle.std.proofs.lemmas.Int.{to_z-of_z}
use Rattle.level_table.specs.declared.level.Level.TheVariants.{At}
use Rattle.level_table.specs.declared.reason.Item.TheVariants as items
use Rattle.level_table.specs.Levels.{levels_in}
use Rattle.level_table.specs.Problem.{IsProblem, minus_axis}
use Rattle.set_operator.specs.Boxes.{no_side, side_at}
use Rattle.set_operator.specs.declared.boxes.Side.{Side}
use Rattle.game_model.specs.Game.{successor, reached}
use Rattle.set_operator.specs.Program.{IsItemOf}
use Rattle.set_operator.proofs.Items.{item_level, item_gain}
use Rattle.set_operator.proofs.program.item_of.Goals as goal
use Rattle.set_operator.proofs.program.item_of.Goals.{then-row-eq1+then-player-players+in_default, else-row-eq1, else-row-eq1-via-then-row-eq1+else-player-players, else-row-eq1-via-else-row-eq1}

pub returns-in-Some : goal.returns-in-Some
returns-in-Some c =
    let ok : IsProblem c.args.p.now = c.rules.ensures in
    let f1 : FitsSigned w64 c.number_at.result = record { sfits = c.number_at.type_inv } in
    let f2 : FitsSigned w128 c.args.times = c.ranges.times in
    let player : c.args.row / 2 < c.args.p.now.game.players = omega (arith, c.if-player-players.true, c.players.ensures) in
    let row_is : minus_axis (c.args.row / 2) ≡ c.args.row = omega (arith, c.if-row-eq1.true) in
    let b = c.args.found.now in
    let i = c.args.row / 2 in
    let reach : c.next.result ≡ reached c.args.p.now.game b.state b.profile i c.in-Some.strategy =
    c.next.ensures ∙ ap (λ a. successor c.game-game.result.now b.state a) c.deviation-profile.ensures.deviation
    ∙ ap (λ g. reached g b.state b.profile i c.in-Some.strategy) c.game-game.ensures.game in
    let kept : levels_in c.args.levels.now (reached c.args.p.now.game b.state b.profile i c.in-Some.strategy) (minus_axis i) ≡ At c.number_at.result =
    subst (λ r. levels_in c.args.levels.now (reached c.args.p.now.game b.state b.profile i c.in-Some.strategy) r ≡ At c.number_at.result) (sym row_is)
    (subst (λ s. levels_in c.args.levels.now s c.args.row ≡ At c.number_at.result) reach c.number_at.ensures) in
    simp to_z-of_z (subst (λ r. IsItemOf c.args.p.now (levels_in c.args.levels.now) b r c.args.times (items.Gain i c.in-Some.strategy c.number_at.result c.args.times)) row_is
    (item_gain c.args.p.now (levels_in c.args.levels.now) b i c.in-Some.strategy c.number_at.result c.args.times ok c.requires.sides player c.in-Some.is kept))

same_by : (xs : List Side) (i j : ℕ) → i ≡ j → (slice_index_or xs j no_side).by ≡ None → (slice_index_or xs i no_side).by ≡ None
same_by xs i j e h = subst (λ k. (slice_index_or xs k no_side).by ≡ None) (sym e) h

pub returns : goal.returns
returns c =
    let ok : IsProblem c.args.p.now = c.rules.ensures in
    let f1 : FitsSigned w64 c.number_at-2.result = record { sfits = c.number_at-2.type_inv } in
    let f2 : FitsSigned w128 c.args.times = c.ranges.times in
    let none : (i : ℕ) → i < c.args.p.now.game.players → c.args.row ≡ minus_axis i → (side_at c.args.found.now i).by ≡ None = λ i w e. elim c.if-row-eq1.branch [
      | then-row-eq1+then-player-players+in_default v ↦ same_by c.args.found.now.sides i (c.args.row / 2) (omega (arith, e)) v.in_default.is
      | else-row-eq1 v ↦ elim v.else-row-eq1.branch [
        | else-row-eq1-via-then-row-eq1+else-player-players u ↦ absurd (omega (arith, e, w, u.if-player-players.false, u.players.ensures))
        | else-row-eq1-via-else-row-eq1 u ↦ absurd (let ne = u.if-row-eq1.false in ne (omega (arith, e)))
      ]
    ] in
    simp to_z-of_z (item_level c.args.p.now (levels_in c.args.levels.now) c.args.found.now c.args.row c.number_at-2.result c.args.times c.requires.sides c.requires.row c.number_at-2.ensures none)
