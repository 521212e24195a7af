-- one player more
use Rattle.std.proofs.Common.{◌≡◌, ◌∙◌, inl, inr, ℕ, ◌^◌, ◌+◌, ◌*◌, ◌<◌, ◌≤◌, length, sym, ap, subst, arith, lit<, below_more, slice_index_or, slice_set, pos, ◌*ℤ◌}
use Rattle.std.specs.Int.RustNames.{unsigned_abs}
use Rattle.std.proofs.lemmas.Bool.{cases_eq}
use Rattle.std.proofs.lemmas.List.{get_or-set_same, get_or-set_other, length-set}
use Rattle.std.specs.Prelude.{None, Some}
use Rattle.game_model.specs.Game.{counts, payoff_at, profile_count, successor}
use Rattle.game_model.proofs.Lists.{few_profiles}
use Rattle.level_table.specs.Levels.{levels_in}
use Rattle.level_table.specs.Reasons.{IsKnown}
use Rattle.set_operator.specs.Boxes.{IsSide, no_side, stage_scale}
use Rattle.set_operator.specs.Lines.{AreAsks}
use Rattle.set_operator.proofs.LineLemmas.{asks_here, line_known, next_by_line, place_inside, reach_by_line}
use Rattle.set_operator.proofs.Scales.{W, kept}
use Rattle.set_operator.proofs.sides.box_by.Goals as goal

pub loop-i-preserved : goal.loop-i-preserved
loop-i-preserved c =
    let p = c.args.p.now in
    let t = levels_in c.args.levels.now in
    let i : ℕ = c.loop-i.i in
    let n : ℕ = profile_count (counts p.game c.args.state) in
    let count : c.profiles-count.result ≡ n = c.profiles-count.ensures ∙ ap (λ g. profile_count (counts g c.args.state)) c.game-2.ensures.game in
    let inside : i < p.game.players = omega (arith, c.players-i-end.ensures, c.loop-i-test.true) in
    let ok = c.game.ensures.is_problem in
    let place = place_inside i p.game.players n c.args.profile inside c.requires.profile ok.game.three_players (few_profiles p.game ok.game c.args.state c.requires.state) in
    let here : AreAsks p t c.args.state c.args.profile i (slice_index_or c.args.asks.now (i * c.profiles-count.result + c.args.profile) None) =
    asks_here p t c.args.state c.args.profile i c.profiles-count.result c.args.asks.now (omega (arith, count, c.requires.profile)) count (subst (λ m. i * m + c.args.profile < length c.args.asks.now) (sym count) (omega (arith, place.0, c.requires.one_each))) c.requires.each in
    let found : AreAsks p t c.args.state c.args.profile i (Some c.in-Some.found) = subst (AreAsks p t c.args.state c.args.profile i) c.in-Some.is here in
    let w : W c.stage_of.result ≡ c.stage_of.result = kept c.stage_of.result (2 ^ 60) c.stage_of.ensures.small (lit< tt) in
    let few : i < 3 = omega (arith, c.players-i-end.ensures, c.loop-i-test.true, c.game.ensures.is_problem.game.three_players) in
    let in_sides : i < length c.loop-i.sides = omega (arith, few, c.loop-i.invariant.three_sides) in
    let in_stages : i < length c.loop-i.stage = omega (arith, few, c.loop-i.invariant.three_stages) in
    record {
      three_sides = length-set c.loop-i.sides i c.side_by.result ∙ c.loop-i.invariant.three_sides;
      three_stages = length-set c.loop-i.stage i (W c.stage_of.result) ∙ c.loop-i.invariant.three_stages;
      sides = λ j below. elim (cases_eq j i) [
        | inl same ↦ subst (λ m. IsSide p t c.args.state c.args.profile m (slice_index_or (slice_set c.loop-i.sides i c.side_by.result) m no_side)) (sym same)
            (rw (get_or-set_same c.loop-i.sides i c.side_by.result no_side in_sides) c.side_by.ensures)
        | inr other ↦ rw (get_or-set_other c.loop-i.sides i j c.side_by.result no_side other) (c.loop-i.invariant.sides j (omega (arith, below)))
      ];
      next = λ some. next_by_line p t c.args.state c.args.profile i ok c.requires.state c.requires.profile inside found.0.known;
      known = below_more _ _ c.loop-i.invariant.known (reach_by_line p t c.args.state c.args.profile i found.0.known);
      stage = λ j below. elim (cases_eq j i) [
        | inl same ↦ subst (λ m. slice_index_or (slice_set c.loop-i.stage i (W c.stage_of.result)) m (pos 0) ≡ pos (stage_scale p m) *ℤ payoff_at p.game c.args.state c.args.profile m) (sym same)
            (get_or-set_same c.loop-i.stage i (W c.stage_of.result) (pos 0) in_stages ∙ w ∙ c.stage_of.ensures.stage)
        | inr other ↦ get_or-set_other c.loop-i.stage i j (W c.stage_of.result) (pos 0) other ∙ c.loop-i.invariant.stage j (omega (arith, below))
      ];
      small = λ j. elim (cases_eq j i) [
        | inl same ↦ subst (λ m. unsigned_abs (slice_index_or (slice_set c.loop-i.stage i (W c.stage_of.result)) m (pos 0)) ≤ 2 ^ 60) (sym same)
            (rw (get_or-set_same c.loop-i.stage i (W c.stage_of.result) (pos 0) in_stages, w) c.stage_of.ensures.small)
        | inr other ↦ rw (get_or-set_other c.loop-i.stage i j (W c.stage_of.result) (pos 0) other) (c.loop-i.invariant.small j)
      ];
    }

pub overflow_mul-i : goal.overflow_mul-i
overflow_mul-i c =
    let p = c.args.p.now in
    let t = levels_in c.args.levels.now in
    let i : ℕ = c.loop-i.i in
    let n : ℕ = profile_count (counts p.game c.args.state) in
    let count : c.profiles-count.result ≡ n = c.profiles-count.ensures ∙ ap (λ g. profile_count (counts g c.args.state)) c.game-2.ensures.game in
    let inside : i < p.game.players = omega (arith, c.players-i-end.ensures, c.loop-i-test.true) in
    let ok = c.game.ensures.is_problem in
    let place = place_inside i p.game.players n c.args.profile inside c.requires.profile ok.game.three_players (few_profiles p.game ok.game c.args.state c.requires.state) in
    let e : i * c.profiles-count.result ≡ i * n = ap (λ m. i * m) count in
    omega (arith, e, place.0, place.1)

pub overflow_add-i : goal.overflow_add-i
overflow_add-i c =
    let p = c.args.p.now in
    let t = levels_in c.args.levels.now in
    let i : ℕ = c.loop-i.i in
    let n : ℕ = profile_count (counts p.game c.args.state) in
    let count : c.profiles-count.result ≡ n = c.profiles-count.ensures ∙ ap (λ g. profile_count (counts g c.args.state)) c.game-2.ensures.game in
    let inside : i < p.game.players = omega (arith, c.players-i-end.ensures, c.loop-i-test.true) in
    let ok = c.game.ensures.is_problem in
    let place = place_inside i p.game.players n c.args.profile inside c.requires.profile ok.game.three_players (few_profiles p.game ok.game c.args.state c.requires.state) in
    let e : i * c.profiles-count.result ≡ i * n = ap (λ m. i * m) count in
    omega (arith, e, place.0, place.1)

pub returns-in_default : goal.returns-in_default
returns-in_default c =
    let p = c.args.p.now in
    let t = levels_in c.args.levels.now in
    let i : ℕ = c.loop-i.i in
    let n : ℕ = profile_count (counts p.game c.args.state) in
    let count : c.profiles-count.result ≡ n = c.profiles-count.ensures ∙ ap (λ g. profile_count (counts g c.args.state)) c.game-2.ensures.game in
    let inside : i < p.game.players = omega (arith, c.players-i-end.ensures, c.loop-i-test.true) in
    let ok = c.game.ensures.is_problem in
    let place = place_inside i p.game.players n c.args.profile inside c.requires.profile ok.game.three_players (few_profiles p.game ok.game c.args.state c.requires.state) in
    let here : AreAsks p t c.args.state c.args.profile i (slice_index_or c.args.asks.now (i * c.profiles-count.result + c.args.profile) None) =
    asks_here p t c.args.state c.args.profile i c.profiles-count.result c.args.asks.now (omega (arith, count, c.requires.profile)) count (subst (λ m. i * m + c.args.profile < length c.args.asks.now) (sym count) (omega (arith, place.0, c.requires.one_each))) c.requires.each in
    let none : AreAsks p t c.args.state c.args.profile i None = subst (AreAsks p t c.args.state c.args.profile i) c.in_default.is here in
    λ known. none (line_known p t c.args.state c.args.profile i ok c.requires.state c.requires.profile inside known)

pub side_by-requires-clause-known : goal.side_by-requires-clause-known
side_by-requires-clause-known c =
    let p = c.args.p.now in
    let t = levels_in c.args.levels.now in
    let i : ℕ = c.loop-i.i in
    let n : ℕ = profile_count (counts p.game c.args.state) in
    let count : c.profiles-count.result ≡ n = c.profiles-count.ensures ∙ ap (λ g. profile_count (counts g c.args.state)) c.game-2.ensures.game in
    let inside : i < p.game.players = omega (arith, c.players-i-end.ensures, c.loop-i-test.true) in
    let ok = c.game.ensures.is_problem in
    let place = place_inside i p.game.players n c.args.profile inside c.requires.profile ok.game.three_players (few_profiles p.game ok.game c.args.state c.requires.state) in
    let here : AreAsks p t c.args.state c.args.profile i (slice_index_or c.args.asks.now (i * c.profiles-count.result + c.args.profile) None) =
    asks_here p t c.args.state c.args.profile i c.profiles-count.result c.args.asks.now (omega (arith, count, c.requires.profile)) count (subst (λ m. i * m + c.args.profile < length c.args.asks.now) (sym count) (omega (arith, place.0, c.requires.one_each))) c.requires.each in
    let found : AreAsks p t c.args.state c.args.profile i (Some c.in-Some.found) = subst (AreAsks p t c.args.state c.args.profile i) c.in-Some.is here in
    let next : c.next-next.result ≡ successor p.game c.args.state c.args.profile = c.next-next.ensures ∙ ap (λ g. successor g c.args.state c.args.profile) c.game.ensures.game in
    subst (IsKnown p t) (sym next) (next_by_line p t c.args.state c.args.profile i ok c.requires.state c.requires.profile inside found.0.known)

pub side_by-requires-clause-line : goal.side_by-requires-clause-line
side_by-requires-clause-line c =
    let p = c.args.p.now in
    let t = levels_in c.args.levels.now in
    let i : ℕ = c.loop-i.i in
    let n : ℕ = profile_count (counts p.game c.args.state) in
    let count : c.profiles-count.result ≡ n = c.profiles-count.ensures ∙ ap (λ g. profile_count (counts g c.args.state)) c.game-2.ensures.game in
    let inside : i < p.game.players = omega (arith, c.players-i-end.ensures, c.loop-i-test.true) in
    let ok = c.game.ensures.is_problem in
    let place = place_inside i p.game.players n c.args.profile inside c.requires.profile ok.game.three_players (few_profiles p.game ok.game c.args.state c.requires.state) in
    let here : AreAsks p t c.args.state c.args.profile i (slice_index_or c.args.asks.now (i * c.profiles-count.result + c.args.profile) None) =
    asks_here p t c.args.state c.args.profile i c.profiles-count.result c.args.asks.now (omega (arith, count, c.requires.profile)) count (subst (λ m. i * m + c.args.profile < length c.args.asks.now) (sym count) (omega (arith, place.0, c.requires.one_each))) c.requires.each in
    let found : AreAsks p t c.args.state c.args.profile i (Some c.in-Some.found) = subst (AreAsks p t c.args.state c.args.profile i) c.in-Some.is here in
    found.0

pub side_by-requires-clause-own : goal.side_by-requires-clause-own
side_by-requires-clause-own c =
    let p = c.args.p.now in
    let t = levels_in c.args.levels.now in
    let i : ℕ = c.loop-i.i in
    let n : ℕ = profile_count (counts p.game c.args.state) in
    let count : c.profiles-count.result ≡ n = c.profiles-count.ensures ∙ ap (λ g. profile_count (counts g c.args.state)) c.game-2.ensures.game in
    let inside : i < p.game.players = omega (arith, c.players-i-end.ensures, c.loop-i-test.true) in
    let ok = c.game.ensures.is_problem in
    let place = place_inside i p.game.players n c.args.profile inside c.requires.profile ok.game.three_players (few_profiles p.game ok.game c.args.state c.requires.state) in
    let here : AreAsks p t c.args.state c.args.profile i (slice_index_or c.args.asks.now (i * c.profiles-count.result + c.args.profile) None) =
    asks_here p t c.args.state c.args.profile i c.profiles-count.result c.args.asks.now (omega (arith, count, c.requires.profile)) count (subst (λ m. i * m + c.args.profile < length c.args.asks.now) (sym count) (omega (arith, place.0, c.requires.one_each))) c.requires.each in
    let found : AreAsks p t c.args.state c.args.profile i (Some c.in-Some.found) = subst (AreAsks p t c.args.state c.args.profile i) c.in-Some.is here in
    found.1
