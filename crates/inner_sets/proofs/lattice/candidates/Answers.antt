use Rattle.std.proofs.Common.{◌≡◌, ◌+◌, ◌≤◌, List, [], length, sym, subst, ◌∙◌, arith}
use Rattle.std.specs.Prelude.{ℤ, Contains}
use Rattle.std.specs.Cmp.Lexicographic.{pointwise}
use Rattle.std.specs.List.{dedup}
use Rattle.std.specs.Ordering.{int_eq}
use Rattle.std.proofs.lemmas.List.Filters.{dedup_is}
use Rattle.game_model.specs.Game.{counts, profile_count}
use Rattle.game_model.proofs.Lists.{few_profiles}
use Rattle.inner_sets.specs.Candidates.{IsLatticePoint, IsStagePoint, IsCandidate, IsAscending}
use Rattle.inner_sets.specs.Gains.{Adds}
use Rattle.inner_sets.proofs.Gains.{exactly, ascending, few}
use Rattle.inner_sets.proofs.lattice.candidates.Goals as goal

pub listed-requires : goal.listed-requires
listed-requires c =
    let stage : Adds (profile_count (counts c.args.game.now c.args.state)) (IsStagePoint c.args.game.now c.args.n c.args.state) [] c.push_stage_points.new.points.items =
    subst (λ (xs : List (List ℤ)). Adds (profile_count (counts c.args.game.now c.args.state)) (IsStagePoint c.args.game.now c.args.n c.args.state) xs c.push_stage_points.new.points.items) c.new-points.ensures.items (c.in_ok-push_stage_points.ensures {u = tt}) in
    let lattice : Adds 289 (IsLatticePoint c.args.game.now c.args.n) c.push_stage_points.new.points.items c.push_lattice.new.points.items = c.in_ok-push_lattice.ensures {u = tt} in
    let most : length c.push_lattice.new.points.items ≤ profile_count (counts c.args.game.now c.args.state) + 289 = few c.args.game.now c.args.n c.args.state c.push_stage_points.new.points.items c.push_lattice.new.points.items c.sort_unstable.new.self.items stage lattice c.sort_unstable.ensures.permutation in
    let few_left : length c.deref.result.now ≤ 65535 = omega (arith, c.deref.ensures.len, c.dedup.ensures.bound, c.sort_unstable.ensures.len, c.push_lattice.new.points.ok.0, most, few_profiles c.args.game.now c.players-players.ensures.is_game c.args.state c.requires.state) in
    few_left

pub returns : goal.returns
returns c =
    let stage : Adds (profile_count (counts c.args.game.now c.args.state)) (IsStagePoint c.args.game.now c.args.n c.args.state) [] c.push_stage_points.new.points.items =
    subst (λ (xs : List (List ℤ)). Adds (profile_count (counts c.args.game.now c.args.state)) (IsStagePoint c.args.game.now c.args.n c.args.state) xs c.push_stage_points.new.points.items) c.new-points.ensures.items (c.in_ok-push_stage_points.ensures {u = tt}) in
    let lattice : Adds 289 (IsLatticePoint c.args.game.now c.args.n) c.push_stage_points.new.points.items c.push_lattice.new.points.items = c.in_ok-push_lattice.ensures {u = tt} in
    let most : length c.push_lattice.new.points.items ≤ profile_count (counts c.args.game.now c.args.state) + 289 = few c.args.game.now c.args.n c.args.state c.push_stage_points.new.points.items c.push_lattice.new.points.items c.sort_unstable.new.self.items stage lattice c.sort_unstable.ensures.permutation in
    let few_left : length c.deref.result.now ≤ 65535 = omega (arith, c.deref.ensures.len, c.dedup.ensures.bound, c.sort_unstable.ensures.len, c.push_lattice.new.points.ok.0, most, few_profiles c.args.game.now c.players-players.ensures.is_game c.args.state c.requires.state) in
    let is : c.dedup.new.self.items ≡ dedup (pointwise int_eq) c.sort_unstable.new.self.items = dedup_is _ _ _ c.dedup.ensures.filtered in
    let same : c.in_ok-list.list ≡ dedup (pointwise int_eq) c.sort_unstable.new.self.items = c.in_ok-list.ensures {u = tt} ∙ (c.deref.ensures.value ∙ is) in
    record {
      ascending = subst (λ (xs : List (List ℤ)). IsAscending xs) (sym same) (ascending c.args.game.now c.args.n c.args.state c.push_stage_points.new.points.items c.push_lattice.new.points.items c.sort_unstable.new.self.items stage lattice c.sort_unstable.ensures.permutation c.sort_unstable.ensures.sorted);
      exactly = subst (λ (xs : List (List ℤ)). (v : List ℤ) → (Contains xs v → IsCandidate c.args.game.now c.args.n c.args.state v) × (IsCandidate c.args.game.now c.args.n c.args.state v → Contains xs v)) (sym same) (exactly c.args.game.now c.args.n c.args.state c.push_stage_points.new.points.items c.push_lattice.new.points.items c.sort_unstable.new.self.items stage lattice c.sort_unstable.ensures.permutation);
      few = subst (λ (xs : List (List ℤ)). length xs ≤ 65535) (sym (c.in_ok-list.ensures {u = tt})) few_left;
    }
