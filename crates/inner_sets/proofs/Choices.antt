-- What a profile gives under a choice it gives under each larger one, and the summaries of a choice tell it.
use Rattle.std.proofs.Common.{◌≡◌, ℕ, ◌<◌, List, [], length, map, sym, ap, subst, ◌∙◌, arith}
use Rattle.std.specs.Prelude.{ℤ, pos, ◌+ℤ◌, ◌*ℤ◌, ◌≤ℤ◌, Contains, slice_index}
use Rattle.std.proofs.lemmas.Int.{ints}
use Rattle.std.proofs.lemmas.List.{length-map, get_or_default}
use Rattle.std.proofs.lemmas.List.Elements.{Contains-get_or}
use Rattle.exact_algebra.proofs.Order.{times_at_most}
use Rattle.game_model.specs.Game.{DynamicGame, IsGame, states, counts, profile_count, successor, IsDeviation, deviation_at, reached}
use Rattle.game_model.specs.SelfGeneration.{part}
use Rattle.game_model.proofs.Profiles.{moves}
use Rattle.hull_weights.specs.Hull.{point_at, IsInHull}
use Rattle.inner_sets.specs.Choice.{sublist, discount, payoff_share, discounted, remainder, Deters, IsDeterred, Meets, IsWithin}
use Rattle.inner_sets.specs.Summaries.{PointSummary, summary_at, IsSummary, AreSummaries, DetersAt, Passes}
use Rattle.inner_sets.proofs.Hulls.{hull_within, map_places}

-- ---- places of a game
pub next_known : (g : DynamicGame) (s a : ℕ) → IsGame g → s < states g → a < profile_count (counts g s) → successor g s a < states g
next_known g s a ok state known = (ok.each_state s state).next_known a known

pub deviation_known : (g : DynamicGame) (s a i b : ℕ) → IsGame g → s < states g → a < profile_count (counts g s) → IsDeviation g s a i b → deviation_at g s a i b < profile_count (counts g s)
deviation_known g s a i b ok state known dev =
    let st = ok.each_state s state in
    let each : length (counts g s) ≡ g.players = st.one_each in
    (moves (counts g s) a i b (λ j h. st.some_strategy j (omega (arith, each))) known (omega (arith, each, dev.player)) dev.strategy).below

pub reached_known : (g : DynamicGame) (s a i b : ℕ) → IsGame g → s < states g → a < profile_count (counts g s) → IsDeviation g s a i b → reached g s a i b < states g
reached_known g s a i b ok state known dev = next_known g s (deviation_at g s a i b) ok state (deviation_known g s a i b ok state known dev)

-- ---- a larger choice
pub meets_within : (g : DynamicGame) (n : ℕ) (choice other : List (List (List ℤ))) (s a : ℕ) (v : List ℤ) → IsWithin choice other → Meets g n choice s a v → Meets g n other s a v
meets_within g n choice other s a v within m = record {
  continuation = hull_within (map (discounted g) (sublist choice (successor g s a))) (map (discounted g) (sublist other (successor g s a))) (remainder g n s a v)
      (map_places (discounted g) (sublist choice (successor g s a)) (sublist other (successor g s a)) (within (successor g s a))) m.continuation;
  deterred = λ i b dev. moved i b (m.deterred i b dev);
}
  where
    moved : (i b : ℕ) → IsDeterred g n choice s a v i b → IsDeterred g n other s a v i b
    moved i b (k, below, det) =
        let t = reached g s a i b in
        let w : List ℤ = point_at (sublist choice t) k in
        let there : Contains (sublist other t) w = within t w (Contains-get_or (sublist choice t) k [] below) in
        let det' : Deters g n s (deviation_at g s a i b) i v (part (point_at (sublist other t) there.0) i) = subst (λ (p : List ℤ). Deters g n s (deviation_at g s a i b) i v (part p i)) (sym (get_or_default (sublist other t) there.0 [] w there.1 ∙ there.2)) det in
        (there.0, there.1, det')

-- ---- a smaller part deters too
deters_less : (share p w u z : ℤ) → pos 0 ≤ℤ p → u ≤ℤ w → (share +ℤ p *ℤ w) ≤ℤ z → (share +ℤ p *ℤ u) ≤ℤ z
deters_less share p w u z least less h = let k : (p *ℤ u) ≤ℤ (p *ℤ w) = times_at_most p u w least less in omega (arith, ints)

not_negative : (n : ℕ) → pos 0 ≤ℤ pos n
not_negative n = omega (arith, ints)

module _ (g : DynamicGame) (n : ℕ) (choice : List (List (List ℤ))) (ys : List PointSummary) (ok : IsGame g) (two : g.players ≡ 2) (are : AreSummaries g choice ys) (s a : ℕ) (state : s < states g) (known : a < profile_count (counts g s)) (v : List ℤ) where
  next_points : (summary_at ys (successor g s a)).points ≡ map (discounted g) (sublist choice (successor g s a))
  next_points = (are.each (successor g s a) (next_known g s a ok state known)).same

  deterred_from : (i b : ℕ) → IsDeviation g s a i b → DetersAt g n ys s a v i b → IsDeterred g n choice s a v i b
  deterred_from i b dev (some, det) =
      let t = reached g s a i b in
      let y = summary_at ys t in
      let is : IsSummary g (sublist choice t) y = are.each t (reached_known g s a i b ok state known dev) in
      let long : length y.points ≡ length (sublist choice t) = ap length is.same ∙ length-map (sublist choice t) (discounted g) in
      let few : i < 2 = omega (arith, dev.player, two) in
      let any : 0 < length (sublist choice t) = omega (arith, some, long) in
      (slice_index y.first i, (is.first i few any).known, subst (λ (z : ℤ). Deters g n s (deviation_at g s a i b) i v z) (is.least i few any) det)

  deterred_to : (i b : ℕ) → IsDeviation g s a i b → IsDeterred g n choice s a v i b → DetersAt g n ys s a v i b
  deterred_to i b dev (k, below, det) =
      let t = reached g s a i b in
      let y = summary_at ys t in
      let is : IsSummary g (sublist choice t) y = are.each t (reached_known g s a i b ok state known dev) in
      let long : length y.points ≡ length (sublist choice t) = ap length is.same ∙ length-map (sublist choice t) (discounted g) in
      let few : i < 2 = omega (arith, dev.player, two) in
      let any : 0 < length (sublist choice t) = omega (arith, below) in
      let least : part y.least i ≤ℤ part (point_at (sublist choice t) k) i = subst (λ (z : ℤ). z ≤ℤ part (point_at (sublist choice t) k) i) (sym (is.least i few any)) ((is.first i few any).least k below) in (
        omega (arith, any, long),
        deters_less (payoff_share g n s (deviation_at g s a i b) i) (pos (discount g i)) (part (point_at (sublist choice t) k) i) (part y.least i) (pos g.q *ℤ part v i) (not_negative (discount g i)) least det,
      )

  pub meets_from : Passes g n ys s a v → Meets g n choice s a v
  meets_from passes = record {
    continuation = subst (λ (xs : List (List ℤ)). IsInHull xs (remainder g n s a v)) next_points passes.continuation;
    deterred = λ i b dev. deterred_from i b dev (passes.deterred i b dev);
  }

  pub passes_from : Meets g n choice s a v → Passes g n ys s a v
  passes_from meets = record {
    continuation = subst (λ (xs : List (List ℤ)). IsInHull xs (remainder g n s a v)) (sym next_points) meets.continuation;
    deterred = λ i b dev. deterred_to i b dev (meets.deterred i b dev);
  }
