-- The deviations of a player are a step of one stride apart, and their gains fit 64 bits.
use Rattle.std.proofs.Common.{◌≡◌, ℕ, ◌+◌, ◌-◌, ◌*◌, ◌/◌, ◌^◌, ◌<◌, ◌≤◌, take, arith, ℤ, pos, ◌-ℤ◌}
use Rattle.std.specs.Prelude.{slice_index}
use Rattle.std.specs.Int.RustNames.{unsigned_abs}
use Rattle.std.proofs.Math.Nat.{div-le_self, mul-le-mul}
use Rattle.std.proofs.Math.Pow.{pow_mono}
use Rattle.game_model.specs.Game.{DynamicGame, IsGame, IsState, IsDeviation, states, counts, profile_count, payoff_at, strategy_at, deviation_at}
use Rattle.game_model.proofs.Profiles.{Moves, moves, moved}
use Rattle.level_table.specs.Problem.{Problem, discount_at, fineness, IsProblem}
use Rattle.level_table.specs.Tables.{HasSmallOpening}
use Rattle.level_table.proofs.Sizes.{base_small, payoff_small}
use Rattle.bound_laws.proofs.Places.{each_positive, deviation_known}
use Rattle.set_operator.specs.Asked.{gain_unit}
use Rattle.set_operator.proofs.Openings.{payoff_scaled}
use Rattle.set_operator.proofs.Scales.{IsGap, fewer_times, scaled_difference}

pub moves_of : (g : DynamicGame) (s a i b : ℕ) → IsGame g → s < states g → a < profile_count (counts g s) → i < g.players → b < slice_index (counts g s) i → Moves (counts g s) a i b
moves_of g s a i b ok state profile player strategy =
    let st : IsState g s = ok.each_state s state in
    moves (counts g s) a i b (each_positive g s ok state) profile (omega (arith, st.one_each, player)) strategy

pub steps_of : (g : DynamicGame) (s a i b own stride : ℕ) → IsGame g → s < states g → a < profile_count (counts g s) → i < g.players → b < slice_index (counts g s) i
    → own ≡ strategy_at g s a i → stride ≡ profile_count (take i (counts g s)) → (own * stride ≤ a) × (a - own * stride + b * stride ≡ deviation_at g s a i b)
steps_of g s a i b own stride ok state profile player strategy own_is stride_is =
    moved (counts g s) a i b own stride (moves_of g s a i b ok state profile player strategy) own_is stride_is

gap_of : (p : Problem) (s a i b : ℕ) (w : ℤ) → IsProblem p → HasSmallOpening p → s < states p.game → a < profile_count (counts p.game s) → IsDeviation p.game s a i b → unsigned_abs w ≤ 2 ^ 50
    → IsGap (pos (p.game.q - discount_at p i)) (pos (gain_unit p i)) (payoff_at p.game s (deviation_at p.game s a i b) i) (payoff_at p.game s a i) w
gap_of p s a i b w ok opening state profile d small =
    let known = deviation_known p.game s a i b ok.game state profile d in
    let base : p.game.base ≤ 2 ^ 30 = base_small p.game ok.game in
    let fine : fineness p ≤ 2 ^ 30 = pow_mono ok.grid in
    let quotient : p.game.base / discount_at p i ≤ p.game.base = div-le_self p.game.base (discount_at p i) in
    let factor : p.game.base / discount_at p i ≤ 2 ^ 30 = omega (arith, base, quotient) in
    let few : gain_unit p i ≤ p.game.base * fineness p = mul-le-mul quotient (omega arith) in
    record {
      k_small = omega (arith, ok.game.q_small);
      f_small = mul-le-mul factor fine;
      x_small = payoff_small p.game s (deviation_at p.game s a i b) i ok.game state known d.player;
      y_small = payoff_small p.game s a i ok.game state profile d.player;
      w_small = small;
      product_small = fewer_times (gain_unit p i) (p.game.base * fineness p) (2 ^ 51) (payoff_at p.game s (deviation_at p.game s a i b) i -ℤ payoff_at p.game s a i) few
          (scaled_difference (pos (p.game.base * fineness p)) (payoff_at p.game s (deviation_at p.game s a i b) i) (payoff_at p.game s a i)
          (payoff_scaled p s (deviation_at p.game s a i b) i ok opening state known d.player) (payoff_scaled p s a i ok opening state profile d.player));
    }

-- the numbers that the code has
pub gap_by : (p : Problem) (s a i b : ℕ) (k f x y w : ℤ) → IsProblem p → HasSmallOpening p → s < states p.game → a < profile_count (counts p.game s) → IsDeviation p.game s a i b
    → k ≡ pos (p.game.q - discount_at p i) → f ≡ pos (gain_unit p i) → x ≡ payoff_at p.game s (deviation_at p.game s a i b) i → y ≡ payoff_at p.game s a i → unsigned_abs w ≤ 2 ^ 50 → IsGap k f x y w
gap_by p s a i b k f x y w ok opening state profile d ek ef ex ey small = rw (ek, ef, ex, ey) (gap_of p s a i b w ok opening state profile d small)
