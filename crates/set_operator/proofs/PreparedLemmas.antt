-- What is ready under a table stays ready where the levels of the axes stay, and the lesser of a level and a row level.
use Rattle.std.proofs.Common.{◌≡◌, ℕ, ◌<◌, [], ◌∷◌, sym, ◌∙◌, ap, arith, ⊎_elim, refl}
use Rattle.std.specs.Prelude.{ℤ, pos, ◌-ℤ◌, ◌*ℤ◌, ◌≤ℤ◌, ◌<ℤ◌, Option, Some, None, slice_index_or}
use Rattle.std.specs.Int.{int_min}
use Rattle.std.proofs.lemmas.Int.{ints, clamps}
use Rattle.exact_algebra.specs.Poly.{var, lit, ◌⊖◌, ◌⊗◌}
use Rattle.exact_algebra.proofs.Normal.{ring}
use Rattle.exact_algebra.proofs.Order.{below_at_most_trans, below_from_times, product_above_zero}
use Rattle.game_model.specs.Game.{states, counts, profile_count, successor, reached, IsDeviation}
use Rattle.level_table.specs.declared.level.Level.TheVariants.{At}
use Rattle.level_table.specs.Problem.{Problem, IsProblem, plus_axis, minus_axis}
use Rattle.level_table.specs.Levels.{Levels}
use Rattle.level_table.specs.Operator.{HasAdmissible, IsRowLevel, value, value_unit}
use Rattle.level_table.specs.Reasons.{AreKnown, IsGainRow, IsKnown}
use Rattle.level_table.proofs.Numbers.{number_at}
use Rattle.bound_laws.proofs.Operator.{row_level_is_unique}
use Rattle.bound_laws.proofs.Places.{minus_axis_known, next_state, plus_axis_known, reached_state, q_positive}
use Rattle.set_operator.specs.declared.best.Best.{Best}
use Rattle.set_operator.specs.declared.boxes.ProfileBox.{ProfileBox}
use Rattle.set_operator.specs.Boxes.{IsBoxOf, IsSource, point_of, side_at}
use Rattle.set_operator.specs.Prepared.{IsBoxAt, IsPrepared, KeepsAxes, PreparedState}
use Rattle.set_operator.specs.Search.{IsCeilingOf, IsLargestBelow, IsLeader}
use Rattle.set_operator.proofs.SearchLemmas.{row_level_of}

-- ---- ready under another table
known_kept : (p : Problem) (t u : Levels) (s : ℕ) → KeepsAxes p t u → s < states p.game → IsKnown p t s → IsKnown p u s
known_kept p t u s keeps state h k dir = (keeps s k (record { state = state; direction = dir })).1.0 (h k dir)

known_back : (p : Problem) (t u : Levels) (s : ℕ) → KeepsAxes p t u → s < states p.game → IsKnown p u s → IsKnown p t s
known_back p t u s keeps state h k dir = (keeps s k (record { state = state; direction = dir })).1.1 (h k dir)

all_known_kept : (p : Problem) (t u : Levels) (s a : ℕ) → IsProblem p → KeepsAxes p t u → s < states p.game → a < profile_count (counts p.game s) → AreKnown p t s a → AreKnown p u s a
all_known_kept p t u s a ok keeps state profile h = record {
  next = known_kept p t u (successor p.game s a) keeps (next_state p.game s a ok.game state profile) h.next;
  reached_states = λ i b deviation. known_kept p t u (reached p.game s a i b) keeps (reached_state p.game s a i b ok.game state profile deviation) (h.reached_states i b deviation);
}

all_known_back : (p : Problem) (t u : Levels) (s a : ℕ) → IsProblem p → KeepsAxes p t u → s < states p.game → a < profile_count (counts p.game s) → AreKnown p u s a → AreKnown p t s a
all_known_back p t u s a ok keeps state profile h = record {
  next = known_back p t u (successor p.game s a) keeps (next_state p.game s a ok.game state profile) h.next;
  reached_states = λ i b deviation. known_back p t u (reached p.game s a i b) keeps (reached_state p.game s a i b ok.game state profile deviation) (h.reached_states i b deviation);
}

minus_kept : (p : Problem) (t u : Levels) (s i : ℕ) → IsProblem p → KeepsAxes p t u → s < states p.game → i < p.game.players → u s (minus_axis i) ≡ t s (minus_axis i)
minus_kept p t u s i ok keeps state player = (keeps s (minus_axis i) (record { state = state; direction = minus_axis_known p i ok player })).0 (omega arith)

plus_kept : (p : Problem) (t u : Levels) (s i : ℕ) → IsProblem p → KeepsAxes p t u → s < states p.game → i < p.game.players → u s (plus_axis i) ≡ t s (plus_axis i)
plus_kept p t u s i ok keeps state player = (keeps s (plus_axis i) (record { state = state; direction = plus_axis_known p i ok player })).0 (omega arith)

-- a level of a state that a deviation reaches
reached_back : (p : Problem) (t u : Levels) (s a i b : ℕ) (x : ℤ) → IsProblem p → KeepsAxes p t u → s < states p.game → a < profile_count (counts p.game s) → IsDeviation p.game s a i b
    → u (reached p.game s a i b) (minus_axis i) ≡ At x → t (reached p.game s a i b) (minus_axis i) ≡ At x
reached_back p t u s a i b x ok keeps state profile deviation e =
    sym (minus_kept p t u (reached p.game s a i b) i ok keeps (reached_state p.game s a i b ok.game state profile deviation) deviation.player) ∙ e

gain_row_kept : (p : Problem) (t u : Levels) (s a i b : ℕ) (x : ℤ) → IsProblem p → KeepsAxes p t u → s < states p.game → a < profile_count (counts p.game s) → IsGainRow p t s a i b x → IsGainRow p u s a i b x
gain_row_kept p t u s a i b x ok keeps state profile h = record {
  deviation = h.deviation;
  kept = minus_kept p t u (reached p.game s a i b) i ok keeps (reached_state p.game s a i b ok.game state profile h.deviation) h.deviation.player ∙ h.kept;
  most = λ c y deviation e. h.most c y deviation (reached_back p t u s a i c y ok keeps state profile deviation e);
  first = λ c y before deviation e. h.first c y before deviation (reached_back p t u s a i c y ok keeps state profile deviation e);
}

source_kept : (p : Problem) (t u : Levels) (s a i : ℕ) (lower : ℤ) (by : Option ℕ) → IsProblem p → KeepsAxes p t u → s < states p.game → a < profile_count (counts p.game s) → i < p.game.players
    → IsSource p t s a i lower by → IsSource p u s a i lower by
source_kept p t u s a i lower None ok keeps state profile player h = (
  minus_kept p t u (successor p.game s a) i ok keeps (next_state p.game s a ok.game state profile) player ∙ h.0,
  λ b x deviation e. h.1 b x deviation (reached_back p t u s a i b x ok keeps state profile deviation e),
)
source_kept p t u s a i lower (Some b) ok keeps state profile player h = (
  h.0,
  gain_row_kept p t u s a i b h.0 ok keeps state profile h.1,
  h.2,
  λ w e. h.3 w (sym (minus_kept p t u (successor p.game s a) i ok keeps (next_state p.game s a ok.game state profile) player) ∙ e),
)

box_kept : (p : Problem) (t u : Levels) (b : ProfileBox) → IsProblem p → KeepsAxes p t u → IsBoxOf p t b → IsBoxOf p u b
box_kept p t u b ok keeps h = record {
  state = h.state;
  profile = h.profile;
  known = all_known_kept p t u b.state b.profile ok keeps h.state h.profile h.known;
  next = h.next;
  sides = λ i player. record {
    upper = plus_kept p t u (successor p.game b.state b.profile) i ok keeps (next_state p.game b.state b.profile ok.game h.state h.profile) player ∙ (h.sides i player).upper;
    source = source_kept p t u b.state b.profile i (side_at b i).lower (side_at b i).by ok keeps h.state h.profile player (h.sides i player).source;
    upper_small = (h.sides i player).upper_small;
    lower_small = (h.sides i player).lower_small;
  };
  stage = h.stage;
  stage_small = h.stage_small;
}

box_at_kept : (p : Problem) (t u : Levels) (s a : ℕ) (o : Option ProfileBox) → IsProblem p → KeepsAxes p t u → s < states p.game → a < profile_count (counts p.game s) → IsBoxAt p t s a o → IsBoxAt p u s a o
box_at_kept p t u s a None ok keeps state profile h = λ known. h (all_known_back p t u s a ok keeps state profile known)
box_at_kept p t u s a (Some b) ok keeps state profile h = (h.0, h.1, box_kept p t u b ok keeps h.2)

pub prepared_kept : (p : Problem) (t u : Levels) (q : PreparedState) → IsProblem p → KeepsAxes p t u → IsPrepared p t q → IsPrepared p u q
prepared_kept p t u q ok keeps h = record {
  state = h.state;
  flags = λ s state. (
    λ flag. known_kept p t u s keeps state ((h.flags s state).0 flag),
    λ known. (h.flags s state).1 (known_back p t u s keeps state known),
  );
  one_each = h.one_each;
  boxes = λ a below. box_at_kept p t u q.state a (slice_index_or q.boxes a None) ok keeps h.state (omega (arith, h.one_each)) (h.boxes a below);
}

-- ---- the lesser of a level and a row level
-- a level whose multiple a value reaches
reached_level : (x m v unit : ℤ) → pos 0 <ℤ unit → ((x -ℤ pos 1) *ℤ unit) <ℤ v → v ≤ℤ (m *ℤ unit) → x ≤ℤ m
reached_level x m v unit positive above below =
    let l : (x -ℤ pos 1) *ℤ unit ≡ unit *ℤ (x -ℤ pos 1) = ring (x ∷ unit ∷ []) ((var 0 ⊖ lit (pos 1)) ⊗ var 1) (var 1 ⊗ (var 0 ⊖ lit (pos 1))) refl in
    let r : m *ℤ unit ≡ unit *ℤ m = ring (m ∷ unit ∷ []) (var 0 ⊗ var 1) (var 1 ⊗ var 0) refl in
    let h : (unit *ℤ (x -ℤ pos 1)) <ℤ (unit *ℤ m) = rw (← l, ← r) (below_at_most_trans ((x -ℤ pos 1) *ℤ unit) v (m *ℤ unit) above below) in
    let less : (x -ℤ pos 1) <ℤ m = below_from_times unit (x -ℤ pos 1) m (omega (arith, ints)) h in
    omega (arith, ints)

lower_min : (x c m : ℤ) → x ≤ℤ c → x ≤ℤ m → int_min x c ≡ int_min x m
lower_min x c m h k = omega (arith, ints, clamps)

pub lesser_level : (p : Problem) (t : Levels) (s k : ℕ) (x c : ℤ) (best : Best) → IsProblem p → s < states p.game → IsLeader p t s k x best → IsCeilingOf p best c
    → (m : ℤ) → IsRowLevel p t s k (At m) → int_min x c ≡ int_min x m
lesser_level p t s k x c best ok state leader ceiling m level =
    ⊎_elim
    (λ (h : IsLargestBelow p t s k (profile_count (counts p.game s)) best).
    ap (λ z. int_min x z) (number_at c m (row_level_is_unique p t s k (At c) (At m) ok state (row_level_of p t s k best c h.best_of h.known h.largest ceiling) level)))
    (λ (h : ((x -ℤ pos 1) *ℤ (pos p.game.q *ℤ best.point.den)) <ℤ best.value).
    let positive : pos 0 <ℤ (pos p.game.q *ℤ best.point.den) = product_above_zero (pos p.game.q) best.point.den (positive_q (q_positive p.game ok.game)) leader.best_of.small.positive in
    let above : value p s best.profile k (point_of best.point) ≤ℤ (m *ℤ value_unit p (point_of best.point)) = level.0 best.profile (point_of best.point) leader.known leader.best_of.admissible in
    lower_min x c m
    (reached_level x c best.value (pos p.game.q *ℤ best.point.den) positive h ceiling.reaches)
    (reached_level x m best.value (pos p.game.q *ℤ best.point.den) positive h (rw leader.best_of.here at above)))
    leader.leads
  where
    positive_q : 0 < p.game.q → pos 0 <ℤ pos p.game.q
    positive_q h = omega (arith, ints)

pub leader_admits : (p : Problem) (t : Levels) (s k : ℕ) (x : ℤ) (best : Best) → IsLeader p t s k x best → HasAdmissible p t s
leader_admits p t s k x best h = record { profile = best.profile; vector = point_of best.point; known = h.known; admissible = h.best_of.admissible }
