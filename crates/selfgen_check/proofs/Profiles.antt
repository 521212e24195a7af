-- Profiles: their numbers, step by step, and the strategies that they have.
use Rattle.std.proofs.Common.{◌≡◌, ℕ, ◌+◌, ◌*◌, ◌<◌, ◌≤◌, List, length, get_or, take, drop, refl, ap, arith, add-one}
use Rattle.std.proofs.Math.Seq.{drop-cons, take-suc}
use Rattle.game_model.specs.Game.{DynamicGame, IsGame, IsProfile, states, counts, profile_count, profile_number, strategy_at, successor}
use Rattle.game_model.specs.SelfGeneration.{Entry, profile_of}
use Rattle.game_model.proofs.Profiles.{strategies_of-profile_number, profile_number_below, profile_count-push}
use Rattle.game_model.proofs.Lists.{few_profiles, profile_count_take_small}

pub one_each : (g : DynamicGame) (s : ℕ) → IsGame g → s < states g → length (counts g s) ≡ g.players
one_each g s ok state = (ok.each_state s state).one_each

-- the state that follows a profile is one
pub next_known : (g : DynamicGame) (s : ℕ) (e : Entry) → IsGame g → s < states g → IsProfile (counts g s) e.profile → successor g s (profile_of g s e) < states g
next_known g s e ok state fits = (ok.each_state s state).next_known (profile_of g s e) (profile_number_below (counts g s) e.profile fits)

-- one player on in the number of a profile
pub number_step : (ms xs : List ℕ) (i number step : ℕ) → i < length ms → i < length xs →
    number + step * profile_number (drop i ms) (drop i xs) ≡ profile_number ms xs →
    (number + get_or xs i 0 * step) + (step * get_or ms i 0) * profile_number (drop (i + 1) ms) (drop (i + 1) xs) ≡ profile_number ms xs
number_step ms xs i number step h k e =
    let d : profile_number (drop i ms) (drop i xs) ≡ get_or xs i 0 + get_or ms i 0 * profile_number (drop (i + 1) ms) (drop (i + 1) xs) = rw (drop-cons ms i 0, drop-cons xs i 0, add-one) refl in
    let f : step * profile_number (drop i ms) (drop i xs) ≡ step * (get_or xs i 0 + get_or ms i 0 * profile_number (drop (i + 1) ms) (drop (i + 1) xs)) = ap (λ n. step * n) d in
    omega arith

pub count_step : (ms : List ℕ) (i : ℕ) → i < length ms → profile_count (take (i + 1) ms) ≡ profile_count (take i ms) * get_or ms i 0
count_step ms i h = rw (add-one, take-suc ms i 0) (profile_count-push (take i ms) (get_or ms i 0))

-- all numbers on the way are small
pub record IsSmallStep (ms xs : List ℕ) (i number step : ℕ) : Type 0 where
  pub moved : get_or xs i 0 * step ≤ 4096
  pub reached : number + get_or xs i 0 * step ≤ 4096
  pub next : step * get_or ms i 0 ≤ 4096

pub small_step : (g : DynamicGame) (s : ℕ) (xs : List ℕ) (i number step : ℕ) → IsGame g → s < states g → IsProfile (counts g s) xs → i < g.players →
    number + step * profile_number (drop i (counts g s)) (drop i xs) ≡ profile_number (counts g s) xs → step ≡ profile_count (take i (counts g s)) →
    IsSmallStep (counts g s) xs i number step
small_step g s xs i number step ok state fits player e f =
    let ms : List ℕ = counts g s in
    let n : length ms ≡ g.players = one_each g s ok state in
    let all : (number + get_or xs i 0 * step) + (step * get_or ms i 0) * profile_number (drop (i + 1) ms) (drop (i + 1) xs) ≡ profile_number ms xs =
    number_step ms xs i number step (omega arith) (omega (arith, fits.0)) e in
    let below : profile_number ms xs < profile_count ms = profile_number_below ms xs fits in
    let few : profile_count ms ≤ 4096 = few_profiles g ok s state in
    let c : profile_count (take (i + 1) ms) ≡ profile_count (take i ms) * get_or ms i 0 = count_step ms i (omega arith) in
    let d : profile_count (take (i + 1) ms) ≤ 4096 = profile_count_take_small (i + 1) ms (omega (arith, ok.three_players)) (λ j h. (ok.each_state s state).few_strategies j (omega arith)) in
    record {
      moved = omega arith;
      reached = omega arith;
      next = rw f (omega arith);
    }

-- a profile plays what its list says
pub plays : (g : DynamicGame) (s : ℕ) (e : Entry) (i : ℕ) → IsProfile (counts g s) e.profile → strategy_at g s (profile_of g s e) i ≡ get_or e.profile i 0
plays g s e i ok = ap (λ xs. get_or xs i 0) (strategies_of-profile_number (counts g s) e.profile ok)

pub number_known : (g : DynamicGame) (s : ℕ) (e : Entry) → IsProfile (counts g s) e.profile → profile_of g s e < profile_count (counts g s)
number_known g s e ok = profile_number_below (counts g s) e.profile ok
