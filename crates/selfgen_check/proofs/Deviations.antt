-- Deviations: how many there are, and their places in the list of punishments.
use Rattle.std.proofs.Common.{◌≡◌, ◌≢◌, ℕ, zero, suc, ◌+◌, ◌-◌, ◌<◌, List, [], ◌∷◌, length, get_or, take, arith, add-one, nat_lt, if◌then◌else◌}
use Rattle.std.proofs.lemmas.Bool.Decides.{nat_tests}
use Rattle.game_model.specs.SelfGeneration.{deviation_count, deviation_place}

pub place_is : (ms xs : List ℕ) (i b : ℕ) → length xs ≡ length ms → i < length ms →
    deviation_place ms xs i b ≡ deviation_count (take i ms) + (if nat_lt b (get_or xs i 0) then b else (b - 1))
place_is [] xs i b e h = absurd (omega arith)
place_is (m ∷ ms) [] i b e h = absurd (omega arith)
place_is (m ∷ ms) (x ∷ xs) zero b e h = omega arith
place_is (m ∷ ms) (x ∷ xs) (suc i) b e h = let k = place_is ms xs i b (omega arith) (omega arith) in omega (arith, k)

passed_below : (x b m n : ℕ) → x < m → b < m → b ≢ x → (if nat_lt b x then b else (b - 1)) < (m - 1) + n
passed_below x b m n h k ne = grind (arith, nat_tests)

pub place_below : (ms xs : List ℕ) (i b : ℕ) → length xs ≡ length ms → i < length ms → get_or xs i 0 < get_or ms i 0 → b < get_or ms i 0 → b ≢ get_or xs i 0 →
    deviation_place ms xs i b < deviation_count ms
place_below [] xs i b e h own fits ne = absurd (omega arith)
place_below (m ∷ ms) [] i b e h own fits ne = absurd (omega arith)
place_below (m ∷ ms) (x ∷ xs) zero b e h own fits ne = passed_below x b m (deviation_count ms) own fits ne
place_below (m ∷ ms) (x ∷ xs) (suc i) b e h own fits ne = omega (arith, place_below ms xs i b (omega arith) (omega arith) own fits ne)

count_suc : (ms : List ℕ) (i : ℕ) → i < length ms → deviation_count (take (suc i) ms) ≡ deviation_count (take i ms) + (get_or ms i 0 - 1)
count_suc [] i h = absurd (omega arith)
count_suc (m ∷ ms) zero h = omega arith
count_suc (m ∷ ms) (suc i) h = omega (arith, count_suc ms i (omega arith))

pub count_step : (ms : List ℕ) (i : ℕ) → i < length ms → deviation_count (take (i + 1) ms) ≡ deviation_count (take i ms) + (get_or ms i 0 - 1)
count_step ms i h = rw add-one (count_suc ms i h)
