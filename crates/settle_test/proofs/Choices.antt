-- What a table leaves no choice of: the profile of a support, and the strategy of a gain row.
use Rattle.std.proofs.Common.{◌≡◌, ⊎_elim, ℕ, ◌<◌, ◌≤◌, arith, ℤ, ◌≤ℤ◌, ◌<ℤ◌}
use Rattle.std.proofs.lemmas.Bool.{cases_lt}
use Rattle.std.proofs.lemmas.Int.{ints}
use Rattle.level_table.specs.Problem.{Problem}
use Rattle.level_table.specs.Levels.{Levels}
use Rattle.level_table.specs.Operator.{Fractions, IsFirstLargest}
use Rattle.level_table.specs.Reasons.{IsGainRow}

at_most_not_below : (x y : ℤ) → x ≤ℤ y → y <ℤ x → ⊥
at_most_not_below x y h k = omega (arith, ints, h, k)

-- the first profile that has the largest value
pub one_profile : (p : Problem) (t : Levels) (s k a b : ℕ) (y z : Fractions) → IsFirstLargest p t s k a y → IsFirstLargest p t s k b z → a ≡ b
one_profile p t s k a b y z g h =
    ⊎_elim
    (λ (l : a < b). absurd (at_most_not_below _ _ (g.largest b z h.known h.admissible) (h.first a y l g.admissible)))
    (λ (m : b ≤ a). ⊎_elim
    (λ (l : b < a). absurd (at_most_not_below _ _ (h.largest a y g.known g.admissible) (g.first b z l h.admissible)))
    (λ (n : a ≤ b). omega arith)
    (cases_lt b a))
    (cases_lt a b)

-- the first strategy that asks the most
pub one_strategy : (p : Problem) (t : Levels) (s a i b c : ℕ) (x y : ℤ) → IsGainRow p t s a i b x → IsGainRow p t s a i c y → b ≡ c
one_strategy p t s a i b c x y g h =
    ⊎_elim
    (λ (l : b < c). absurd (at_most_not_below _ _ (g.most c y h.deviation h.kept) (h.first b x l g.deviation g.kept)))
    (λ (m : c ≤ b). ⊎_elim
    (λ (l : c < b). absurd (at_most_not_below _ _ (h.most b x g.deviation g.kept) (g.first c y l h.deviation h.kept)))
    (λ (n : b ≤ c). omega arith)
    (cases_lt c b))
    (cases_lt b c)
