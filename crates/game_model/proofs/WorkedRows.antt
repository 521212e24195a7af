-- the two entries of the prisoner's dilemma, rule by rule
use Rattle.std.proofs.Common.{ℕ, length, zero, suc, ◌<◌, refl, arith, lit<}
use Rattle.std.proofs.lemmas.Int.{ints}
use Rattle.game_model.specs.Game.{IsDeviation}
use Rattle.game_model.specs.SelfGeneration.{Correspondence, entries_of, entry_at, IsGenerated, IsSelfGenerating}
use Rattle.game_model.specs.Worked.{prisoners, both, defection, cooperation, rewarded, promised_more, weightless, third_entry, one_punishment, third_strategy}
use Rattle.game_model.proofs.Cases.{below_one, below_two}

-- the deviations where both defect
from_defection : (p q : ℕ) (P : ℕ → ℕ → Type 0) → P 0 0 → P 1 0 → (i b : ℕ) → IsDeviation (prisoners p q) 0 3 i b → P i b
from_defection p q P x y zero zero d = x
from_defection p q P x y zero (suc zero) d = absurd (d.other refl)
from_defection p q P x y zero (suc (suc b)) d = absurd (omega (arith, d.strategy))
from_defection p q P x y (suc zero) zero d = y
from_defection p q P x y (suc zero) (suc zero) d = absurd (d.other refl)
from_defection p q P x y (suc zero) (suc (suc b)) d = absurd (omega (arith, d.strategy))
from_defection p q P x y (suc (suc i)) b d = absurd (omega (arith, d.player))

-- the deviations where both cooperate
from_cooperation : (p q : ℕ) (P : ℕ → ℕ → Type 0) → P 0 1 → P 1 1 → (i b : ℕ) → IsDeviation (prisoners p q) 0 0 i b → P i b
from_cooperation p q P x y zero zero d = absurd (d.other refl)
from_cooperation p q P x y zero (suc zero) d = x
from_cooperation p q P x y zero (suc (suc b)) d = absurd (omega (arith, d.strategy))
from_cooperation p q P x y (suc zero) zero d = absurd (d.other refl)
from_cooperation p q P x y (suc zero) (suc zero) d = y
from_cooperation p q P x y (suc zero) (suc (suc b)) d = absurd (omega (arith, d.strategy))
from_cooperation p q P x y (suc (suc i)) b d = absurd (omega (arith, d.player))

defection_generated : IsGenerated (prisoners 1 2) both 0 (defection 1)
defection_generated = record {
  profile = (refl, below_two _ (lit< tt) (lit< tt));
  parts = refl;
  lottery = below_one _ (lit< tt);
  weights = lit< tt;
  punished = refl;
  punishments = from_defection 1 2 _ (lit< tt) (lit< tt);
  value = below_two _ refl refl;
  incentive = from_defection 1 2 _ (omega (arith, ints)) (omega (arith, ints));
}

cooperation_generated : IsGenerated (prisoners 1 2) both 0 cooperation
cooperation_generated = record {
  profile = (refl, below_two _ (lit< tt) (lit< tt));
  parts = refl;
  lottery = below_one _ (lit< tt);
  weights = lit< tt;
  punished = refl;
  punishments = from_cooperation 1 2 _ (lit< tt) (lit< tt);
  value = below_two _ refl refl;
  incentive = from_cooperation 1 2 _ (omega (arith, ints)) (omega (arith, ints));
}

each_generated : (s k : ℕ) → s < 1 → k < 2 → IsGenerated (prisoners 1 2) both s (entry_at both s k)
each_generated zero zero hs hk = defection_generated
each_generated zero (suc zero) hs hk = cooperation_generated
each_generated zero (suc (suc k)) hs hk = absurd (omega arith)
each_generated (suc s) k hs hk = absurd (omega arith)

pub both_self_generating : IsSelfGenerating (prisoners 1 2) both
both_self_generating = record { scaled = lit< tt; one_list_each = refl; generated = λ s k hs hk. go s k hs hk }
  where
    go : (s k : ℕ) → s < 1 → k < length (entries_of both s) → IsGenerated (prisoners 1 2) both s (entry_at both s k)
    go zero k hs hk = each_generated zero k hs hk
    go (suc s) k hs hk = absurd (omega arith)

-- the first player's deviation from cooperation
first_defects : (p q : ℕ) → IsDeviation (prisoners p q) 0 0 0 1
first_defects p q = record { player = lit< tt; strategy = lit< tt; other = λ e. absurd (omega (arith, e)) }

second_of : (p q : ℕ) (c : Correspondence) → IsSelfGenerating (prisoners p q) c → 1 < length (entries_of c 0) → IsGenerated (prisoners p q) c 0 (entry_at c 0 1)
second_of p q c s h = s.generated 0 1 (lit< tt) h

pub not_impatient : IsSelfGenerating (prisoners 499 1000) both → ⊥
not_impatient s = let e = (second_of 499 1000 both s (lit< tt)).incentive 0 1 (first_defects 499 1000) in absurd (omega (arith, ints, e))

pub not_rewarded : IsSelfGenerating (prisoners 1 2) rewarded → ⊥
not_rewarded s = let e = (second_of 1 2 rewarded s (lit< tt)).incentive 0 1 (first_defects 1 2) in absurd (omega (arith, ints, e))

pub not_promised_more : IsSelfGenerating (prisoners 1 2) promised_more → ⊥
not_promised_more s = let e = (second_of 1 2 promised_more s (lit< tt)).value 0 (lit< tt) in absurd (omega (arith, ints, e))

pub not_weightless : IsSelfGenerating (prisoners 1 2) weightless → ⊥
not_weightless s = let e = (second_of 1 2 weightless s (lit< tt)).weights in absurd (omega (arith, e))

pub not_third_entry : IsSelfGenerating (prisoners 1 2) third_entry → ⊥
not_third_entry s = let e = (second_of 1 2 third_entry s (lit< tt)).lottery 0 (lit< tt) in absurd (omega (arith, e))

pub not_one_punishment : IsSelfGenerating (prisoners 1 2) one_punishment → ⊥
not_one_punishment s = let e = (second_of 1 2 one_punishment s (lit< tt)).punished in absurd (omega (arith, e))

pub not_third_strategy : IsSelfGenerating (prisoners 1 2) third_strategy → ⊥
not_third_strategy s = let e = (second_of 1 2 third_strategy s (lit< tt)).profile.1 1 (lit< tt) in absurd (omega (arith, e))
