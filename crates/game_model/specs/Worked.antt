-- Worked examples: the prisoner's dilemma, a self-generating correspondence of two entries, and neighbours of it that aren't self-generating.
use Rattle.std.specs.Prelude.{ℕ, [], ◌∷◌, pos}
use Rattle.game_model.specs.Game.{DynamicGame}
use Rattle.game_model.specs.SelfGeneration.{Entry, Correspondence}

-- The prisoner's dilemma in one state, with discount factor p/q: 2 each where both cooperate, 3 for who defects alone and 0 for the other, 1 each where both defect.
-- Strategy 0 cooperates and strategy 1 defects.
abbrev pub prisoners : ℕ → ℕ → DynamicGame
prisoners p q = record {
  players = 2;
  strategies = (2 ∷ 2 ∷ []) ∷ [];
  payoffs = (pos 2 ∷ pos 2 ∷ pos 3 ∷ pos 0 ∷ pos 0 ∷ pos 3 ∷ pos 1 ∷ pos 1 ∷ []) ∷ [];
  next = (0 ∷ 0 ∷ 0 ∷ 0 ∷ []) ∷ [];
  denominator = pos 1;
  discounts = p ∷ p ∷ [];
  q = q;
  base = p;
}

-- two entries of the one state
abbrev pub pair_of : ℕ → Entry → Entry → Correspondence
pair_of scale first second = record { scale = scale; entries = (first ∷ second ∷ []) ∷ [] }

-- both defect for ever, and so they do after a deviation
abbrev pub defection : ℕ → Entry
defection scale = record { point = pos scale ∷ pos scale ∷ []; profile = 1 ∷ 1 ∷ []; lottery = (0, 1) ∷ []; punish = 0 ∷ 0 ∷ [] }

-- both cooperate until one deviates, and then they defect
abbrev pub cooperation : Entry
cooperation = record { point = pos 2 ∷ pos 2 ∷ []; profile = 0 ∷ 0 ∷ []; lottery = (1, 1) ∷ []; punish = 0 ∷ 0 ∷ [] }

abbrev pub both : Correspondence
both = pair_of 1 (defection 1) cooperation

-- the first player's deviation is rewarded
abbrev pub rewarded : Correspondence
rewarded = pair_of 1 (defection 1) (record cooperation { punish = 1 ∷ 0 ∷ [] })

-- the first player is promised a thousandth more, over the scale 1000
abbrev pub promised_more : Correspondence
promised_more = pair_of 1000 (defection 1000) (record cooperation { point = pos 2001 ∷ pos 2000 ∷ [] })

-- no weight
abbrev pub weightless : Correspondence
weightless = pair_of 1 (defection 1) (record cooperation { lottery = (1, 0) ∷ [] })

-- a third entry, which isn't there
abbrev pub third_entry : Correspondence
third_entry = pair_of 1 (defection 1) (record cooperation { lottery = (2, 1) ∷ [] })

-- one punishment for two deviations
abbrev pub one_punishment : Correspondence
one_punishment = pair_of 1 (defection 1) (record cooperation { punish = 0 ∷ [] })

-- a third strategy, which isn't there
abbrev pub third_strategy : Correspondence
third_strategy = pair_of 1 (defection 1) (record cooperation { profile = 0 ∷ 2 ∷ [] })
