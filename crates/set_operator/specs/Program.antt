-- The program of a profile: rows over the payoffs that may follow it, and what a direction makes of them.
use Rattle.std.specs.Prelude.{◌≡◌, IsTrue, ℕ, ◌-◌, ◌*◌, ◌^◌, ◌<◌, ◌≤◌, List, [], ◌∷◌, length, All, ℤ, pos, neg_ℤ, ◌*ℤ◌, ◌≤ℤ◌, ◌<ℤ◌}
use Rattle.std.specs.Int.RustNames.{unsigned_abs}
use Rattle.game_model.specs.SelfGeneration.{part, sum_below}
use Rattle.level_table.specs.declared.level.Level.TheVariants.{At}
use Rattle.level_table.specs.declared.reason.Item.{Item}
use Rattle.level_table.specs.Problem.{Problem, direction_count, direction, discount_at, plus_axis, minus_axis}
use Rattle.level_table.specs.Levels.{Levels}
use Rattle.level_table.specs.Notes.{IsItem, coefficient, right_side, multiplier, levels_of}
use Rattle.level_table.specs.Reasons.{IsProgramRow}
use Rattle.lp_cert.specs.Program.{Program, IsProgram, row_at}
use Rattle.set_operator.specs.declared.boxes.Side.{Side}
use Rattle.set_operator.specs.declared.boxes.ProfileBox.{ProfileBox}
use Rattle.set_operator.specs.declared.most.Discounts.{Discounts}
use Rattle.set_operator.specs.declared.most.Range.{Range}
use Rattle.set_operator.specs.Boxes.{side_at, stage_at}

-- The first m rows: row k has direction k as its coefficients. Those of the axes have the sides of the box, each other the next state's level.
pub record IsProgramTo (p : Problem) (t : Levels) (b : ProfileBox) (m : ℕ) (rows : Program) : Type 0 where
  pub program : IsProgram rows
  pub dimension : rows.dimension ≡ p.game.players
  pub one_each : length rows.rows ≡ m
  pub coefficients : (k : ℕ) → k < m → (row_at rows k).c ≡ direction p k
  pub upper : (i : ℕ) → i < p.game.players → (row_at rows (plus_axis i)).h ≡ (side_at b i).upper
  pub lower : (i : ℕ) → i < p.game.players → (row_at rows (minus_axis i)).h ≡ (side_at b i).lower
  pub others : (k : ℕ) → 2 * p.game.players ≤ k → k < m → t b.next k ≡ At (row_at rows k).h

-- a row for each direction
abbrev pub IsProgramOf : Problem → Levels → ProfileBox → Program → Type 0
IsProgramOf p t b rows = IsProgramTo p t b (direction_count p) rows

-- What a unit of each player's part counts in direction k over q: the discount numerator times the direction's part.
pub record IsObjective (p : Problem) (k : ℕ) (o : List ℤ) : Type 0 where
  pub three : length o ≡ 3
  pub part_is : (i : ℕ) → i < p.game.players → part o i ≡ pos (discount_at p i) *ℤ part (direction p k) i
  pub unused : (i : ℕ) → p.game.players ≤ i → part o i ≡ pos 0
  pub small : All (λ x. unsigned_abs x ≤ 4096) o

-- what the payoffs of the profile count in direction k over q
abbrev pub stage_value : Problem → ProfileBox → ℕ → ℤ
stage_value p b k = sum_below (λ i. part (direction p k) i *ℤ stage_at b i) p.game.players

-- the item stands for a row of the program, with its multiplier
pub record IsItemOf (p : Problem) (t : Levels) (b : ProfileBox) (row : ℕ) (times : ℤ) (item : Item) : Type 0 where
  pub times_is : multiplier item ≡ times
  pub coefficients : (j : ℕ) → j < p.game.players → coefficient p item j ≡ part (direction p row) j
  pub right : (rows : Program) → IsProgramOf p t b rows → right_side p b.state b.profile item ≡ (row_at rows row).h
  pub kept : IsItem p (levels_of t) b.state b.profile item
  pub program_row : IsProgramRow p t b.state b.profile item

-- one item for each multiplier, in order
abbrev pub AreItemsOf : Problem → Levels → ProfileBox → List (ℕ × ℤ) → List Item → Type 0
AreItemsOf p t b [] [] = Unit {0}
AreItemsOf p t b [] (item ∷ items) = ⊥
AreItemsOf p t b (m ∷ ms) [] = ⊥
AreItemsOf p t b (m ∷ ms) (item ∷ items) = IsItemOf p t b m.0 m.1 item × AreItemsOf p t b ms items

-- y over den is between the sides
pub record IsWithin (side : Side) (y den : ℤ) : Type 0 where
  pub above : y ≤ℤ (side.upper *ℤ den)
  pub below : neg_ℤ y ≤ℤ (side.lower *ℤ den)

-- the sides of the players fit
pub record HasSmallSides (p : Problem) (b : ProfileBox) : Type 0 where
  pub upper_small : (i : ℕ) → i < p.game.players → unsigned_abs (side_at b i).upper ≤ 2 ^ 50
  pub lower_small : (i : ℕ) → i < p.game.players → unsigned_abs (side_at b i).lower ≤ 2 ^ 62

-- What player i's part counts in direction k beyond `least` of the discount numerator is at most this.
abbrev pub IsMostPart : Problem → ProfileBox → ℕ → ℕ → ℕ → ℤ → Type 0
IsMostPart p b k least i most = (y den : ℤ) → pos 0 <ℤ den → IsWithin (side_at b i) y den
    → (pos (discount_at p i - least) *ℤ (part (direction p k) i *ℤ y)) ≤ℤ (most *ℤ den)

-- the same of all players' parts together
abbrev pub IsMostSpread : Problem → ProfileBox → ℕ → ℕ → ℤ → Type 0
IsMostSpread p b k least most = (y : List ℤ) (den : ℤ) → pos 0 <ℤ den → ((i : ℕ) → i < p.game.players → IsWithin (side_at b i) (part y i) den)
    → sum_below (λ i. pos (discount_at p i - least) *ℤ (part (direction p k) i *ℤ part y i)) p.game.players ≤ℤ (most *ℤ den)

-- no discount numerator is less
abbrev pub IsLeastNumerator : Problem → ℕ → Type 0
IsLeastNumerator p least = (i : ℕ) → i < p.game.players → least ≤ discount_at p i

-- the least and the greatest discount numerator
pub record IsRange (p : Problem) (range : Range) : Type 0 where
  pub least : IsLeastNumerator p range.least
  pub most : (i : ℕ) → i < p.game.players → discount_at p i ≤ range.most
  pub small : range.least ≤ 1024

-- the least discount numerator, and whether each is equal to it
pub record AreDiscounts (p : Problem) (discounts : Discounts) : Type 0 where
  pub least : IsLeastNumerator p discounts.least
  pub small : discounts.least ≤ 1024
  pub same : IsTrue discounts.same → (i : ℕ) → i < p.game.players → discount_at p i ≡ discounts.least
