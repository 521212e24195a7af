-- Arrows from the target to points, and the cones that they span.
use Rattle.std.specs.Prelude.{◌≡◌, ◌≢◌, ◌⊎◌, ℕ, ◌<◌, ◌≤◌, ◌^◌, ℤ, pos, ◌+ℤ◌, ◌-ℤ◌, ◌*ℤ◌, ◌≤ℤ◌, ◌<ℤ◌, List, ⊤}
use Rattle.hull_weights.specs.Hull.{x_of, y_of, point_at}
use Rattle.hull_weights.specs.declared.arrow.Arrow.{Arrow}
use Rattle.hull_weights.specs.declared.cone.Cone.{Cone}
use Rattle.hull_weights.specs.declared.cone.Cone.TheVariants.{Empty, Ray, Wedge}
use Rattle.hull_weights.specs.declared.cone.Balance.{Balance}
use Rattle.hull_weights.specs.declared.cone.Step.{Step}
use Rattle.hull_weights.specs.declared.cone.Step.TheVariants.{Wider, Balanced}

-- positive where (x, y) is to the left of the arrow, negative where it is to the right
abbrev pub turn : Arrow → ℤ → ℤ → ℤ
turn arrow x y = arrow.x *ℤ y -ℤ arrow.y *ℤ x

-- positive where (x, y) is ahead of the arrow
abbrev pub ahead : Arrow → ℤ → ℤ → ℤ
ahead arrow x y = arrow.x *ℤ x +ℤ arrow.y *ℤ y

-- the arrow goes from the target to the point of its index, one of the first so many
pub record IsArrow (points : List (List ℤ)) (target : List ℤ) (seen : ℕ) (arrow : Arrow) : Type 0 where
  pub seen_already : arrow.index < seen
  pub x_is : arrow.x ≡ x_of (point_at points arrow.index) -ℤ x_of target
  pub y_is : arrow.y ≡ y_of (point_at points arrow.index) -ℤ y_of target

abbrev pub EachArrow : (Arrow → Type 0) → Cone → Type 0
EachArrow P Empty = ⊤
EachArrow P (Ray only) = P only
EachArrow P (Wedge right left) = P right × P left

abbrev pub IsPartOf : Cone → Arrow → Type 0
IsPartOf Empty arrow = ⊥
IsPartOf (Ray only) arrow = arrow ≡ only
IsPartOf (Wedge right left) arrow = (arrow ≡ right) ⊎ (arrow ≡ left)

abbrev pub IsKnown : Cone → Arrow → Arrow → Type 0
IsKnown cone latest arrow = (arrow ≡ latest) ⊎ IsPartOf cone arrow

-- a cone of less than half a turn
abbrev pub IsProper : Cone → Type 0
IsProper Empty = ⊤
IsProper (Ray only) = pos 0 <ℤ ahead only only.x only.y
IsProper (Wedge right left) = (pos 0 <ℤ turn right left.x left.y) × (right.index ≢ left.index)

-- (x, y) is in the cone, and isn't zero
abbrev pub IsInCone : Cone → ℤ → ℤ → Type 0
IsInCone Empty x y = ⊥
IsInCone (Ray only) x y = (turn only x y ≡ pos 0) × (pos 0 <ℤ ahead only x y)
IsInCone (Wedge right left) x y = (pos 0 ≤ℤ turn right x y) × (turn left x y ≤ℤ pos 0) × (turn left x y <ℤ turn right x y)

-- the wider cone has what the cone has, and the latest arrow
pub record IsWider (cone : Cone) (latest : Arrow) (wider : Cone) : Type 0 where
  pub proper : IsProper wider
  pub known : EachArrow (IsKnown cone latest) wider
  pub keeps : (x y : ℤ) → IsInCone cone x y → IsInCone wider x y
  pub takes : IsInCone wider latest.x latest.y

-- the last of three arrows counts, and the others too have indices of their own where they count
pub record IsOrdered (balance : Balance) : Type 0 where
  pub last_counts : 0 < balance.last_weight
  pub first_before : 0 < balance.first_weight → balance.first.index < balance.last.index
  pub second_before : 0 < balance.second_weight → balance.second.index < balance.last.index
  pub apart : 0 < balance.first_weight → 0 < balance.second_weight → balance.first.index ≢ balance.second.index
  pub first_small : balance.first_weight ≤ 2 ^ 83
  pub second_small : balance.second_weight ≤ 2 ^ 83
  pub last_small : balance.last_weight ≤ 2 ^ 83

-- the sum of a part of the arrows, each times its weight
abbrev pub balance_of : Balance → ℤ → ℤ → ℤ → ℤ
balance_of balance first second last =
    pos balance.first_weight *ℤ first +ℤ pos balance.second_weight *ℤ second +ℤ pos balance.last_weight *ℤ last

-- the latest arrow and others of the cone cancel
pub record IsBalance (cone : Cone) (latest : Arrow) (balance : Balance) : Type 0 where
  pub ordered : IsOrdered balance
  pub first_known : IsKnown cone latest balance.first
  pub second_known : IsKnown cone latest balance.second
  pub last_is : balance.last ≡ latest
  pub cancels_x : balance_of balance balance.first.x balance.second.x balance.last.x ≡ pos 0
  pub cancels_y : balance_of balance balance.first.y balance.second.y balance.last.y ≡ pos 0

abbrev pub MatchStep : Step → (Cone → Type 0) → (Balance → Type 0) → Type 0
MatchStep (Wider cone) P Q = P cone
MatchStep (Balanced balance) P Q = Q balance

-- the cone of the first so many points: it is made of them and has them all
pub record Spans (points : List (List ℤ)) (target : List ℤ) (seen : ℕ) (cone : Cone) : Type 0 where
  pub proper : IsProper cone
  pub arrows : EachArrow (IsArrow points target seen) cone
  pub has : (index : ℕ) → index < seen → IsInCone cone (x_of (point_at points index) -ℤ x_of target) (y_of (point_at points index) -ℤ y_of target)
