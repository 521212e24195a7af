-- The order of levels.
use Rattle.std.proofs.Common.{◌≡◌, refl, ap, subst, arith}
use Rattle.std.specs.Prelude.{ℤ, ◌≤ℤ◌}
use Rattle.std.proofs.lemmas.Int.{ints, clamps}
use Rattle.level_table.specs.declared.level.Level.{Level}
use Rattle.level_table.specs.declared.level.Level.TheVariants.{Empty, At}
use Rattle.level_table.specs.Levels.{AtMost, IsNumber, lesser}

pub number_above : (l m : Level) → AtMost l m → IsNumber l → IsNumber m
number_above Empty m h n = absurd n
number_above (At x) Empty h n = absurd h
number_above (At x) (At y) h n = tt

pub number_at_most : (l m : Level) (x : ℤ) → AtMost l m → m ≡ At x → IsNumber l → (z : ℤ) × (l ≡ At z) × (z ≤ℤ x)
number_at_most Empty m x h e n = absurd n
number_at_most (At z) m x h e n = (z, refl, subst (AtMost (At z)) e h)

pub level_at_most_trans : (l m n : Level) → AtMost l m → AtMost m n → AtMost l n
level_at_most_trans Empty m n h k = tt
level_at_most_trans (At x) Empty n h k = absurd h
level_at_most_trans (At x) (At y) Empty h k = absurd k
level_at_most_trans (At x) (At y) (At z) h k = omega (arith, ints)

pub level_at_most_self : (l : Level) → AtMost l l
level_at_most_self Empty = tt
level_at_most_self (At x) = omega (arith, ints)

pub same_level : (l m : Level) → AtMost l m → AtMost m l → l ≡ m
same_level Empty Empty h k = refl
same_level Empty (At y) h k = absurd k
same_level (At x) Empty h k = absurd h
same_level (At x) (At y) h k = let e : x ≡ y = omega (arith, ints) in ap At e

pub lesser_at_most : (l m : Level) → AtMost (lesser l m) l
lesser_at_most Empty m = tt
lesser_at_most (At x) Empty = tt
lesser_at_most (At x) (At y) = omega (arith, ints, clamps)

pub lesser_at_most_second : (l m : Level) → AtMost (lesser l m) m
lesser_at_most_second Empty m = tt
lesser_at_most_second (At x) Empty = tt
lesser_at_most_second (At x) (At y) = omega (arith, ints, clamps)

pub at_most_lesser : (u l m : Level) → AtMost u l → AtMost u m → AtMost u (lesser l m)
at_most_lesser Empty l m h k = tt
at_most_lesser (At x) Empty m h k = absurd h
at_most_lesser (At x) (At y) Empty h k = absurd k
at_most_lesser (At x) (At y) (At z) h k = omega (arith, ints, clamps)

pub lesser_grows : (l m l' m' : Level) → AtMost l l' → AtMost m m' → AtMost (lesser l m) (lesser l' m')
lesser_grows l m l' m' h k =
    at_most_lesser (lesser l m) l' m'
    (level_at_most_trans (lesser l m) l l' (lesser_at_most l m) h)
    (level_at_most_trans (lesser l m) m m' (lesser_at_most_second l m) k)

-- a level that is at most Empty, and the lesser of a level and a number, where it is Empty
pub at_most_empty : (l m : Level) → AtMost l m → m ≡ Empty → l ≡ Empty
at_most_empty Empty m h e = refl
at_most_empty (At x) Empty h e = absurd h
at_most_empty (At x) (At y) h e = absurd (cc)

pub lesser_number : (l : Level) (x : ℤ) → lesser l (At x) ≡ Empty → l ≡ Empty
lesser_number Empty x e = e
lesser_number (At y) x e = absurd (cc)

pub level_at_most_from_same : (l m : Level) → l ≡ m → AtMost l m
level_at_most_from_same l m e = subst (λ (n : Level). AtMost l n) e (level_at_most_self l)
