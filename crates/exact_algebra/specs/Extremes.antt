-- The greatest and the least value over a list.
use Rattle.std.specs.Prelude.{◌≡◌, ℤ, ◌≤ℤ◌, List, All, Any}

pub record IsGreatest {A : Type 0} (f : A → ℤ) (xs : List A) (m : ℤ) : Type 0 where
  pub bounds : All (λ x. f x ≤ℤ m) xs
  pub reached : Any (λ x. f x ≡ m) xs

pub record IsLeast {A : Type 0} (f : A → ℤ) (xs : List A) (m : ℤ) : Type 0 where
  pub bounds : All (λ x. m ≤ℤ f x) xs
  pub reached : Any (λ x. f x ≡ m) xs
