-- The verdict that is read.
use Rattle.std.proofs.Common.{◌≡◌, ◌≢◌, ⊎_elim, ℕ, ◌+◌, ◌*◌, ◌/◌, ◌%◌, ◌<◌, List, get_or, refl, sym, ap, subst, ◌∙◌, arith, ℤ}
use Rattle.std.specs.Prelude.{codes, Option, Some, None}
use Rattle.std.proofs.lemmas.Bool.{cases_eq}
use Rattle.std.proofs.lemmas.Nat.{div-add-mod', div_below, mod_below}
use Rattle.level_table.specs.declared.level.Level.TheVariants.{At}
use Rattle.pay_frac.specs.Ratio.{Ratio}
use Rattle.set_operator.specs.declared.row.Verdict.{Verdict}
use Rattle.set_operator.specs.declared.row.Verdict.TheVariants.{Unsupported}
use Rattle.report_text.specs.Rules.{IsSameVerdict}

pub spent_no_settled : codes "spent" ≡ codes "settled" → ⊥
spent_no_settled w = let f : 112 ≡ 101 = ap (λ (bs : List ℕ). get_or bs 1 0) w in omega (arith, f)

some_same : (v w : Verdict) → ◌≡◌ {A = Option Verdict} (Some v) (Some w) → v ≡ w
some_same v w e = cc

pub stopped_is : (players row : ℕ) (level : ℤ) (reached : Option Ratio) (v : Verdict) → ◌≡◌ {A = Option Verdict} (Some v) (Some (Unsupported row level reached)) → IsSameVerdict players (Unsupported row level reached) v
stopped_is players row level reached v e = subst (IsSameVerdict players (Unsupported row level reached)) (sym (some_same v (Unsupported row level reached) e)) (refl, refl, refl)

-- the state and the direction of a row
pub row_parts : (row states k : ℕ) → row < states * k → (0 < k) × (row / k < states) × (row % k < k) × (row / k * k + row % k ≡ row)
row_parts row states k h =
    let some : 0 < k = ⊎_elim (λ (e : k ≡ 0). absurd (omega (arith, h, ap (λ (n : ℕ). states * n) e))) (λ (e : k ≢ 0). omega arith) (cases_eq k 0) in
    (some, div_below row k states some h, mod_below row k some, div-add-mod' row k)

pub at_same : (x y : ℤ) → At x ≡ At y → x ≡ y
at_same x y e = cc

pub stopped_same : (a row : ℕ) (b level : ℤ) (o reached : Option Ratio) → a ≡ row → b ≡ level → o ≡ reached → ◌≡◌ {A = Option Verdict} (Some (Unsupported a b o)) (Some (Unsupported row level reached))
stopped_same a row b level o reached e f g =
    ap (λ (n : ℕ). Some (Unsupported n b o)) e ∙ ap (λ (z : ℤ). Some (Unsupported row z o)) f ∙ ap (λ (x : Option Ratio). Some (Unsupported row level x)) g

pub no_verdict : (o : Option Verdict) (v : Verdict) → o ≡ None → o ≡ Some v → ⊥
no_verdict o v e f = cc
