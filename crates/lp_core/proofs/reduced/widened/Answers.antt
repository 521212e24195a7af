use Rattle.std.proofs.Common.{◌≡◌, ◌<◌, ◌≤◌, ◌^◌, List, [], ◌∷◌, length, refl, arith, lit<}
use Rattle.std.specs.Prelude.{ℤ, pos}
use Rattle.std.specs.Int.{w32, w128}
use Rattle.std.specs.Int.RustNames.{FitsSigned, unsigned_abs}
use Rattle.std.proofs.lemmas.Int.{to_z-of_z, fits_signed_from_abs}
use Rattle.lp_cert.specs.Program.{entry}
use Rattle.lp_core.proofs.Fits.{fits}
use Rattle.lp_core.proofs.reduced.widened.Goals as goal

narrow : (x : ℤ) → unsigned_abs x ≤ 4096 → FitsSigned w32 x
narrow x h = fits_signed_from_abs w32 x (let l : 4096 < 2 ^ 31 = lit< tt in omega (arith, h, l))

same : (c : List ℤ) → length c ≡ 3 → (entry c 0 ∷ entry c 1 ∷ entry c 2 ∷ []) ≡ c
same (x ∷ y ∷ z ∷ []) e = refl
same [] e = absurd (omega (arith, e))
same (x ∷ []) e = absurd (omega (arith, e))
same (x ∷ y ∷ []) e = absurd (omega (arith, e))
same (x ∷ y ∷ z ∷ w ∷ c) e = absurd (omega (arith, e))

pub returns : goal.returns
returns c =
    let a = c.requires.small 0 (pos 0) (omega (arith, c.requires.three)) in
    let b = c.requires.small 1 (pos 0) (omega (arith, c.requires.three)) in
    let d = c.requires.small 2 (pos 0) (omega (arith, c.requires.three)) in
    let a1 : FitsSigned w32 (entry c.args.c 0) = narrow _ a in
    let b1 : FitsSigned w32 (entry c.args.c 1) = narrow _ b in
    let d1 : FitsSigned w32 (entry c.args.c 2) = narrow _ d in
    let a2 : FitsSigned w128 (entry c.args.c 0) = fits _ _ a (lit< tt) in
    let b2 : FitsSigned w128 (entry c.args.c 1) = fits _ _ b (lit< tt) in
    let d2 : FitsSigned w128 (entry c.args.c 2) = fits _ _ d (lit< tt) in
    simp to_z-of_z (same c.args.c c.requires.three)
