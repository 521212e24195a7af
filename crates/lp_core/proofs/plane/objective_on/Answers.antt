use Rattle.std.proofs.Common.{◌≡◌, ◌∷◌, [], ◌^◌, ap, sym, subst, ◌∙◌, lit<}
use Rattle.std.specs.Prelude.{pos}
use Rattle.std.specs.Int.{w32}
use Rattle.std.specs.Int.RustNames.{FitsSigned}
use Rattle.std.proofs.lemmas.Int.{to_z-of_z, fits_signed_from_abs}
use Rattle.lp_cert.specs.Program.{entry}
use Rattle.lp_core.specs.Sizes.{AreAtMost}
use Rattle.lp_core.specs.Smaller.{rest_of}
use Rattle.lp_core.specs.Turned.{turned}
use Rattle.lp_core.proofs.Planes.{objective_left, rest_small_on}
use Rattle.lp_core.proofs.plane.objective_on.Goals as goal

pub weight_at-first-requires-clause-small : goal.weight_at-first-requires-clause-small
weight_at-first-requires-clause-small c = subst (λ xs. AreAtMost 8192 xs) (sym c.rest-rest.ensures) (rest_small_on c.args.pivot.now (2 ^ 50) c.args.objective c.requires.own c.requires.small)

pub weight_at-second-requires-clause-small : goal.weight_at-second-requires-clause-small
weight_at-second-requires-clause-small c = subst (λ xs. AreAtMost 8192 xs) (sym c.rest-rest.ensures) (rest_small_on c.args.pivot.now (2 ^ 50) c.args.objective c.requires.own c.requires.small)

pub returns-clause-entries : goal.returns-clause-entries
returns-clause-entries c =
    let p = c.args.pivot.now in
    let o = c.args.objective in
    let a : c.weight_at-first.result ≡ entry (rest_of p o) (turned p.place 0) = c.weight_at-first.ensures.value ∙ ap (λ xs. entry xs c.place_of.result) c.rest-rest.ensures ∙ ap (λ k. entry (rest_of p o) k) c.place_of.ensures.value in
    let b : c.weight_at-second.result ≡ entry (rest_of p o) (turned p.place 1) = c.weight_at-second.ensures.value ∙ ap (λ xs. entry xs c.place_of-2.result) c.rest-rest.ensures ∙ ap (λ k. entry (rest_of p o) k) c.place_of-2.ensures.value in
    let f1 : FitsSigned w32 c.weight_at-first.result = record { sfits = c.weight_at-first.type_inv } in
    let f2 : FitsSigned w32 c.weight_at-second.result = record { sfits = c.weight_at-second.type_inv } in
    objective_left p o _ _ (to_z-of_z w32 c.weight_at-first.result f1 ∙ a) (to_z-of_z w32 c.weight_at-second.result f2 ∙ b)
