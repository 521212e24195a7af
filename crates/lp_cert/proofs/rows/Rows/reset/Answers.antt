use Rattle.std.proofs.Common.{sym, subst, length}
use Rattle.lp_cert.specs.Program.{IsProgram}
use Rattle.lp_cert.proofs.Boxes.{boxed_is_program}
use Rattle.lp_cert.proofs.rows.Rows.reset.Goals as goal

pub invariant_of-self : goal.invariant_of-self
invariant_of-self c =
    let us = c.args.upper.now in
    let ls = c.args.lower.now in
    subst (λ rows. IsProgram (record { dimension = length us; rows = rows })) (sym c.add_box.ensures) (boxed_is_program us ls c.requires.some c.requires.few c.requires.lengths c.requires.upper c.requires.lower)
