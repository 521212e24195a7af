use Rattle.std.proofs.Common.{◌≡◌, ℕ, ◌<◌, sym, ap, subst, ◌∙◌}
use Rattle.std.specs.Prelude.{None, slice_index_or, true, false}
use Rattle.lp_core.specs.Planar.{whole_of}
use Rattle.lp_core.specs.Reduced.{Reduced}
use Rattle.lp_core.specs.View.{viewed}
use Rattle.lp_core.proofs.Views.{all_live, step_none}
use Rattle.lp_core.proofs.view.View.rows.Goals as goal

pub returns-clause-value : goal.returns-clause-value
returns-clause-value c =
    let p = c.self.inside.rows.now in
    let none : c.self.inside.step ≡ None = step_none p c.self.inside.step c.args.self.now c.self.view_is c.requires in
    ap (λ z. viewed p z) (sym none) ∙ c.self.view_is

pub returns-clause-program : goal.returns-clause-program
returns-clause-program c = c.self.invariant.program

pub returns-clause-dimension : goal.returns-clause-dimension
returns-clause-dimension c =
    let p = c.self.inside.rows.now in
    let none : c.self.inside.step ≡ None = step_none p c.self.inside.step c.args.self.now c.self.view_is c.requires in
    let is : whole_of p ≡ c.args.self.now = ap (λ z. viewed p z) (sym none) ∙ c.self.view_is in
    all_live p c.self.invariant.program (subst (λ (q : Reduced). (k : ℕ) → k < 3 → slice_index_or q.live k false ≡ true) (sym is) c.requires)
