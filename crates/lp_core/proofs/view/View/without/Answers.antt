use Rattle.std.proofs.Common.{◌≡◌, ℕ, ◌<◌, sym, ap, subst, set, ◌∙◌}
use Rattle.std.specs.Prelude.{None, slice_index_or, true, false}
use Rattle.lp_core.specs.Planar.{whole_of}
use Rattle.lp_core.specs.Reduced.{Reduced}
use Rattle.lp_core.specs.Smaller.{smaller}
use Rattle.lp_core.specs.View.{viewed}
use Rattle.lp_core.proofs.Views.{all_live, smaller_live, step_none}
use Rattle.lp_core.proofs.view.View.without.Goals as goal

pub invariant_of-result : goal.invariant_of-result
invariant_of-result c =
    let p = c.self.inside.rows.now in
    let v = c.args.pivot.now in
    let none : c.self.inside.step ≡ None = step_none p c.self.inside.step c.args.self.now c.self.view_is c.requires.all in
    let is : whole_of p ≡ c.args.self.now = ap (λ z. viewed p z) (sym none) ∙ c.self.view_is in
    let live : c.self.inside.live ≡ (whole_of p).live = c.self.invariant.live_is ∙ ap (λ z. (viewed p z).live) none in
    record {
      program = c.self.invariant.program;
      live_is = ap (λ xs. set xs v.place false) live ∙ smaller_live v (whole_of p) c.args.r;
      over = record { all = all_live p c.self.invariant.program (subst (λ (q : Reduced). (k : ℕ) → k < 3 → slice_index_or q.live k false ≡ true) (sym is) c.requires.all); small = c.requires.own };
    }

pub returns : goal.returns
returns c =
    let p = c.self.inside.rows.now in
    let none : c.self.inside.step ≡ None = step_none p c.self.inside.step c.args.self.now c.self.view_is c.requires.all in
    let is : whole_of p ≡ c.args.self.now = ap (λ z. viewed p z) (sym none) ∙ c.self.view_is in
    ap (λ q. smaller c.args.pivot.now q c.args.r) is
