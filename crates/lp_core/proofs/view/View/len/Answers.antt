use Rattle.std.proofs.Common.{◌≡◌, length, min, sym, ap, ◌∙◌}
use Rattle.lp_core.specs.Planar.{whole_of}
use Rattle.lp_core.specs.Reduced.{Reduced}
use Rattle.lp_core.specs.Smaller.{smaller}
use Rattle.lp_core.specs.View.{viewed}
use Rattle.lp_core.proofs.Halves.{whole_count}
use Rattle.lp_core.proofs.Views.{smaller_count}
use Rattle.lp_core.proofs.view.View.len.Goals as goal

pub returns-in-Some : goal.returns-in-Some
returns-in-Some c =
    let p = c.self.inside.rows.now in
    let s = c.in-Some.step in
    let is : smaller s.pivot (whole_of p) s.r ≡ c.args.self.now = ap (λ z. viewed p z) (sym c.in-Some.is) ∙ c.self.view_is in
    c.min.ensures ∙ ap (λ n. min n c.max.result) (c.len.ensures.value ∙ sym (whole_count p)) ∙ ap (λ n. min (length (whole_of p).lines) n) c.max.ensures
    ∙ sym (smaller_count s.pivot (whole_of p) s.r) ∙ ap (λ (q : Reduced). length q.lines) is

pub returns-in-None : goal.returns-in-None
returns-in-None c =
    let p = c.self.inside.rows.now in
    let is : whole_of p ≡ c.args.self.now = ap (λ z. viewed p z) (sym c.in-None.is) ∙ c.self.view_is in
    c.len-in-None.ensures.value ∙ sym (whole_count p) ∙ ap (λ (q : Reduced). length q.lines) is
