use Rattle.std.proofs.Common.{◌≡◌, ◌<◌, ◌^◌, length, sym, ap, subst, ◌∙◌, arith, rules}
use Rattle.std.specs.Prelude.{IfSome}
use Rattle.lp_core.specs.Lines.{line_at}
use Rattle.lp_core.specs.Planar.{lines_of, whole_of}
use Rattle.lp_core.specs.Reduced.{Reduced}
use Rattle.lp_core.specs.Sizes.{IsSmallLine}
use Rattle.lp_core.specs.Smaller.{eliminated, smaller}
use Rattle.lp_core.specs.View.{viewed, IsStepOver}
use Rattle.lp_core.proofs.Halves.{whole_count}
use Rattle.lp_core.proofs.Views.{eliminated_unique, smaller_count, smaller_line, whole_small}
use Rattle.lp_core.proofs.view.View.line.Goals as goal

pub wide_row-requires : goal.wide_row-requires
wide_row-requires c =
    let p = c.self.inside.rows.now in
    let s = c.in-Some.step in
    let over : IsStepOver p s = subst (λ z. IfSome z (IsStepOver p)) c.in-Some.is c.self.invariant.over in
    let is : smaller s.pivot (whole_of p) s.r ≡ c.args.self.now = ap (λ z. viewed p z) (sym c.in-Some.is) ∙ c.self.view_is in
    let within : c.args.l < length (smaller s.pivot (whole_of p) s.r).lines = subst (λ (q : Reduced). c.args.l < length q.lines) (sym is) c.requires in
    let inside : c.args.l < length p.rows = omega (arith, within, smaller_count s.pivot (whole_of p) s.r, whole_count p) in
    inside

pub eliminated-requires-clause-own : goal.eliminated-requires-clause-own
eliminated-requires-clause-own c =
    let p = c.self.inside.rows.now in
    let s = c.in-Some.step in
    let over : IsStepOver p s = subst (λ z. IfSome z (IsStepOver p)) c.in-Some.is c.self.invariant.over in
    let is : smaller s.pivot (whole_of p) s.r ≡ c.args.self.now = ap (λ z. viewed p z) (sym c.in-Some.is) ∙ c.self.view_is in
    let within : c.args.l < length (smaller s.pivot (whole_of p) s.r).lines = subst (λ (q : Reduced). c.args.l < length q.lines) (sym is) c.requires in
    let inside : c.args.l < length p.rows = omega (arith, within, smaller_count s.pivot (whole_of p) s.r, whole_count p) in
    over.small

pub eliminated-requires-clause-small : goal.eliminated-requires-clause-small
eliminated-requires-clause-small c =
    let p = c.self.inside.rows.now in
    let s = c.in-Some.step in
    let over : IsStepOver p s = subst (λ z. IfSome z (IsStepOver p)) c.in-Some.is c.self.invariant.over in
    let is : smaller s.pivot (whole_of p) s.r ≡ c.args.self.now = ap (λ z. viewed p z) (sym c.in-Some.is) ∙ c.self.view_is in
    let within : c.args.l < length (smaller s.pivot (whole_of p) s.r).lines = subst (λ (q : Reduced). c.args.l < length q.lines) (sym is) c.requires in
    let inside : c.args.l < length p.rows = omega (arith, within, smaller_count s.pivot (whole_of p) s.r, whole_count p) in
    subst (λ x. IsSmallLine (2 ^ 10) (2 ^ 80) x) (sym c.wide_row.ensures) (whole_small p c.args.l c.self.invariant.program inside)

pub wide_row-requires-in-None : goal.wide_row-requires-in-None
wide_row-requires-in-None c =
    let p = c.self.inside.rows.now in
    let is : whole_of p ≡ c.args.self.now = ap (λ z. viewed p z) (sym c.in-None.is) ∙ c.self.view_is in
    let within : c.args.l < length (lines_of p) = subst (λ (q : Reduced). c.args.l < length q.lines) (sym is) c.requires in
    omega (arith, within, whole_count p)

pub returns-in-Some : goal.returns-in-Some
returns-in-Some c =
    let p = c.self.inside.rows.now in
    let s = c.in-Some.step in
    let over : IsStepOver p s = subst (λ z. IfSome z (IsStepOver p)) c.in-Some.is c.self.invariant.over in
    let is : smaller s.pivot (whole_of p) s.r ≡ c.args.self.now = ap (λ z. viewed p z) (sym c.in-Some.is) ∙ c.self.view_is in
    let within : c.args.l < length (smaller s.pivot (whole_of p) s.r).lines = subst (λ (q : Reduced). c.args.l < length q.lines) (sym is) c.requires in
    let inside : c.args.l < length p.rows = omega (arith, within, smaller_count s.pivot (whole_of p) s.r, whole_count p) in
    let three : length c.eliminated.result.c ≡ 3 = search rules in
    eliminated_unique s.pivot c.wide_row.result c.eliminated.result three c.eliminated.ensures ∙ ap (λ x. eliminated s.pivot x) c.wide_row.ensures
    ∙ sym (smaller_line p s.pivot s.r c.args.l over.all within) ∙ ap (λ (q : Reduced). line_at q.lines c.args.l) is

pub returns-in-None : goal.returns-in-None
returns-in-None c =
    let p = c.self.inside.rows.now in
    let is : whole_of p ≡ c.args.self.now = ap (λ z. viewed p z) (sym c.in-None.is) ∙ c.self.view_is in
    c.wide_row-in-None.ensures ∙ ap (λ (q : Reduced). line_at q.lines c.args.l) is
