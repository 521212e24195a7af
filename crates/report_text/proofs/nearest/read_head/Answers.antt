use Rattle.std.proofs.Common.{◌≡◌, ℕ, ◌*◌, ◌++◌, ◌∷◌, subst, sym, ap, ◌∙◌, ◌^◌, arith, rules, SFits, ℤ, pos, ◌≤ℤ◌}
use Rattle.std.specs.Int.{w128}
use Rattle.std.proofs.lemmas.Int.{ints, to_z-of_z}
use Rattle.std.specs.Prelude.{codes}
use Rattle.report_text.specs.declared.rules.Sizes.{Sizes}
use Rattle.report_text.specs.ReportText.{rows_of}
use Rattle.report_text.specs.Reading.{counts_words, sizes_words}
use Rattle.report_text.specs.Rules.{AreDiscounts, sizes_of}
use Rattle.report_text.proofs.nearest.read_head.Goals as goal

pub returns-clause-keeps : goal.returns-clause-keeps
returns-clause-keeps c =
    let f : SFits w128 c.counts-unit.result.0 = first_of (search rules, omega (arith, ints, c.counts-unit.ensures.unit.0, c.counts-unit.ensures.unit.1)) in
    record {
      sizes = c.sizes-sizes.ensures.keeps;
      discounts = c.in_ok-discounts.ensures.keeps;
      unit = subst (λ (z : ℤ). (pos 1 ≤ℤ z) × (z ≤ℤ pos (2 ^ 100))) (sym (to_z-of_z w128 c.counts-unit.result.0 f)) c.counts-unit.ensures.unit;
      slack = c.counts-unit.ensures.slack;
    }

pub returns-clause-read : goal.returns-clause-read
returns-clause-read c = λ r rest k b.
    let f : SFits w128 c.counts-unit.result.0 = first_of (search rules, omega (arith, ints, c.counts-unit.ensures.unit.0, c.counts-unit.ensures.unit.1)) in
    let counts = counts_words r.unit r.slack r.sweeps (r.sweeps * rows_of r) ++ rest in
    let s = c.status-settled.ensures r.verdict (sizes_words (sizes_of r) ++ (codes "discount" ∷ (b.shown ++ counts))) b.words_are in
    let q = c.sizes-sizes.ensures.read (sizes_of r) (codes "discount" ∷ (b.shown ++ counts)) k.sizes s.1 in
    let players : c.sizes-sizes.result.players ≡ r.players = ap (λ (z : Sizes). z.players) q.0 in
    let d = c.in_ok-discounts.ensures.read r.discounts b.shown _ (subst (λ n. AreDiscounts n r.discounts) (sym players) k.discounts) b.are_shown q.1 in
    let n = c.counts-unit.ensures.read r.unit r.slack r.sweeps (r.sweeps * rows_of r) rest k.unit.0 k.unit.1 k.slack.0 k.slack.1 k.sweeps d.1 in (
      record {
        settled = s.0;
        sizes = q.0;
        discounts = d.0;
        unit = to_z-of_z w128 c.counts-unit.result.0 f ∙ ap (λ (t : ℤ × ℕ × ℕ). t.0) n.0;
        slack = ap (λ (t : ℤ × ℕ × ℕ). t.1) n.0;
        sweeps = ap (λ (t : ℤ × ℕ × ℕ). t.2) n.0;
      },
      n.1,
    )
