use Rattle.std.proofs.Common.{◌≡◌, ◌^◌, ◌≤◌, sym, subst, lit<, arith, pos, ◌-ℤ◌}
use Rattle.std.specs.Prelude.{◌+ℤ◌, ◌≤ℤ◌, ◌<ℤ◌, None, Some}
use Rattle.std.specs.Int.RustNames.{unsigned_abs}
use Rattle.std.proofs.lemmas.Int.{ints}
use Rattle.game_model.specs.Game.{successor}
use Rattle.level_table.specs.declared.level.Level.TheVariants.{At}
use Rattle.level_table.specs.Levels.{levels_in}
use Rattle.level_table.specs.Problem.{minus_axis, plus_axis}
use Rattle.set_operator.specs.Boxes.{IsSource}
use Rattle.set_operator.specs.Lines.{worth}
use Rattle.set_operator.proofs.LineLemmas.{IsFormed, formed, least_by_no_more, less_by_more, lower_code, lower_fits, lower_small, more_fits, more_is, side_by_level, side_by_line}
use Rattle.set_operator.proofs.Scales.{W, kept}
use Rattle.set_operator.proofs.sides.side_by.Goals as goal

pub overflow_sub-more : goal.overflow_sub-more
overflow_sub-more c =
    let p = c.args.p.now in
    let t = levels_in c.args.levels.now in
    let s = c.args.state in
    let a = c.args.profile in
    let i = c.args.i in
    let asks = c.args.asks.now in
    let w = c.finite-level.result in
    let level : t (successor p.game s a) (minus_axis i) ≡ At w = subst (λ m. t m (minus_axis i) ≡ At w) c.requires.next c.finite-level.ensures.value in
    let h : IsFormed asks.own asks.line.least w (worth p s a i) = formed p t s a i asks.own w asks.line c.rules.ensures c.requires.opening c.requires.state c.requires.profile c.requires.player c.requires.line c.requires.own level c.finite-level.ensures.small in
    more_fits asks.own asks.line.least w (worth p s a i) h

pub overflow_sub-result : goal.overflow_sub-result
overflow_sub-result c =
    let p = c.args.p.now in
    let t = levels_in c.args.levels.now in
    let s = c.args.state in
    let a = c.args.profile in
    let i = c.args.i in
    let asks = c.args.asks.now in
    let w = c.finite-level.result in
    let level : t (successor p.game s a) (minus_axis i) ≡ At w = subst (λ m. t m (minus_axis i) ≡ At w) c.requires.next c.finite-level.ensures.value in
    let h : IsFormed asks.own asks.line.least w (worth p s a i) = formed p t s a i asks.own w asks.line c.rules.ensures c.requires.opening c.requires.state c.requires.profile c.requires.player c.requires.line c.requires.own level c.finite-level.ensures.small in
    lower_fits asks.own asks.line.least w (worth p s a i) h

pub returns-then-more-gt0 : goal.returns-then-more-gt0
returns-then-more-gt0 c =
    let p = c.args.p.now in
    let t = levels_in c.args.levels.now in
    let s = c.args.state in
    let a = c.args.profile in
    let i = c.args.i in
    let asks = c.args.asks.now in
    let w = c.finite-level.result in
    let level : t (successor p.game s a) (minus_axis i) ≡ At w = subst (λ m. t m (minus_axis i) ≡ At w) c.requires.next c.finite-level.ensures.value in
    let h : IsFormed asks.own asks.line.least w (worth p s a i) = formed p t s a i asks.own w asks.line c.rules.ensures c.requires.opening c.requires.state c.requires.profile c.requires.player c.requires.line c.requires.own level c.finite-level.ensures.small in
    let u = c.finite-upper.result in
    let above : t (successor p.game s a) (plus_axis i) ≡ At (W u) = subst (λ z. t (successor p.game s a) (plus_axis i) ≡ At z) (sym (kept u (2 ^ 50) c.finite-upper.ensures.small (lit< tt))) (subst (λ m. t m (plus_axis i) ≡ At u) c.requires.next c.finite-upper.ensures.value) in
    let upper_small : unsigned_abs (W u) ≤ 2 ^ 50 = rw (kept u (2 ^ 50) c.finite-upper.ensures.small (lit< tt)) c.finite-upper.ensures.small in
    let code : W (W w -ℤ W (W asks.own -ℤ W asks.line.least)) ≡ asks.line.least +ℤ worth p s a i = lower_code asks.own asks.line.least w (worth p s a i) h in
    let more : pos 0 <ℤ (asks.own -ℤ asks.line.least) = let d : pos 0 <ℤ W (W asks.own -ℤ W asks.line.least) = omega (arith, ints, c.if-more-gt0.true) in subst (λ z. pos 0 <ℤ z) (more_is asks.own asks.line.least w (worth p s a i) h) d in
    let less : (asks.line.least +ℤ worth p s a i) <ℤ w = less_by_more asks.own asks.line.least w (worth p s a i) h.own_is more in
    record {
      upper = above;
      source = subst (λ z. IsSource p t s a i z (Some asks.line.first)) (sym code) (side_by_line p t s a i asks.line w c.rules.ensures c.requires.state c.requires.profile c.requires.player c.requires.line level less);
      upper_small = upper_small;
      lower_small = rw code (lower_small asks.own asks.line.least w (worth p s a i) h);
    }

pub returns-else-more-gt0 : goal.returns-else-more-gt0
returns-else-more-gt0 c =
    let p = c.args.p.now in
    let t = levels_in c.args.levels.now in
    let s = c.args.state in
    let a = c.args.profile in
    let i = c.args.i in
    let asks = c.args.asks.now in
    let w = c.finite-level.result in
    let level : t (successor p.game s a) (minus_axis i) ≡ At w = subst (λ m. t m (minus_axis i) ≡ At w) c.requires.next c.finite-level.ensures.value in
    let h : IsFormed asks.own asks.line.least w (worth p s a i) = formed p t s a i asks.own w asks.line c.rules.ensures c.requires.opening c.requires.state c.requires.profile c.requires.player c.requires.line c.requires.own level c.finite-level.ensures.small in
    let u = c.finite-upper.result in
    let above : t (successor p.game s a) (plus_axis i) ≡ At (W u) = subst (λ z. t (successor p.game s a) (plus_axis i) ≡ At z) (sym (kept u (2 ^ 50) c.finite-upper.ensures.small (lit< tt))) (subst (λ m. t m (plus_axis i) ≡ At u) c.requires.next c.finite-upper.ensures.value) in
    let upper_small : unsigned_abs (W u) ≤ 2 ^ 50 = rw (kept u (2 ^ 50) c.finite-upper.ensures.small (lit< tt)) c.finite-upper.ensures.small in
    let is : W w ≡ w = kept w (2 ^ 50) c.finite-level.ensures.small (lit< tt) in
    let no_more : (asks.own -ℤ asks.line.least) ≤ℤ pos 0 = let d : W (W asks.own -ℤ W asks.line.least) ≤ℤ pos 0 = omega (arith, ints, c.if-more-gt0.false) in subst (λ z. z ≤ℤ pos 0) (more_is asks.own asks.line.least w (worth p s a i) h) d in
    record {
      upper = above;
      source = subst (λ z. IsSource p t s a i z None) (sym is) (side_by_level p t s a i asks.line w c.requires.line level (least_by_no_more asks.own asks.line.least w (worth p s a i) h.own_is no_more));
      upper_small = upper_small;
      lower_small = rw is (let small : unsigned_abs w ≤ 2 ^ 50 = c.finite-level.ensures.small in omega (arith, small));
    }
