use Rattle.std.proofs.Common.{◌≡◌, ◌⊎◌, inl, ℕ, ◌+◌, ◌*◌, ◌%◌, ◌<◌, length, slice_index_or, below_more, sym, ap, subst, arith}
use Rattle.level_table.specs.Problem.{direction_count}
use Rattle.settle_test.specs.Parts.{nothing_found}
use Rattle.settle_test.specs.Verdicts.{IsReadyAt, IsRowVerdict}
use Rattle.settle_test.proofs.Places.{ready_next}
use Rattle.settle_test.proofs.Tested.{place_in, first_place}
use Rattle.settle_test.proofs.parts.test_state.Goals as goal

pub loop-k-init : goal.loop-k-init
loop-k-init c = record {
  room = c.requires.room;
  done = λ j before. absurd (omega (arith, before));
  ready = λ some. inl (first_place c.args.s (direction_count c.args.p.now) some);
}

pub loop-k-preserved : goal.loop-k-preserved
loop-k-preserved c =
    let p = c.args.p.now in
    let t = c.args.levels.now in
    let n = direction_count p in
    let k = c.loop-k.k in
    let s = c.args.s in
    let q = c.test_row.new.part.prepared in
    let inv = c.loop-k.invariant in
    let count : c.directions-count.result ≡ n = c.directions-count.ensures in
    let here : c.args.s * c.directions-count.result + k ≡ s * n + k = ap (λ (m : ℕ). s * m + k) count in
    let within : k < n = omega (arith, count) in
    record {
      room = c.test_row.ensures.room;
      done = λ j. below_more (λ (i : ℕ). IsRowVerdict p t c.args.slack (s * n + i) (slice_index_or c.test_row.new.part.rows i nothing_found)) k
          (λ i before. subst (IsRowVerdict p t c.args.slack (s * n + i)) (sym (c.test_row.ensures.others i (λ e. omega (arith, before, e)))) (inv.done i before))
          (subst (λ (r : ℕ). IsRowVerdict p t c.args.slack r (slice_index_or c.test_row.new.part.rows k nothing_found)) here c.test_row.ensures.here) j;
      ready = λ more.
          let next : (s * n + k) + 1 ≡ s * n + (k + 1) = omega arith in
          subst (λ (r : ℕ). (r % n ≡ 0) ⊎ IsReadyAt p t q r) next
          (ready_next p t q (s * n + k) c.requires.table c.requires.even (place_in p t s k c.requires.table c.requires.state within)
          (subst (IsReadyAt p t q) here c.test_row.ensures.ready)
          (subst (λ (r : ℕ). r < length t.levels) (sym next) (place_in p t s (k + 1) c.requires.table c.requires.state more)));
    }
