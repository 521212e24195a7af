use Rattle.std.proofs.Common.{◌++◌, ◌/◌, ap, ◌∙◌}
use Rattle.std.proofs.lemmas.Nat.Gcd.{dvd_trans}
use Rattle.hull_weights.specs.LowestTerms.{item_of}
use Rattle.hull_weights.proofs.Lowest.{lowest, divisor_positive}
use Rattle.hull_weights.proofs.lowest_terms.lowest_terms.Goals as goal

pub nonzero_div-low : goal.nonzero_div-low
nonzero_div-low c = divisor_positive _ _ c.gcd-divisor.ensures.1 c.requires.last_counts

pub nonzero_div-high : goal.nonzero_div-high
nonzero_div-high c = divisor_positive _ _ c.gcd-divisor.ensures.1 c.requires.last_counts

pub nonzero_div-last : goal.nonzero_div-last
nonzero_div-last c = divisor_positive _ _ c.gcd-divisor.ensures.1 c.requires.last_counts

pub returns : goal.returns
returns c =
    let both = c.gcd.ensures in
    let all = c.gcd-divisor.ensures in
    let divisor = c.gcd-divisor.result in
    lowest divisor c.args.low.0 c.args.high.0 c.args.last.0 c.args.low.1 c.args.high.1 c.args.last.1 _
    (dvd_trans divisor all.0 both.0) (dvd_trans divisor all.0 both.1) all.1
    (λ d h k l. all.2 d (both.2 d h k) l)
    c.requires.last_counts c.requires.low_before c.requires.high_before c.requires.low_first
    c.requires.low_small c.requires.high_small c.requires.last_small
    (c.push_if_positive-3.ensures
    ∙ ap (λ xs. xs ++ item_of c.args.last.0 (c.args.last.1 / divisor)) c.push_if_positive-2.ensures
    ∙ ap (λ xs. xs ++ item_of c.args.high.0 (c.args.high.1 / divisor) ++ item_of c.args.last.0 (c.args.last.1 / divisor)) c.push_if_positive.ensures
    ∙ ap (λ xs. xs ++ item_of c.args.low.0 (c.args.low.1 / divisor) ++ item_of c.args.high.0 (c.args.high.1 / divisor) ++ item_of c.args.last.0 (c.args.last.1 / divisor)) c.new-items.ensures)
