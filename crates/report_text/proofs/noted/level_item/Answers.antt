use Rattle.std.proofs.Common.{◌≡◌, ℕ, List, [], ◌∷◌, get_or, drop, ap, ◌∙◌, arith, rules, SFits}
use Rattle.std.specs.Int.{w64, w128}
use Rattle.std.proofs.lemmas.Int.{ints, to_z-of_z}
use Rattle.std.specs.Fmt.{signed_decimal}
use Rattle.report_text.proofs.Items.{level_same}
use Rattle.report_text.proofs.Sizes.{times_few}
use Rattle.report_text.proofs.noted.level_item.Goals as goal

pub returns-clause-read : goal.returns-clause-read
returns-clause-read c = λ k x times rest lk sx m e.
    let first = λ (ws : List (List ℕ)). get_or ws 0 [] in
    let p : c.small-dir.result ≡ k = c.small-dir.ensures.read k (ap first e) (omega arith) (omega arith) in
    let e1 : c.small-dir.new.self ≡ signed_decimal x ∷ signed_decimal times ∷ rest = c.small-dir.ensures.rest ∙ ap (drop 1) e in
    let q : c.level-level.result ≡ x = c.level-level.ensures.read x (ap first e1) sx.0 sx.1 in
    let e2 : c.level-level.new.self ≡ signed_decimal times ∷ rest = c.level-level.ensures.rest ∙ ap (drop 1) e1 in
    let r : c.whole-times.result ≡ times = c.whole-times.ensures.read times (ap first e2) (times_few times m.0 m.1) m.0 m.1 in
    let f : SFits w64 c.level-level.result = first_of (search rules, search (rules, c.level-level.ensures.within), omega (arith, ints, c.level-level.ensures.within)) in
    let g : SFits w128 c.whole-times.result = first_of (search rules, search (rules, c.whole-times.ensures.within), omega (arith, ints, c.whole-times.ensures.within)) in
    (level_same _ _ _ _ _ _ p (to_z-of_z w64 c.level-level.result f ∙ q) (to_z-of_z w128 c.whole-times.result g ∙ r), c.whole-times.ensures.rest ∙ ap (drop 1) e2)
