use Rattle.std.proofs.Common.{◌≡◌, ℕ, List, [], get_or, drop, sym, ap, ◌∙◌, arith, rules, SFits, ℤ}
use Rattle.std.specs.Prelude.{codes}
use Rattle.std.specs.Int.{w64}
use Rattle.std.proofs.lemmas.Int.{ints, to_z-of_z}
use Rattle.std.proofs.lemmas.Bool.{true≢false}
use Rattle.level_table.specs.declared.level.Level.TheVariants.{At}
use Rattle.report_text.proofs.Keywords.{empty_is, level_read}
use Rattle.report_text.proofs.nearest.level_there.Goals as goal

pub returns-then-next_is-clause-read : goal.returns-then-next_is-clause-read
returns-then-next_is-clause-read c = λ l rest small e.
    let w : get_or c.args.words.now 0 [] ≡ codes "empty" = c.next_is.ensures.0 c.if-next_is.true in
    (sym (empty_is l small (sym (ap (λ (ws : List (List ℕ)). get_or ws 0 []) e) ∙ w)), c.skip.ensures ∙ ap (drop 1) e)

pub returns-else-next_is-clause-read : goal.returns-else-next_is-clause-read
returns-else-next_is-clause-read c = λ l rest small e.
    let f : SFits w64 c.level.result = first_of (search rules, search (rules, c.level.ensures.within), omega (arith, ints, c.level.ensures.within)) in
    let q = level_read l rest c.args.words.now c.level.new.self c.level.result small e (λ w. true≢false (sym (c.next_is.ensures.1 w) ∙ c.if-next_is.false)) c.level.ensures.read c.level.ensures.rest in
    (ap (λ (z : ℤ). At z) (to_z-of_z w64 c.level.result f) ∙ q.0, q.1)
