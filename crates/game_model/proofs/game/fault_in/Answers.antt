-- the lists of the state are those of the parts
use Rattle.std.proofs.Common.{ℕ, ◌<◌, ◌≤◌, length, get_or, List, subst, sym, ◌∙◌}
use Rattle.game_model.proofs.Lists.{inner_at}
use Rattle.game_model.proofs.Faults.{same_fault}
use Rattle.game_model.proofs.game.fault_in.Goals as goal

pub list_fault-requires-clause-small : goal.list_fault-requires-clause-small
list_fault-requires-clause-small c =
    let here = inner_at c.args.parts.now.strategies.items c.args.s c.index.result.now c.requires.known c.index.ensures in
    let P : List ℕ → Type 0 = λ xs. (j : ℕ) → j < length xs → get_or xs j 0 ≤ 16 in
    subst P (here ∙ sym c.deref.ensures.value) c.requires.small

pub returns-clause-first : goal.returns-clause-first
returns-clause-first c =
    c.list_fault.ensures.first
    ∙ rw (c.len.ensures, c.deref.ensures.value, c.len-2.ensures, c.deref-2.ensures.value)
    (same_fault c.args.parts.now c.args.s c.index.result.now c.index-3.result.now c.index-2.result.now c.requires.payoffs c.requires.next c.requires.known c.index.ensures c.index-2.ensures c.index-3.ensures)
