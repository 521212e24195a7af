-- A game in strategic form as the transitions of one state.
use Rattle.std.specs.Prelude.{◌/◌, [], ◌∷◌, length, replicate}
use Rattle.nfg_text.specs.declared.nfg.Nfg.{Nfg}
use Rattle.dyn_text.specs.declared.transitions.Dyn.{Dyn}

-- one state without names; a profile has two payoffs, and state 0 follows it
abbrev pub single_of : Nfg → Dyn
single_of n = record { title = []; states = record { name = []; file = []; next = replicate (length n.payoffs / 2) 0 } ∷ [] }
