-- The canonical text of a transition file: a line for the title, one for each state, and the close brace on the last.
use Rattle.std.specs.Prelude.{ℕ, List, ◌∷◌, ◌++◌, codes}
use Rattle.std.specs.List.{flat_map}
use Rattle.token_text.specs.Quoted.{quoted_text}
use Rattle.nfg_text.specs.Canonical.{counts_text, braced}
use Rattle.dyn_text.specs.declared.transitions.Dyn.{Dyn}
use Rattle.dyn_text.specs.declared.transitions.DynState.{DynState}

abbrev pub state_line : DynState → List ℕ
state_line x = codes "{ " ++ quoted_text x.name ++ 32 ∷ quoted_text x.file ++ braced (counts_text x.next) ++ codes " }\n"

abbrev pub canonical : Dyn → List ℕ
canonical d = codes "DYN 1 " ++ quoted_text d.title ++ codes " {\n" ++ flat_map state_line d.states ++ codes "}\n"
