-- The transitions whose canonical text is a file that has them: those that a file can have.
use Rattle.std.specs.Prelude.{◌≡◌, ◌<◌, ◌≤◌, ℕ, Bool, true, List, length, All}
use Rattle.std.specs.Str.{is_utf8}
use Rattle.token_text.specs.Quoted.{IsText}
use Rattle.dyn_text.specs.declared.transitions.Dyn.{Dyn}
use Rattle.dyn_text.specs.declared.transitions.DynState.{DynState}

pub record IsState (x : DynState) : Type 0 where
  pub name : IsText x.name
  pub file : IsText x.file
  pub utf8 : is_utf8 x.file ≡ true
  pub next : All (λ n. n ≤ 4294967295) x.next

pub record IsWritable (d : Dyn) : Type 0 where
  pub title : IsText d.title
  pub some : 0 < length d.states
  pub most : length d.states ≤ 64
  pub states : All IsState d.states
