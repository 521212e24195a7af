-- The program without the variable of a row that has become an equation.
use Rattle.std.specs.Prelude.{◌≡◌, ◌≢◌, ℕ, ◌<◌, ℤ, List, [], ◌∷◌, length, map, min, max, Bool, true, false, cond, slice_index_or, slice_set}
use Rattle.std.specs.List.{range_with_len}
use Rattle.exact_algebra.specs.Normal.{is_nought}
use Rattle.lp_cert.specs.Program.{entry}
use Rattle.lp_core.specs.declared.reduced.Line.{Line}
use Rattle.lp_core.specs.declared.pivot.Pivot.{Pivot}
use Rattle.lp_core.specs.Bounds.{left_entry, left_objective, left_side}
use Rattle.lp_core.specs.Elimination.{source_of}
use Rattle.lp_core.specs.Lines.{line_at}
use Rattle.lp_core.specs.Reduced.{Reduced}

-- a row without the variable
unfoldable pub eliminated : Pivot → Line → Line
eliminated p x = cond (is_nought (entry x.c p.place)) x (record { c = left_entry p x 0 ∷ left_entry p x 1 ∷ left_entry p x 2 ∷ []; h = left_side p x })

abbrev pub source_line : Pivot → Reduced → ℕ → ℕ → Line
source_line p P r l = eliminated p (line_at P.lines (source_of p P.live r l))

-- the rows that were seen before row r, in the variables that are left
unfoldable pub smaller : Pivot → Reduced → ℕ → Reduced
smaller p P r = record { live = slice_set P.live p.place false; lines = map (source_line p P r) (range_with_len 0 (min (length P.lines) (max r 6))) }

unfoldable pub rest_of : Pivot → List ℤ → List ℤ
rest_of p o = left_objective p o 0 ∷ left_objective p o 1 ∷ left_objective p o 2 ∷ []

-- the only other variable that is left
pub record IsOther (live : List Bool) (place k : ℕ) : Type 0 where
  pub inside : k < 3
  pub apart : k ≢ place
  pub stays : slice_index_or live k false ≡ true
  pub lone : (i : ℕ) → i < 3 → i ≢ k → i ≢ place → slice_index_or live i false ≡ false
