-- A program before any elimination.
use Rattle.std.specs.Prelude.{◌≡◌, ℕ, ◌<◌, length, nat_lt, slice_index_or, false}
use Rattle.lp_cert.specs.Program.{Program, row_at}
use Rattle.lp_core.specs.Lines.{line_at}
use Rattle.lp_core.specs.Reduced.{Reduced}

-- the same rows, and each variable of the dimension is live
pub record IsWhole (p : Program) (q : Reduced) : Type 0 where
  pub three : length q.live ≡ 3
  pub live : (k : ℕ) → k < 3 → slice_index_or q.live k false ≡ nat_lt k p.dimension
  pub count : length q.lines ≡ length p.rows
  pub entries : (l : ℕ) → l < length p.rows → (line_at q.lines l).c ≡ (row_at p l).c
  pub sides : (l : ℕ) → l < length p.rows → (line_at q.lines l).h ≡ (row_at p l).h
