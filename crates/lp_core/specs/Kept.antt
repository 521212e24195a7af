-- Items that add something.
use Rattle.std.specs.Prelude.{ℕ, ℤ, pos, Bool}
use lib.Signed.{lt_z}

abbrev pub is_kept : ℕ × ℤ → Bool
is_kept item = lt_z (pos 0) item.1
