-- Programs some of whose variables have been eliminated, and what they come to.
use Rattle.std.specs.Prelude.{◌≡◌, ℕ, ◌+◌, ◌*◌, ◌<◌, ◌≤◌, ℤ, pos, negsuc, List, length, slice_index_or, Bool, true, false}
use Rattle.std.specs.Int.RustNames.{unsigned_abs}
use Rattle.lp_cert.specs.Program.{entry, axis}
use Rattle.lp_core.specs.Lines.{IsMet, IsDual, IsNone, along, line_at, all_seen}
use Rattle.lp_core.specs.Sizes.{level, entry_most, side_most, objective_most, den_most, num_most, dual_most, farkas_most, AreAtMost, IsSmallLine, AreFew}
use Rattle.lp_core.specs.declared.reduced.Line.{Line}
use Rattle.lp_core.specs.Reduced.{Reduced}
use Rattle.lp_core.specs.declared.reduced.Optimum.{Optimum}
use Rattle.lp_core.specs.declared.search.Outcome.{Outcome}
use Rattle.lp_core.specs.declared.search.Outcome.TheVariants.{Best, Infeasible}

-- the box of a variable stands at its place
pub record HasBox (lines : List Line) (k : ℕ) : Type 0 where
  pub within : 2 * k + 1 < length lines
  pub upper : (line_at lines (2 * k)).c ≡ axis k (pos 1)
  pub lower : (line_at lines (2 * k + 1)).c ≡ axis k (negsuc 0)

pub record IsReduced (p : Reduced) (o : List ℤ) : Type 0 where
  pub three : length p.live ≡ 3
  pub few : length p.lines ≤ 40
  pub lines : (l : ℕ) → l < length p.lines → IsSmallLine (entry_most (level p.live)) (side_most (level p.live)) (line_at p.lines l)
  pub objective : AreAtMost (objective_most (level p.live)) o
  pub dead : (k : ℕ) → k < 3 → slice_index_or p.live k false ≡ false → (entry o k ≡ pos 0) × ((l : ℕ) → l < length p.lines → entry (line_at p.lines l).c k ≡ pos 0)
  pub boxes : (k : ℕ) → k < 3 → slice_index_or p.live k false ≡ true → HasBox p.lines k

pub record IsBest (seen : ℕ → Bool) (p : Reduced) (o : List ℤ) (b : Optimum) : Type 0 where
  pub met : IsMet seen p.lines b.num b.den
  pub dual : IsDual seen p.lines o b.items (along o b.num) b.den
  pub num : AreAtMost (num_most (level p.live)) b.num
  pub den : unsigned_abs b.den ≤ den_most (level p.live)
  pub few : AreFew (level p.live) (dual_most (level p.live)) b.items

pub record IsEmpty (p : Reduced) (items : List (ℕ × ℤ)) : Type 0 where
  pub none : IsNone all_seen p.lines items
  pub few : AreFew (level p.live + 1) (farkas_most (level p.live)) items

-- an optimum of the rows that were seen, or a proof that nothing meets the rows
abbrev pub IsOutcome : (ℕ → Bool) → Reduced → List ℤ → Outcome → Type 0
IsOutcome seen p o (Best b) = IsBest seen p o b
IsOutcome seen p o (Infeasible items) = IsEmpty p items
