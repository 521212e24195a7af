use Rattle.std.proofs.Common.{◌≡◌, ◌↔◌, ℕ, List, length}
use Rattle.game_files.specs.Loads.{AreLoads, counts_of}
use Rattle.game_files.specs.Files.{AreStages}
use Rattle.game_files.proofs.reading.read_stages.Given as goal

abbrev pub invariant-loop-s : goal.invariant-loop-s
invariant-loop-s g l =
    (length l.games.items ≡ l.s)
    × AreStages (g.S.Shelf.bytes l.fn.shelf) l.dynamic l.games.items
    × AreLoads l.s (counts_of g.S.Shelf.faults g.S.Shelf.overlong g.S.Shelf.loads l.fn.shelf) (counts_of g.S.Shelf.faults g.S.Shelf.overlong g.S.Shelf.loads l.shelf)
    × ((n : List ℕ) → g.S.Shelf.bytes l.shelf n ≡ g.S.Shelf.bytes l.fn.shelf n)
    × ((n : List ℕ) → (g.S.Shelf.may_ask l.shelf n ↔ g.S.Shelf.may_ask l.fn.shelf n))
