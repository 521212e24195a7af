use Rattle.std.proofs.Common.{◌≡◌, ◌++◌, take}
use Rattle.std.specs.List.{flat_map}
use Rattle.nfg_text.specs.Canonical.{braced, names_text}
use Rattle.nfg_text.proofs.writing.lists.Given as goal

abbrev pub invariant-loop-i : goal.invariant-loop-i
invariant-loop-i l = l.out ≡ l.initial.out ++ flat_map (λ ns. braced (names_text ns)) (take l.i l.lists)
