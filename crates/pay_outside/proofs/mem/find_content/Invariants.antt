use Rattle.std.proofs.Common.{◌≡◌, drop}
use Rattle.pay_outside.specs.Memory.{named_bytes, first_content}
use Rattle.pay_outside.proofs.mem.find_content.Given as goal

-- the rest of the files gives the same answer as all of them
abbrev pub invariant-loop-file : goal.invariant-loop-file
invariant-loop-file l =
    first_content (named_bytes (drop l.file-index l.files)) l.name ≡ first_content (named_bytes l.files) l.name
