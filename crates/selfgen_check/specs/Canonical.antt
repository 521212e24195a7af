-- The canonical text of a correspondence: a line for its head, for each state an open brace, its entries and a close brace,
-- each on a line, and the close brace on the last. One blank stands between tokens.
use Rattle.std.specs.Prelude.{ℕ, List, ◌∷◌, ◌++◌, codes, decimal, ℤ}
use Rattle.std.specs.List.{flat_map}
use Rattle.pay_frac.specs.Number.{lowest}
use Rattle.nfg_text.specs.Canonical.{ratio_text, counts_text, braced}
use Rattle.game_model.specs.SelfGeneration.{Entry}
use Rattle.selfgen_check.specs.Promises.{Promises}

-- a part in lowest terms, behind a blank
abbrev pub part_text : ℕ → ℤ → List ℕ
part_text common z = 32 ∷ ratio_text (lowest z common)

-- the number of an entry and its weight, each behind a blank
abbrev pub pair_text : ℕ × ℕ → List ℕ
pair_text o = 32 ∷ decimal o.0 ++ 32 ∷ decimal o.1

abbrev pub entry_line : ℕ → Entry → List ℕ
entry_line common e =
    codes "{" ++ braced (flat_map (part_text common) e.point) ++ braced (counts_text e.profile) ++ braced (flat_map pair_text e.lottery)
    ++ braced (counts_text e.punish) ++ codes " }\n"

abbrev pub state_lines : ℕ → List Entry → List ℕ
state_lines common es = codes "{\n" ++ flat_map (entry_line common) es ++ codes "}\n"

abbrev pub canonical : Promises → List ℕ
canonical c = codes "SGC 1 {\n" ++ flat_map (state_lines c.common) c.entries ++ codes "}\n"
