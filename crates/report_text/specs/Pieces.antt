-- What a call that writes a piece of a report appends to the text so far.
use Rattle.std.specs.Prelude.{◌≡◌, ℕ, ◌*◌, ◌++◌, List, [], ◌∷◌, codes, decimal}
use Rattle.std.specs.Fmt.{signed_decimal}
use Rattle.report_text.specs.declared.report.Report.{Report}
use Rattle.report_text.specs.ReportText.{blanked, line, rows_of}

-- The new text is the old one, and behind it one of these texts.
abbrev pub Appends : (List ℕ → Type 0) → List ℕ → List ℕ → Type 0
Appends P old new = (text : List ℕ) × (P text × (new ≡ old ++ text))

-- the same of a word, with a blank before it
abbrev pub AppendsWord : (List ℕ → Type 0) → List ℕ → List ℕ → Type 0
AppendsWord P old new = (w : List ℕ) × (P w × (new ≡ old ++ 32 ∷ w))

-- the same of words, each with a blank before it
abbrev pub AppendsWords : (List (List ℕ) → Type 0) → List ℕ → List ℕ → Type 0
AppendsWords P old new = (words : List (List ℕ)) × (P words × (new ≡ old ++ blanked words))

-- the same of a line of words behind its name
abbrev pub AppendsLine : List ℕ → (List (List ℕ) → Type 0) → List ℕ → List ℕ → Type 0
AppendsLine name P old new = (words : List (List ℕ)) × (P words × (new ≡ old ++ line name words))

-- the lines of the head that tell sizes
abbrev pub sizes_text : Report → List ℕ
sizes_text r =
    line (codes "players") (decimal r.players ∷ [])
    ++ line (codes "states") (decimal r.states ∷ [])
    ++ line (codes "directions") (decimal r.directions ∷ [])

-- the unit, the slack, and how much was run
abbrev pub counts_text : Report → List ℕ
counts_text r =
    line (codes "unit") (signed_decimal r.unit ∷ [])
    ++ line (codes "slack") (decimal r.slack ∷ [])
    ++ line (codes "sweeps") (decimal r.sweeps ∷ [])
    ++ line (codes "solves") (decimal (r.sweeps * rows_of r) ∷ [])
