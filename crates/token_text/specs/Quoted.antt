-- Texts as they are written between quotes.
use Rattle.std.specs.Prelude.{◌≢◌, ℕ, ◌==◌, if◌then◌else◌, List, [], ◌∷◌, ◌++◌}
use Rattle.std.specs.List.{flat_map}

-- a backslash before each quote
abbrev pub escaped : List ℕ → List ℕ
escaped ts = flat_map (λ b. if b == 34 then 92 ∷ 34 ∷ [] else b ∷ []) ts

abbrev pub quoted_text : List ℕ → List ℕ
quoted_text t = 34 ∷ escaped t ++ 34 ∷ []

abbrev pub last_or : ℕ → List ℕ → ℕ
last_or b [] = b
last_or b (c ∷ cs) = last_or c cs

-- A text that can stand between quotes: it doesn't end in a backslash.
abbrev pub IsText : List ℕ → Type 0
IsText t = last_or 34 t ≢ 92
