-- The canonical text of a game: one blank between tokens, the head on one line, a comment on its own, the payoffs on the last.
use Rattle.std.specs.Prelude.{ℕ, if◌then◌else◌, List, [], ◌∷◌, ◌++◌, codes, decimal, Option, Some, None, pos}
use Rattle.std.specs.List.{flat_map}
use Rattle.std.specs.Fmt.{signed_decimal}
use Rattle.std.specs.Ordering.{int_eq}
use Rattle.pay_frac.specs.Ratio.{Ratio}
use Rattle.token_text.specs.Quoted.{quoted_text}
use Rattle.nfg_text.specs.declared.nfg.Nfg.{Nfg}
use Rattle.nfg_text.specs.declared.nfg.Strategies.{Strategies}
use Rattle.nfg_text.specs.declared.nfg.Strategies.TheVariants.{Counts, Names}

-- `n` or `n/d`
abbrev pub ratio_text : Ratio → List ℕ
ratio_text r = if int_eq r.den (pos 1) then signed_decimal r.num else (signed_decimal r.num ++ 47 ∷ signed_decimal r.den)

-- texts, each behind a blank
abbrev pub names_text : List (List ℕ) → List ℕ
names_text ns = flat_map (λ t. 32 ∷ quoted_text t) ns

abbrev pub counts_text : List ℕ → List ℕ
counts_text ns = flat_map (λ n. 32 ∷ decimal n) ns

-- braces, each behind a blank
abbrev pub braced : List ℕ → List ℕ
braced inner = codes " {" ++ inner ++ codes " }"

abbrev pub strategies_text : Strategies → List ℕ
strategies_text (Counts ns) = braced (counts_text ns)
strategies_text (Names nss) = braced (flat_map (λ ns. braced (names_text ns)) nss)

-- the comment's line, where there is one
abbrev pub comment_text : Option (List ℕ) → List ℕ
comment_text None = []
comment_text (Some t) = quoted_text t ++ 10 ∷ []

-- one blank between numbers
abbrev pub payoffs_text : List Ratio → List ℕ
payoffs_text [] = []
payoffs_text (r ∷ rs) = ratio_text r ++ flat_map (λ r. 32 ∷ ratio_text r) rs

abbrev pub head_text : Nfg → List ℕ
head_text n = codes "NFG 1 R " ++ quoted_text n.title ++ braced (names_text n.players) ++ strategies_text n.strategies ++ 10 ∷ []

abbrev pub canonical : Nfg → List ℕ
canonical n = head_text n ++ comment_text n.comment ++ payoffs_text n.payoffs ++ 10 ∷ []
