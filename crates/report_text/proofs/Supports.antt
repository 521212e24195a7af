-- Supports that are read one after another, in the order of the rows that have a level.
use Rattle.std.proofs.Common.{◌≡◌, ℕ, ◌+◌, ◌<◌, ◌≤◌, List, [], ◌∷◌, ◌++◌, length, get_or, drop, take, refl, sym, ap, subst, ◌∙◌, arith, append_assoc, ℤ}
use Rattle.std.proofs.lemmas.List.{append-nil, drop_all, drop_more, length-take-le, take_more}
use Rattle.level_table.specs.declared.level.Level.{Level}
use Rattle.level_table.specs.declared.level.Level.TheVariants.{Empty, At}
use Rattle.set_operator.specs.declared.row.Support.{Support}
use Rattle.report_text.specs.declared.rules.Sizes.{Sizes}
use Rattle.report_text.specs.Reading.{BeginWithSupports, BeginsWithSupport}
use Rattle.report_text.specs.Rules.{AreSameSupports, AreSupports, IsSameSupport, IsShortSupport}

-- ---- what is kept
empty_more : (players row : ℕ) (ls : List Level) (ss : List Support) → AreSupports players row ls ss → AreSupports players row (ls ++ Empty ∷ []) ss
empty_more players row [] [] h = tt
empty_more players row [] (s ∷ ss) h = absurd h
empty_more players row (Empty ∷ ls) ss h = empty_more players (row + 1) ls ss h
empty_more players row (At x ∷ ls) [] h = absurd h
empty_more players row (At x ∷ ls) (s ∷ ss) h = (h.0, empty_more players (row + 1) ls ss h.1)

number_more : (players row at : ℕ) (x : ℤ) (ls : List Level) (ss : List Support) (s : Support) → row + length ls ≡ at → AreSupports players row ls ss → IsShortSupport players at s
    → AreSupports players row (ls ++ At x ∷ []) (ss ++ s ∷ [])
number_more players row at x [] [] s e h k = let same : at ≡ row = omega arith in (subst (λ (n : ℕ). IsShortSupport players n s) same k, tt)
number_more players row at x [] (t ∷ ss) s e h k = absurd h
number_more players row at x (Empty ∷ ls) ss s e h k = number_more players (row + 1) at x ls ss s (omega arith) h k
number_more players row at x (At y ∷ ls) [] s e h k = absurd h
number_more players row at x (At y ∷ ls) (t ∷ ss) s e h k = (h.0, number_more players (row + 1) at x ls ss s (omega arith) h.1 k)

-- the rows below the next one, where this one has no level
pub rows_more_empty : (players row : ℕ) (ls : List Level) (ss : List Support) → row < length ls → get_or ls row Empty ≡ Empty → AreSupports players 0 (take row ls) ss → AreSupports players 0 (take (row + 1) ls) ss
rows_more_empty players row ls ss l e h =
    subst (λ (xs : List Level). AreSupports players 0 xs ss) (sym (take_more ls row Empty l ∙ ap (λ (x : Level). take row ls ++ x ∷ []) e)) (empty_more players 0 (take row ls) ss h)

some_number : (l : Level) → (l ≡ Empty → ⊥) → (x : ℤ) × (l ≡ At x)
some_number Empty h = absurd (h refl)
some_number (At x) h = (x, refl)

pub rows_more : (players row : ℕ) (ls : List Level) (ss : List Support) (s : Support) → row < length ls → (get_or ls row Empty ≡ Empty → ⊥) → AreSupports players 0 (take row ls) ss → IsShortSupport players row s
    → AreSupports players 0 (take (row + 1) ls) (ss ++ s ∷ [])
rows_more players row ls ss s l other h k =
    let x = some_number (get_or ls row Empty) other in
    let size : 0 + length (take row ls) ≡ row = omega (arith, length-take-le row ls (omega arith)) in
    subst (λ (xs : List Level). AreSupports players 0 xs (ss ++ s ∷ [])) (sym (take_more ls row Empty l ∙ ap (λ (y : Level). take row ls ++ y ∷ []) x.1))
    (number_more players 0 row x.0 (take row ls) ss s size h k)

-- ---- what is read
same_more : (players : ℕ) (ss ts : List Support) (s t : Support) → AreSameSupports players ss ts → IsSameSupport players s t → AreSameSupports players (ss ++ s ∷ []) (ts ++ t ∷ [])
same_more players [] [] s t h k = (k, tt)
same_more players [] (y ∷ ts) s t h k = absurd h
same_more players (x ∷ ss) [] s t h k = absurd h
same_more players (x ∷ ss) (y ∷ ts) s t h k = (h.0, same_more players ss ts s t h.1 k)

-- The supports that are left from this row on, where these are taken: they are the same as the first ones of the list.
pub record LeftSupports (z : Sizes) (ls : List Level) (list taken : List Support) (row : ℕ) (rest words : List (List ℕ)) : Type 0 where
  pub passed : List Support
  pub left : List Support
  pub together : passed ++ left ≡ list
  pub same : AreSameSupports z.players passed taken
  pub keep : AreSupports z.players row (drop row ls) left
  pub begin : BeginWithSupports z left words rest

pub supports_all_left : (z : Sizes) (ls : List Level) (list : List Support) (rest words : List (List ℕ)) → AreSupports z.players 0 ls list → BeginWithSupports z list words rest → LeftSupports z ls list [] 0 rest words
supports_all_left z ls list rest words k b = record { passed = []; left = list; together = refl; same = tt; keep = k; begin = b }

keep_at : (players row : ℕ) (ls : List Level) (left : List Support) (l : Level) → row < length ls → get_or ls row Empty ≡ l → AreSupports players row (drop row ls) left → AreSupports players row (l ∷ drop (row + 1) ls) left
keep_at players row ls left l p e h = subst (λ (xs : List Level). AreSupports players row xs left) (drop_more ls row Empty p ∙ ap (λ (x : Level). x ∷ drop (row + 1) ls) e) h

pub row_passed : (z : Sizes) (ls : List Level) (list taken : List Support) (row : ℕ) (rest words : List (List ℕ)) → row < length ls → get_or ls row Empty ≡ Empty → LeftSupports z ls list taken row rest words
    → LeftSupports z ls list taken (row + 1) rest words
row_passed z ls list taken row rest words l e h =
    record { passed = h.passed; left = h.left; together = h.together; same = h.same; keep = keep_at z.players row ls h.left Empty l e h.keep; begin = h.begin }

-- what is read of a support's words
abbrev pub ReadsSupport : Sizes → ℕ → List (List ℕ) → Support → List (List ℕ) → Type 0
ReadsSupport z row words result behind =
    (s : Support) (rest : List (List ℕ)) → IsShortSupport z.players row s → BeginsWithSupport z s words rest → IsSameSupport z.players s result × (behind ≡ rest)

take_support : (z : Sizes) (ls : List Level) (list taken passed left : List Support) (row : ℕ) (rest words behind : List (List ℕ)) (x : ℤ) (result : Support)
    → passed ++ left ≡ list → AreSameSupports z.players passed taken → AreSupports z.players row (At x ∷ drop (row + 1) ls) left → BeginWithSupports z left words rest
    → ReadsSupport z row words result behind → LeftSupports z ls list (taken ++ result ∷ []) (row + 1) rest behind
take_support z ls list taken passed [] row rest words behind x result t s k b read = absurd k
take_support z ls list taken passed (y ∷ ys) row rest words behind x result t s k b read =
    let r = read y b.0 k.0 b.1 in
    record {
      passed = passed ++ y ∷ [];
      left = ys;
      together = append_assoc passed (y ∷ []) ys ∙ t;
      same = same_more z.players passed taken y result s r.0;
      keep = k.1;
      begin = subst (λ (ws : List (List ℕ)). BeginWithSupports z ys ws rest) (sym r.1) b.2;
    }

pub support_taken : (z : Sizes) (ls : List Level) (list taken : List Support) (row : ℕ) (rest words behind : List (List ℕ)) (result : Support) → row < length ls → (get_or ls row Empty ≡ Empty → ⊥)
    → LeftSupports z ls list taken row rest words → ReadsSupport z row words result behind → LeftSupports z ls list (taken ++ result ∷ []) (row + 1) rest behind
support_taken z ls list taken row rest words behind result l other h read =
    let x = some_number (get_or ls row Empty) other in
    take_support z ls list taken h.passed h.left row rest words behind x.0 result h.together h.same (keep_at z.players row ls h.left (At x.0) l x.1 h.keep) h.begin read

no_more : (z : Sizes) (row : ℕ) (list taken passed left : List Support) (rest words : List (List ℕ)) → passed ++ left ≡ list → AreSameSupports z.players passed taken → AreSupports z.players row [] left
    → BeginWithSupports z left words rest → AreSameSupports z.players list taken × (words ≡ rest)
no_more z row list taken passed [] rest words t s k b = (subst (λ (ss : List Support). AreSameSupports z.players ss taken) (sym (append-nil passed) ∙ t) s, b)
no_more z row list taken passed (y ∷ ys) rest words t s k b = absurd k

pub supports_end : (z : Sizes) (ls : List Level) (list taken : List Support) (row : ℕ) (rest words : List (List ℕ)) → length ls ≤ row → LeftSupports z ls list taken row rest words
    → AreSameSupports z.players list taken × (words ≡ rest)
supports_end z ls list taken row rest words l h =
    no_more z row list taken h.passed h.left rest words h.together h.same (subst (λ (xs : List Level). AreSupports z.players row xs h.left) (drop_all row ls l) h.keep) h.begin

pub empty_no_number : (x : ℤ) → At x ≡ Empty → ⊥
empty_no_number x e = cc
