-- Items, reasons and notes that are read one after another: those that are taken, and those that are left.
use Rattle.std.proofs.Common.{◌≡◌, ℕ, ◌+◌, ◌<◌, ◌≤◌, List, [], ◌∷◌, ◌++◌, length, get_or, refl, sym, ap, subst, ◌∙◌, arith, append_assoc}
use Rattle.std.specs.Prelude.{codes, decimal}
use Rattle.std.proofs.lemmas.List.{append-nil, length-append, length_push}
use Rattle.level_table.specs.declared.reason.Item.{Item}
use Rattle.level_table.specs.declared.reason.Item.TheVariants as items
use Rattle.level_table.specs.declared.reason.Reason.{Reason}
use Rattle.report_text.specs.declared.rules.Sizes.{Sizes}
use Rattle.report_text.specs.ReportText.{item_words, items_words, reason_words}
use Rattle.report_text.specs.Reading.{EndsItems, EndsReasons, whys_words}
use Rattle.report_text.specs.Rules.{KeepItems, KeepReasons, KeepsItem, KeepsReason}
use Rattle.report_text.proofs.Items.{firsts, level_words, gain_words}

-- ---- items
-- an item's words begin with its name
item_begins : (z : Sizes) (item : Item) (rest : List (List ℕ)) → KeepsItem z item → EndsItems (item_words item ++ rest) → ⊥
item_begins z (items.Level k x times) rest h e = e.no_level (ap (λ (ws : List (List ℕ)). get_or (ws ++ rest) 0 []) (level_words k x times h.2.0))
item_begins z (items.Gain i b x times) rest h e = e.no_gain (ap (λ (ws : List (List ℕ)). get_or (ws ++ rest) 0 []) (gain_words i b x times h.3.0))

-- the items that are left, where these are taken
pub record LeftItems (z : Sizes) (list taken : List Item) (rest words : List (List ℕ)) : Type 0 where
  pub left : List Item
  pub together : taken ++ left ≡ list
  pub keep : KeepItems z left
  pub words_are : words ≡ items_words left ++ rest

-- what is read of an item's words
abbrev pub ReadsItem : Sizes → List (List ℕ) → Item → List (List ℕ) → Type 0
ReadsItem z words result behind = (i : Item) (rest : List (List ℕ)) → KeepsItem z i → words ≡ item_words i ++ rest → (result ≡ i) × (behind ≡ rest)

pub items_all_left : (z : Sizes) (list : List Item) (rest words : List (List ℕ)) → KeepItems z list → words ≡ items_words list ++ rest → LeftItems z list [] rest words
items_all_left z list rest words k e = record { left = list; together = refl; keep = k; words_are = e }

take_item : (z : Sizes) (list taken left : List Item) (rest words behind : List (List ℕ)) (result : Item) → (0 < length left) → taken ++ left ≡ list → KeepItems z left → words ≡ items_words left ++ rest
    → ReadsItem z words result behind → LeftItems z list (taken ++ result ∷ []) rest behind
take_item z list taken [] rest words behind result l t k e read = absurd (omega arith)
take_item z list taken (x ∷ xs) rest words behind result l t k e read =
    let r = read x (items_words xs ++ rest) k.0 (e ∙ append_assoc (item_words x) (items_words xs) rest) in
    record {
      left = xs;
      together = append_assoc taken (result ∷ []) xs ∙ ap (λ (i : Item). taken ++ i ∷ xs) r.0 ∙ t;
      keep = k.1;
      words_are = r.1;
    }

some_left : (z : Sizes) (left : List Item) (rest words : List (List ℕ)) → words ≡ items_words left ++ rest → EndsItems rest → (EndsItems words → ⊥) → 0 < length left
some_left z [] rest words e end more = absurd (more (subst EndsItems (sym e) end))
some_left z (x ∷ xs) rest words e end more = omega arith

pub item_taken : (z : Sizes) (list taken : List Item) (rest words behind : List (List ℕ)) (result : Item) → LeftItems z list taken rest words → EndsItems rest → (EndsItems words → ⊥)
    → ReadsItem z words result behind → LeftItems z list (taken ++ result ∷ []) rest behind
item_taken z list taken rest words behind result h end more read =
    take_item z list taken h.left rest words behind result (some_left z h.left rest words h.words_are end more) h.together h.keep h.words_are read

pub first_item : (z : Sizes) (list : List Item) (rest words behind : List (List ℕ)) (result : Item) → 1 ≤ length list → KeepItems z list → words ≡ items_words list ++ rest
    → ReadsItem z words result behind → LeftItems z list (result ∷ []) rest behind
first_item z list rest words behind result l k e read = take_item z list [] list rest words behind result l refl k e read

none_left : (z : Sizes) (taken left list : List Item) (rest words : List (List ℕ)) → taken ++ left ≡ list → KeepItems z left → words ≡ items_words left ++ rest → EndsItems words → (taken ≡ list) × (words ≡ rest)
none_left z taken [] list rest words t k e end = (sym (append-nil taken) ∙ t, e)
none_left z taken (x ∷ xs) list rest words t k e end =
    absurd (item_begins z x (items_words xs ++ rest) k.0 (subst EndsItems (e ∙ append_assoc (item_words x) (items_words xs) rest) end))

pub items_end : (z : Sizes) (list taken : List Item) (rest words : List (List ℕ)) → LeftItems z list taken rest words → EndsItems words → (taken ≡ list) × (words ≡ rest)
items_end z list taken rest words h end = none_left z taken h.left list rest words h.together h.keep h.words_are end

full : (z : Sizes) (taken left list : List Item) (rest words : List (List ℕ)) → taken ++ left ≡ list → length list ≤ length taken → words ≡ items_words left ++ rest → (taken ≡ list) × (words ≡ rest)
full z taken [] list rest words t l e = (sym (append-nil taken) ∙ t, e)
full z taken (x ∷ xs) list rest words t l e = absurd (omega (arith, length-append taken (x ∷ xs), ap length t))

pub items_full : (z : Sizes) (list taken : List Item) (rest words : List (List ℕ)) → LeftItems z list taken rest words → length list ≤ length taken → (taken ≡ list) × (words ≡ rest)
items_full z list taken rest words h l = full z taken h.left list rest words h.together l h.words_are

pub keep_more : (z : Sizes) (taken : List Item) (item : Item) → KeepItems z taken → KeepsItem z item → KeepItems z (taken ++ item ∷ [])
keep_more z [] item h k = (k, tt)
keep_more z (x ∷ xs) item h k = (h.0, keep_more z xs item h.1 k)

-- ---- reasons
why_no_level : codes "why" ≡ codes "level" → ⊥
why_no_level w = let f = firsts 119 108 (codes "hy") (codes "evel") w in omega (arith, f)

why_no_gain : codes "why" ≡ codes "gain" → ⊥
why_no_gain w = let f = firsts 119 103 (codes "hy") (codes "ain") w in omega (arith, f)

-- a certificate ends before the next reason
reason_ends : (s a : ℕ) (left : List Reason) (rest : List (List ℕ)) → EndsReasons rest → EndsItems (whys_words s a left ++ rest)
reason_ends s a [] rest end = end.no_item
reason_ends s a (x ∷ xs) rest end = record { no_level = why_no_level; no_gain = why_no_gain }

-- the reasons that are left, where these are taken
pub record LeftReasons (z : Sizes) (s : ℕ) (list taken : List Reason) (rest words : List (List ℕ)) : Type 0 where
  pub left : List Reason
  pub together : taken ++ left ≡ list
  pub keep : KeepReasons z left
  pub words_are : words ≡ whys_words s (length taken) left ++ rest

-- what is read of a reason's words
abbrev pub ReadsReason : Sizes → List (List ℕ) → Reason → List (List ℕ) → Type 0
ReadsReason z words result behind =
    (s a : List ℕ) (r : Reason) (rest : List (List ℕ)) → KeepsReason z r → EndsItems rest → words ≡ codes "why" ∷ s ∷ a ∷ (reason_words r ++ rest) → (result ≡ r) × (behind ≡ rest)

pub reasons_all_left : (z : Sizes) (s : ℕ) (list : List Reason) (rest words : List (List ℕ)) → KeepReasons z list → words ≡ whys_words s 0 list ++ rest → LeftReasons z s list [] rest words
reasons_all_left z s list rest words k e = record { left = list; together = refl; keep = k; words_are = e }

take_reason : (z : Sizes) (s : ℕ) (list taken left : List Reason) (rest words behind : List (List ℕ)) (result : Reason) → 0 < length left → taken ++ left ≡ list → KeepReasons z left
    → words ≡ whys_words s (length taken) left ++ rest → EndsReasons rest → ReadsReason z words result behind → LeftReasons z s list (taken ++ result ∷ []) rest behind
take_reason z s list taken [] rest words behind result l t k e end read = absurd (omega arith)
take_reason z s list taken (x ∷ xs) rest words behind result l t k e end read =
    let a = length taken in
    let next : a + 1 ≡ length (taken ++ result ∷ []) = sym (length_push taken result) in
    let r = read (decimal s) (decimal a) x (whys_words s (a + 1) xs ++ rest) k.0 (reason_ends s (a + 1) xs rest end)
    (e ∙ ap (λ (t : List (List ℕ)). codes "why" ∷ decimal s ∷ decimal a ∷ t) (append_assoc (reason_words x) (whys_words s (a + 1) xs) rest)) in
    record {
      left = xs;
      together = append_assoc taken (result ∷ []) xs ∙ ap (λ (i : Reason). taken ++ i ∷ xs) r.0 ∙ t;
      keep = k.1;
      words_are = r.1 ∙ ap (λ (n : ℕ). whys_words s n xs ++ rest) next;
    }

some_reason : (s a : ℕ) (left : List Reason) (rest words : List (List ℕ)) → words ≡ whys_words s a left ++ rest → EndsReasons rest → get_or words 0 [] ≡ codes "why" → 0 < length left
some_reason s a [] rest words e end more = absurd (end.no_why (sym (ap (λ (ws : List (List ℕ)). get_or ws 0 []) e) ∙ more))
some_reason s a (x ∷ xs) rest words e end more = omega arith

-- where the next word says that there is one
pub reason_taken : (z : Sizes) (s : ℕ) (list taken : List Reason) (rest words behind : List (List ℕ)) (result : Reason) → LeftReasons z s list taken rest words → EndsReasons rest
    → get_or words 0 [] ≡ codes "why" → ReadsReason z words result behind → LeftReasons z s list (taken ++ result ∷ []) rest behind
reason_taken z s list taken rest words behind result h end more read =
    take_reason z s list taken h.left rest words behind result (some_reason s (length taken) h.left rest words h.words_are end more) h.together h.keep h.words_are end read

not_all_taken : (taken left list : List Reason) → taken ++ left ≡ list → length taken < length list → 0 < length left
not_all_taken taken [] list t l = absurd (omega (arith, ap length (sym (append-nil taken) ∙ t)))
not_all_taken taken (x ∷ xs) list t l = omega arith

-- where fewer are taken than there are
pub reason_counted : (z : Sizes) (s : ℕ) (list taken : List Reason) (rest words behind : List (List ℕ)) (result : Reason) → LeftReasons z s list taken rest words → EndsReasons rest
    → length taken < length list → ReadsReason z words result behind → LeftReasons z s list (taken ++ result ∷ []) rest behind
reason_counted z s list taken rest words behind result h end l read =
    take_reason z s list taken h.left rest words behind result (not_all_taken taken h.left list h.together l) h.together h.keep h.words_are end read

no_reason : (s a : ℕ) (taken left list : List Reason) (rest words : List (List ℕ)) → taken ++ left ≡ list → words ≡ whys_words s a left ++ rest → (get_or words 0 [] ≡ codes "why" → ⊥) → taken ≡ list
no_reason s a taken [] list rest words t e other = sym (append-nil taken) ∙ t
no_reason s a taken (x ∷ xs) list rest words t e other = absurd (other (ap (λ (ws : List (List ℕ)). get_or ws 0 []) e))

pub reasons_end : (z : Sizes) (s : ℕ) (list taken : List Reason) (rest words : List (List ℕ)) → LeftReasons z s list taken rest words → (get_or words 0 [] ≡ codes "why" → ⊥) → taken ≡ list
reasons_end z s list taken rest words h other = no_reason s (length taken) taken h.left list rest words h.together h.words_are other

full_reasons : (s a : ℕ) (taken left list : List Reason) (rest words : List (List ℕ)) → taken ++ left ≡ list → length list ≤ length taken → words ≡ whys_words s a left ++ rest → (taken ≡ list) × (words ≡ rest)
full_reasons s a taken [] list rest words t l e = (sym (append-nil taken) ∙ t, e)
full_reasons s a taken (x ∷ xs) list rest words t l e = absurd (omega (arith, length-append taken (x ∷ xs), ap length t))

pub reasons_full : (z : Sizes) (s : ℕ) (list taken : List Reason) (rest words : List (List ℕ)) → LeftReasons z s list taken rest words → length list ≤ length taken → (taken ≡ list) × (words ≡ rest)
reasons_full z s list taken rest words h l = full_reasons s (length taken) taken h.left list rest words h.together l h.words_are

pub keep_more_reasons : (z : Sizes) (taken : List Reason) (reason : Reason) → KeepReasons z taken → KeepsReason z reason → KeepReasons z (taken ++ reason ∷ [])
keep_more_reasons z [] reason h k = (k, tt)
keep_more_reasons z (x ∷ xs) reason h k = (h.0, keep_more_reasons z xs reason h.1 k)
