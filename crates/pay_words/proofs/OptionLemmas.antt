-- What a word spells, and what words set.
use Rattle.std.proofs.Common.{◌≡◌, ◌≢◌, ◌⊎◌, ◌↔◌, ℕ, zero, suc, ◌<◌, ◌≤◌, ◌++◌, ◌*ℤ◌, Bool, true, false, not, List, [], ◌∷◌, length, get_or, Option, Some, None, Result, Ok, Err, Bor, lit<, refl, sym, ap, subst, ◌∙◌, arith, ⊎_elim, inl, inr}
use Rattle.std.specs.Prelude.{map, All, AllPairs, Any, IfSome, IsOkAnd, IsTrue}
use Rattle.std.specs.Str.{bytes_eq}
use Rattle.std.proofs.lemmas.Bool.{cases_Bool, cases_lt}
use Rattle.std.proofs.lemmas.Bool.Decides.{not_from_Decides}
use Rattle.std.proofs.lemmas.List.{append_cancel_left, get_or-map, get_or_append_left, length-append, length-map}
use Rattle.std.proofs.lemmas.List.Elements.{All-append}
use Rattle.std.proofs.lemmas.List.Quantifiers.{all_pairs_push}
use Rattle.std.proofs.lemmas.List.Sorted.{All-permutation, Contains-permutation, IsPermutation-map, IsPermutation-sym}
use Rattle.std.proofs.lemmas.Map.Keys.{IsDistinct-IsPermutation}
use Rattle.std.proofs.lemmas.Map.Made.{AllPairs-from_IsDistinct, IsDistinct-from_AllPairs}
use Rattle.std.proofs.lemmas.Slice.Eq.{bytes_eq-Decides}
use Rattle.std.specs.List.Sorted.{IsPermutation}
use Rattle.std.proofs.lemmas.Str.Pattern.{IsSplitOnceResult, split_parts}
use Rattle.std.proofs.Math.Seq.{get_or-append_seam}
use Rattle.std.specs.Result.{result_ok}
use Rattle.pay_frac.specs.Ratio.{Ratio, IsLowest, Equals}
use Rattle.pay_frac.specs.declared.numbers.NumberFault.{NumberFault}
use Rattle.pay_frac.specs.Spelling.{Spells, Spelling, digit_count, spelled_num, spelled_den}
use Rattle.pay_frac.proofs.Laws.{one_spelling, same_number, spelled_positive}
use Rattle.pay_words.specs.declared.options.Setting.{Setting}
use Rattle.pay_words.specs.declared.options.Setting.TheVariants.{Discount, Directions, Workers, Budget, Grid, Slack, Inner, Seed, States}
use Rattle.pay_words.specs.declared.options.Given.{Given}
use Rattle.pay_words.specs.declared.options.Settings.{Settings}
use Rattle.pay_words.specs.declared.options.Verb.{Verb}
use Rattle.pay_words.specs.Options.{AreLimited, AreOptions, AreSettings, AreWithinLimits, Holds, IsDiscount, IsSetting, IsValue, name_in, name_of, put, takes, usual_given, with_setting}

-- ---- names
pub apart : (a b : List ℕ) → bytes_eq a b ≡ false → a ≡ b → ⊥
apart a b f e = not_from_Decides (bytes_eq a b) (bytes_eq-Decides a b) f e

pub same_from_test : (a b : List ℕ) → bytes_eq a b ≡ true → a ≡ b
same_from_test a b t = (bytes_eq-Decides a b).0 t

pub not_true : (b : Bool) → true ≡ not b → b ≡ false
not_true true e = absurd (cc)
not_true false e = refl

pub not_false : (b : Bool) → false ≡ not b → b ≡ true
not_false true e = refl
not_false false e = absurd (cc)

name_ends : (s : Setting) (text : List ℕ) → name_in (name_of s ++ 61 ∷ text) ≡ name_of s
name_ends (Discount d) text = refl
name_ends (Directions n) text = refl
name_ends (Workers n) text = refl
name_ends (Budget n) text = refl
name_ends (Grid n) text = refl
name_ends (Slack n) text = refl
name_ends (Inner n) text = refl
name_ends (Seed n) text = refl
name_ends (States n) text = refl

pub named : (w : List ℕ) (s : Setting) → IsSetting w s → name_in w ≡ name_of s
named w s h = ap name_in h.shape ∙ name_ends s h.text

-- ---- a word spells one setting
one_discount : (text : List ℕ) (d e : Ratio) → IsDiscount text d → IsDiscount text e → d ≡ e
one_discount text d e h k =
    let same : h.spelling ≡ k.spelling = one_spelling text h.spelling k.spelling h.spells k.spells in
    same_number d e (spelled_num k.spelling) (spelled_den k.spelling) (spelled_positive text k.spelling k.spells) h.lowest
    (subst (λ s. d.num *ℤ spelled_den s ≡ spelled_num s *ℤ d.den) same h.value) k.lowest k.value

one_value : (text : List ℕ) (s t : Setting) → name_of s ≡ name_of t → IsValue s text → IsValue t text → s ≡ t
one_value text (Discount d) (Discount e) n h k = ap Discount (one_discount text d e h k)
one_value text (Directions a) (Directions b) n h k = ap Directions (h.spells.value ∙ sym k.spells.value)
one_value text (Workers a) (Workers b) n h k = ap Workers (h.spells.value ∙ sym k.spells.value)
one_value text (Budget a) (Budget b) n h k = ap Budget (h.spells.value ∙ sym k.spells.value)
one_value text (Grid a) (Grid b) n h k = ap Grid (h.spells.value ∙ sym k.spells.value)
one_value text (Slack a) (Slack b) n h k = ap Slack (h.spells.value ∙ sym k.spells.value)
one_value text (Inner a) (Inner b) n h k = ap Inner (h.spells.value ∙ sym k.spells.value)
one_value text (Seed a) (Seed b) n h k = ap Seed (h.spells.value ∙ sym k.spells.value)
one_value text (States a) (States b) n h k = ap States (h.spells.value ∙ sym k.spells.value)
one_value text s t n h k = absurd (apart (name_of s) (name_of t) refl n)

-- what stands behind the same name
pub same_rest : (w name other text rest : List ℕ) → name ≡ other → w ≡ name ++ 61 ∷ text → w ≡ other ++ 61 ∷ rest → text ≡ rest
same_rest w name other text rest n e f =
    let g : 61 ∷ text ≡ 61 ∷ rest = append_cancel_left other (61 ∷ text) (61 ∷ rest) (sym (subst (λ x. w ≡ x ++ 61 ∷ text) n e) ∙ f) in
    cc

pub one_setting : (w : List ℕ) (s t : Setting) → IsSetting w s → IsSetting w t → s ≡ t
one_setting w s t h k =
    let n : name_of s ≡ name_of t = sym (named w s h) ∙ named w t k in
    let e : h.text ≡ k.text = same_rest w (name_of s) (name_of t) h.text k.text n h.shape k.shape in
    one_value k.text s t n (subst (λ x. IsValue s x) e h.value) k.value

-- a word that was split at its first `=`
pub split_word : (word : List ℕ) (r : Option (Bor (List ℕ) × Bor (List ℕ))) (name value : Bor (List ℕ)) → IsSplitOnceResult 61 word r → r ≡ Some (name, value) → word ≡ name.now ++ 61 ∷ value.now
split_word word None name value h e = absurd (cc)
split_word word (Some x) name value h e =
    let p = split_parts 61 word (Some x) h (lit< tt) in
    let q : x ≡ (name, value) = cc in
    subst (λ y. word ≡ y.0.now ++ 61 ∷ y.1.now) q p.0

-- the number that was read is the discount of the text
pub discount_read : (text : List ℕ) (r : Result Ratio NumberFault) (f d : Ratio) → Some f ≡ result_ok r
    → ((s : Spelling) → Spells text s → digit_count text ≤ 36 → IsOkAnd r (λ x. Equals x (spelled_num s) (spelled_den s) × IsLowest x)) → IsDiscount text d → f ≡ d
discount_read text (Ok x) f d e value h =
    let same : f ≡ x = cc in
    let v = value h.spelling h.spells h.few in
    same ∙ same_number x d (spelled_num h.spelling) (spelled_den h.spelling) (spelled_positive text h.spelling h.spells) v.1 v.0 h.lowest h.value
discount_read text (Err x) f d e value h = absurd (cc)

-- the setting of a name and a value
pub made_setting : (word name text : List ℕ) (o : Option Setting) → word ≡ name ++ 61 ∷ text → IfSome o (λ s. name_of s ≡ name) → IfSome o (λ s. IsValue s text) → IfSome o (IsSetting word)
made_setting word name text None e n v = tt
made_setting word name text (Some s) e n v = record { text = text; shape = e ∙ ap (λ x. x ++ 61 ∷ text) (sym n); value = v }

-- ---- settings among others
holds_put : (set : Given) (s : Setting) → Holds (put set s) s
holds_put set (Discount d) = refl
holds_put set (Directions n) = refl
holds_put set (Workers n) = refl
holds_put set (Budget n) = refl
holds_put set (Grid n) = refl
holds_put set (Slack n) = refl
holds_put set (Inner n) = refl
holds_put set (Seed n) = refl
holds_put set (States n) = refl

holds_other : (set : Given) (s t : Setting) → (name_of s ≡ name_of t → ⊥) → Holds (put set s) t ↔ Holds set t
holds_other set (Discount d) (Discount e) n = absurd (n refl)
holds_other set (Directions a) (Directions b) n = absurd (n refl)
holds_other set (Workers a) (Workers b) n = absurd (n refl)
holds_other set (Budget a) (Budget b) n = absurd (n refl)
holds_other set (Grid a) (Grid b) n = absurd (n refl)
holds_other set (Slack a) (Slack b) n = absurd (n refl)
holds_other set (Inner a) (Inner b) n = absurd (n refl)
holds_other set (Seed a) (Seed b) n = absurd (n refl)
holds_other set (States a) (States b) n = absurd (n refl)
holds_other set s t n = (λ h. h, λ h. h)

pub holds_one : (set : Given) (s t : Setting) → name_of s ≡ name_of t → Holds set s → Holds set t → s ≡ t
holds_one set (Discount d) (Discount e) n h k = ap Discount (sym h ∙ k)
holds_one set (Directions a) (Directions b) n h k = let e : Some a ≡ Some b = sym h ∙ k in ap Directions (cc)
holds_one set (Workers a) (Workers b) n h k = ap Workers (sym h ∙ k)
holds_one set (Budget a) (Budget b) n h k = ap Budget (sym h ∙ k)
holds_one set (Grid a) (Grid b) n h k = ap Grid (sym h ∙ k)
holds_one set (Slack a) (Slack b) n h k = ap Slack (sym h ∙ k)
holds_one set (Inner a) (Inner b) n h k = let e : Some a ≡ Some b = sym h ∙ k in ap Inner (cc)
holds_one set (Seed a) (Seed b) n h k = let e : Some a ≡ Some b = sym h ∙ k in ap Seed (cc)
holds_one set (States a) (States b) n h k = ap States (sym h ∙ k)
holds_one set s t n h k = absurd (apart (name_of s) (name_of t) refl n)

-- ---- words, one by one
pub at_end : (xs : List (List ℕ)) (w d : List ℕ) → get_or (xs ++ w ∷ []) (length xs) d ≡ w
at_end xs w d = get_or-append_seam xs w [] d

pub no_options : (verb : Verb) → AreOptions verb []
no_options verb = record { each = λ k d l. absurd (omega arith); once = λ i j d l m. absurd (omega arith) }

pub no_settings : AreSettings [] usual_given
no_settings = record { given = λ s a. absurd (let l : a.0 < 0 = a.2 in omega arith); usual = λ s a. (λ h. h, λ h. h) }

pub more_options : (verb : Verb) (words : List (List ℕ)) (w : List ℕ) (s : Setting) → AreOptions verb words → IsSetting w s → IsTrue (takes verb s) → All (λ v. name_in v ≢ name_of s) words
    → AreOptions verb (words ++ w ∷ [])
more_options verb words w s h k taken new = record {
  each = λ i d l. ⊎_elim
      (λ (m : i < length words). subst (λ v. (t : Setting) × IsSetting v t × IsTrue (takes verb t)) (sym (get_or_append_left words (w ∷ []) d i m)) (h.each i d m))
      (λ (m : length words ≤ i).
      let e : length words ≡ i = omega (arith, length-append words (w ∷ [])) in
      subst (λ v. (t : Setting) × IsSetting v t × IsTrue (takes verb t)) (sym (at_end words w d) ∙ ap (λ n. get_or (words ++ w ∷ []) n d) e) (s, k, taken))
      (cases_lt i (length words));
  once = all_pairs_push (λ v x. name_in v ≢ name_in x) words w h.once (λ i d l e. new i d l (e ∙ named w s k));
}

-- a word in a longer list is one of the first or the last
any_more : (words : List (List ℕ)) (w : List ℕ) (t : Setting) → Any (λ v. IsSetting v t) (words ++ w ∷ []) → Any (λ v. IsSetting v t) words ⊎ IsSetting w t
any_more words w t a =
    let x = a.1 in
    ⊎_elim
    (λ (m : a.0 < length words). inl (a.0, x, m, sym (get_or_append_left words (w ∷ []) x a.0 m) ∙ a.3, a.4))
    (λ (m : length words ≤ a.0).
    let e : length words ≡ a.0 = omega (arith, a.2, length-append words (w ∷ [])) in
    inr (subst (λ v. IsSetting v t) (sym a.3 ∙ ap (λ n. get_or (words ++ w ∷ []) n x) (sym e) ∙ at_end words w x) a.4))
    (cases_lt a.0 (length words))

all_fewer : (words : List (List ℕ)) (w : List ℕ) (name : List ℕ) → All (λ v. name_in v ≢ name) (words ++ w ∷ []) → All (λ v. name_in v ≢ name) words × (name_in w ≢ name)
all_fewer words w name a = (
  λ i d l e. a i d (omega (arith, length-append words (w ∷ []))) (ap name_in (get_or_append_left words (w ∷ []) d i l) ∙ e),
  λ e. a (length words) [] (omega (arith, length-append words (w ∷ []))) (ap name_in (at_end words w []) ∙ e),
)

pub more_settings : (words : List (List ℕ)) (w : List ℕ) (set : Given) (s : Setting) → AreSettings words set → IsSetting w s → All (λ v. name_in v ≢ name_of s) words
    → AreSettings (words ++ w ∷ []) (put set s)
more_settings words w set s h k new = record {
  given = λ t a. ⊎_elim
      (λ (b : Any (λ v. IsSetting v t) words).
      (holds_other set s t (λ e. new b.0 b.1 b.2 (ap name_in b.3 ∙ named b.1 t b.4 ∙ sym e))).1 (h.given t b))
      (λ (b : IsSetting w t). subst (λ x. Holds (put set s) x) (one_setting w s t k b) (holds_put set s))
      (any_more words w t a);
  usual = λ t a.
      let b = all_fewer words w (name_of t) a in
      let other = holds_other set s t (λ e. b.1 (named w s k ∙ e)) in
      let old = h.usual t b.0 in
      (λ x. old.0 (other.0 x), λ x. other.1 (old.1 x));
}

-- ---- the first words of options are options
pub fewer_options : (verb : Verb) (xs ys : List (List ℕ)) → AreOptions verb (xs ++ ys) → AreOptions verb xs
fewer_options verb xs ys h = record {
  each = λ i d l. subst (λ v. (t : Setting) × IsSetting v t × IsTrue (takes verb t)) (get_or_append_left xs ys d i l) (h.each i d (omega (arith, length-append xs ys)));
  once = λ i j d l m e. h.once i j d l (omega (arith, length-append xs ys))
      (ap name_in (get_or_append_left xs ys d i (omega arith)) ∙ e ∙ sym (ap name_in (get_or_append_left xs ys d j m)));
}

-- a word that spells nothing new for the command
pub wrong_option : (verb : Verb) (words : List (List ℕ)) (w : List ℕ) → ((s : Setting) → IsSetting w s → IsTrue (takes verb s) → Any (λ v. name_in v ≡ name_of s) words) → AreOptions verb (words ++ w ∷ []) → ⊥
wrong_option verb words w none h =
    let l : length words < length (words ++ w ∷ []) = omega (arith, length-append words (w ∷ [])) in
    let here = h.each (length words) [] l in
    let k : IsSetting w here.0 = subst (λ v. IsSetting v here.0) (at_end words w []) here.1 in
    let a = none here.0 k here.2 in
    h.once a.0 (length words) a.1 a.2 l
    (ap name_in (get_or_append_left words (w ∷ []) a.1 a.0 a.2 ∙ a.3) ∙ a.4 ∙ sym (named w here.0 k) ∙ sym (ap name_in (at_end words w a.1)))

-- ---- whether a word has a name
not_named : (w : List ℕ) (ws : List (List ℕ)) (name : List ℕ) → (name_in w ≡ name → ⊥) → All (λ v. name_in v ≢ name) ws → (k : ℕ) (d : List ℕ) → k < length (w ∷ ws)
    → name_in (get_or (w ∷ ws) k d) ≡ name → ⊥
not_named w ws name n b zero d l e = n e
not_named w ws name n b (suc k) d l e = b k d (omega arith) e

decide_name : (a b : List ℕ) → (a ≡ b) ⊎ (a ≡ b → ⊥)
decide_name a b =
    elim (cases_Bool (bytes_eq a b)) [
      | inl t ↦ inl (same_from_test a b t)
      | inr f ↦ inr (apart a b f)
    ]

pub named_or_not : (words : List (List ℕ)) (name : List ℕ) → Any (λ w. name_in w ≡ name) words ⊎ All (λ w. name_in w ≢ name) words
named_or_not [] name = inr (λ k d l. absurd (omega arith))
named_or_not (w ∷ ws) name =
    ⊎_elim
    (λ (e : name_in w ≡ name). inl (0, w, omega arith, refl, e))
    (λ (n : name_in w ≡ name → ⊥). ⊎_elim
    (λ (a : Any (λ v. name_in v ≡ name) ws). inl (suc a.0, a.1, (let l : a.0 < length ws = a.2 in omega arith), a.3, a.4))
    (λ (b : All (λ v. name_in v ≢ name) ws). inr (not_named w ws name n b))
    (named_or_not ws name))
    (decide_name (name_in w) name)

pub more_not_named : (words : List (List ℕ)) (w name : List ℕ) → All (λ v. name_in v ≢ name) words → name_in w ≢ name → All (λ v. name_in v ≢ name) (words ++ w ∷ [])
more_not_named words w name h n = All-append (λ v. name_in v ≢ name) words (w ∷ []) h (not_named w [] name n (λ k d l. absurd (omega arith)))

-- ---- words in any order
flips : (x y : List ℕ) → bytes_eq x y ≡ bytes_eq y x
flips x y =
    ⊎_elim
    (λ (t : bytes_eq x y ≡ true). ⊎_elim
    (λ (u : bytes_eq y x ≡ true). t ∙ sym u)
    (λ (f : bytes_eq y x ≡ false). absurd (apart y x f (sym (same_from_test x y t))))
    (cases_Bool (bytes_eq y x)))
    (λ (f : bytes_eq x y ≡ false). ⊎_elim
    (λ (t : bytes_eq y x ≡ true). absurd (apart x y f (sym (same_from_test y x t))))
    (λ (g : bytes_eq y x ≡ false). f ∙ sym g)
    (cases_Bool (bytes_eq y x)))
    (cases_Bool (bytes_eq x y))

pub options_in_order : (verb : Verb) (xs ys : List (List ℕ)) → IsPermutation xs ys → AreOptions verb xs → AreOptions verb ys
options_in_order verb xs ys p h =
    let names : AllPairs (λ x y. x ≢ y) (map name_in xs) =
    λ i j d l m e.
    let k : j < length xs = omega (arith, length-map xs name_in) in
    h.once i j [] l k (sym (get_or-map name_in xs i [] d (omega arith)) ∙ e ∙ get_or-map name_in xs j [] d k) in
    let moved : AllPairs (λ x y. x ≢ y) (map name_in ys) =
    AllPairs-from_IsDistinct bytes_eq-Decides (map name_in ys)
    (IsDistinct-IsPermutation bytes_eq flips (map name_in xs) (map name_in ys) (IsPermutation-map name_in xs ys p) (IsDistinct-from_AllPairs bytes_eq-Decides (map name_in xs) names)) in
    record {
      each = All-permutation (λ w. (s : Setting) × IsSetting w s × IsTrue (takes verb s)) xs ys p h.each;
      once = λ i j d l m e. moved i j [] l (omega (arith, length-map ys name_in))
          (get_or-map name_in ys i d [] (omega arith) ∙ e ∙ sym (get_or-map name_in ys j d [] m));
    }

pub settings_in_order : (xs ys : List (List ℕ)) (set : Given) → IsPermutation xs ys → AreSettings xs set → AreSettings ys set
settings_in_order xs ys set p h =
    let q = IsPermutation-sym xs ys p in
    record {
      given = λ s a.
          let c = Contains-permutation ys xs a.1 q (a.0, a.2, a.3) in
          h.given s (c.0, a.1, c.1, c.2, a.4);
      usual = λ s a. h.usual s (All-permutation (λ w. name_in w ≢ name_of s) ys xs q a);
    }

-- a word that is put in its place keeps the limits
run_limits : (set : Settings) (w : List ℕ) (s : Setting) → AreWithinLimits set → IsSetting w s → AreWithinLimits (with_setting set s)
run_limits set w (Discount d) h is = record { lowest = is.value.lowest; above_zero = is.value.above; below_one = is.value.below; directions = h.directions; some_worker = h.some_worker; grid = h.grid; some_slack = h.some_slack; inner = h.inner }
run_limits set w (Directions n) h is = record { lowest = h.lowest; above_zero = h.above_zero; below_one = h.below_one; directions = is.value.count; some_worker = h.some_worker; grid = h.grid; some_slack = h.some_slack; inner = h.inner }
run_limits set w (Workers n) h is = record { lowest = h.lowest; above_zero = h.above_zero; below_one = h.below_one; directions = h.directions; some_worker = is.value.from; grid = h.grid; some_slack = h.some_slack; inner = h.inner }
run_limits set w (Budget n) h is = record { lowest = h.lowest; above_zero = h.above_zero; below_one = h.below_one; directions = h.directions; some_worker = h.some_worker; grid = h.grid; some_slack = h.some_slack; inner = h.inner }
run_limits set w (Grid n) h is = record { lowest = h.lowest; above_zero = h.above_zero; below_one = h.below_one; directions = h.directions; some_worker = h.some_worker; grid = is.value.upto; some_slack = h.some_slack; inner = h.inner }
run_limits set w (Slack n) h is = record { lowest = h.lowest; above_zero = h.above_zero; below_one = h.below_one; directions = h.directions; some_worker = h.some_worker; grid = h.grid; some_slack = is.value.from; inner = h.inner }
run_limits set w (Inner n) h is = record { lowest = h.lowest; above_zero = h.above_zero; below_one = h.below_one; directions = h.directions; some_worker = h.some_worker; grid = h.grid; some_slack = h.some_slack; inner = is.value.upto }
run_limits set w (Seed n) h is = h
run_limits set w (States n) h is = h

pub limits_more : (all : Given) (w : List ℕ) (s : Setting) → AreLimited all → IsSetting w s → AreLimited (put all s)
limits_more all w (Seed n) h is = record { settings = h.settings; seed_upto = is.value.upto; some_state = h.some_state; states_upto = h.states_upto; workers_upto = h.workers_upto }
limits_more all w (States n) h is = record { settings = h.settings; seed_upto = h.seed_upto; some_state = is.value.from; states_upto = is.value.upto; workers_upto = h.workers_upto }
limits_more all w (Workers n) h is = record { settings = run_limits all.set w (Workers n) h.settings is; seed_upto = h.seed_upto; some_state = h.some_state; states_upto = h.states_upto; workers_upto = is.value.upto }
limits_more all w s h is = record { settings = run_limits all.set w s h.settings is; seed_upto = h.seed_upto; some_state = h.some_state; states_upto = h.states_upto; workers_upto = h.workers_upto }
