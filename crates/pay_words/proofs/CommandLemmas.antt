-- Commands, their beginnings, and the first word that doesn't fit.
use Rattle.std.proofs.Common.{◌≡◌, ◌≢◌, ◌↔◌, ℕ, zero, suc, ◌+◌, ◌-◌, ◌<◌, ◌≤◌, ◌++◌, List, [], ◌∷◌, length, get_or, take, drop, Option, Some, None, Result, Ok, Err, lit<, refl, sym, ap, subst, ◌∙◌, arith, ⊎_elim, inl, inr, append_assoc}
use Rattle.std.specs.Prelude.{All, Any, Contains, IfErr, IfOk, IsErrAnd, IsOkAnd, IsTrue, codes}
use Rattle.std.proofs.lemmas.Bool.{cases_lt}
use Rattle.std.proofs.lemmas.List.{append-nil, append_cancel_left, length-append, length-take-le, take-append-drop}
use Rattle.std.proofs.Math.Seq.{drop-append_seam, take-append-add, take-length}
use Rattle.std.specs.List.Sorted.{IsPermutation}
use Rattle.pay_frac.specs.Ratio.{Ratio}
use Rattle.pay_words.specs.Command.{IsBeginning, IsCall, IsCommand, IsMisfit, Request, solving, checking, replaying, making, file_count, files_in, request_of, word_of}
use Rattle.pay_words.specs.Options.{AreOptions, AreSettings, Holds, IsDiscount, IsFirstWrong, IsSetting, name_in, name_of, takes, usual_given, usual_settings}
use Rattle.pay_words.specs.declared.command.Command.{Command}
use Rattle.pay_words.specs.declared.command.UsageFault.{UsageFault}
use Rattle.pay_words.specs.declared.options.Setting.{Setting}
use Rattle.pay_words.specs.declared.options.Setting.TheVariants.{Discount, Directions, Workers, Budget, Grid, Slack, Inner, Seed, States}
use Rattle.pay_words.specs.declared.options.Given.{Given}
use Rattle.pay_words.specs.declared.options.Settings.{Settings}
use Rattle.pay_words.specs.declared.options.Verb.{Verb}
use Rattle.pay_words.specs.declared.options.Verb.TheVariants.{Solve, Check, Replay, Make}
use Rattle.pay_words.proofs.OptionLemmas.{apart, fewer_options, holds_one, more_options, more_settings, named, named_or_not, no_options, no_settings, options_in_order, same_rest, settings_in_order}

-- ---- words give one list of settings
agree : (verb : Verb) (words : List (List ℕ)) (a b : Given) → AreOptions verb words → AreSettings words a → AreSettings words b → (s : Setting) → Holds a s → Holds b s
agree verb words a b o g h s k =
    ⊎_elim
    (λ (n : Any (λ w. name_in w ≡ name_of s) words).
    let t : (x : Setting) × IsSetting n.1 x × IsTrue (takes verb x) = subst (λ w. (x : Setting) × IsSetting w x × IsTrue (takes verb x)) n.3 (o.each n.0 n.1 n.2) in
    let any : Any (λ w. IsSetting w t.0) words = (n.0, n.1, n.2, n.3, t.1) in
    let same : s ≡ t.0 = holds_one a s t.0 (sym n.4 ∙ named n.1 t.0 t.1) k (g.given t.0 any) in
    subst (Holds b) (sym same) (h.given t.0 any))
    (λ (n : All (λ w. name_in w ≢ name_of s) words). (h.usual s n).1 ((g.usual s n).0 k))
    (named_or_not words (name_of s))

same_option : (o p : Option ℕ) → ((n : ℕ) → o ≡ Some n → p ≡ Some n) → ((n : ℕ) → p ≡ Some n → o ≡ Some n) → o ≡ p
same_option None None f g = refl
same_option None (Some n) f g = g n refl
same_option (Some n) p f g = sym (f n refl)

same_parts : (a b : Given) → ((s : Setting) → Holds a s → Holds b s) → ((s : Setting) → Holds b s → Holds a s) → a ≡ b
same_parts a b f g = λ i. record {
  set = record {
    discount = g (Discount b.set.discount) refl i;
    directions = same_option a.set.directions b.set.directions (λ n. f (Directions n)) (λ n. g (Directions n)) i;
    workers = g (Workers b.set.workers) refl i;
    budget = g (Budget b.set.budget) refl i;
    grid = g (Grid b.set.grid) refl i;
    slack = g (Slack b.set.slack) refl i;
    inner = same_option a.set.inner b.set.inner (λ n. f (Inner n)) (λ n. g (Inner n)) i;
  };
  seed = same_option a.seed b.seed (λ n. f (Seed n)) (λ n. g (Seed n)) i;
  states = g (States b.states) refl i;
}

same_settings : (verb : Verb) (words : List (List ℕ)) (a b : Given) → AreOptions verb words → AreSettings words a → AreSettings words b → a ≡ b
same_settings verb words a b o g h = same_parts a b (agree verb words a b o g h) (agree verb words b a o h g)

-- all that the words of a call give
abbrev given_in : (verb : Verb) (words files : List (List ℕ)) (set : Settings) → IsCall verb words files set → Given
given_in verb words files set h = record { set = set; seed = h.seed; states = h.states }

same_call : (verb : Verb) (words files : List (List ℕ)) (s t : Settings) (h : IsCall verb words files s) (k : IsCall verb words files t)
    → given_in verb words files s h ≡ given_in verb words files t k
same_call verb words files s t h k =
    let a = given_in verb words files s h in
    let b = given_in verb words files t k in
    let e : word_of verb ∷ (files ++ h.options) ≡ word_of verb ∷ (files ++ k.options) = sym h.shape ∙ k.shape in
    let tails : files ++ h.options ≡ files ++ k.options = cc in
    let options : h.options ≡ k.options = append_cancel_left files h.options k.options tails in
    same_settings verb k.options a b k.right (subst (λ xs. AreSettings xs a) options h.settings) k.settings

-- ---- the command, the files and the settings of a request
abbrev verb_in : Request → Verb
verb_in (solving f s) = Solve
verb_in (checking f g d) = Check
verb_in (replaying f g s) = Replay
verb_in (making a b c) = Make

abbrev files_of : Request → List (List ℕ)
files_of (solving f s) = f ∷ []
files_of (checking f g d) = f ∷ g ∷ []
files_of (replaying f g s) = f ∷ g ∷ []
files_of (making a b c) = []

counted : (r : Request) → length (files_of r) ≡ file_count (verb_in r)
counted (solving f s) = refl
counted (checking f g d) = refl
counted (replaying f g s) = refl
counted (making a b c) = refl

call_of : (words : List (List ℕ)) (r : Request) → IsCommand words r → (set : Settings) × IsCall (verb_in r) words (files_of r) set
call_of words (solving f s) h = (s, h)
call_of words (checking f g d) h = (h.0, h.1)
call_of words (replaying f g s) h = (s, h)
call_of words (making a b c) h = (h.0, h.1)

same_verb : (v w : Verb) → word_of v ≡ word_of w → v ≡ w
same_verb Solve Solve e = refl
same_verb Check Check e = refl
same_verb Replay Replay e = refl
same_verb Make Make e = refl
same_verb v w e = absurd (apart (word_of v) (word_of w) refl e)

first_is : (words : List (List ℕ)) (r : Request) → IsCommand words r → get_or words 0 [] ≡ word_of (verb_in r)
first_is words r h = ap (λ xs. get_or xs 0 []) (call_of words r h).1.shape

verb_is : (verb : Verb) (words : List (List ℕ)) (r : Request) → get_or words 0 [] ≡ word_of verb → IsCommand words r → verb ≡ verb_in r
verb_is verb words r e h = same_verb verb (verb_in r) (sym e ∙ first_is words r h)

long_enough : (words : List (List ℕ)) (r : Request) → IsCommand words r → file_count (verb_in r) < length words
long_enough words r h =
    let c = (call_of words r h).1 in
    omega (arith, ap length c.shape, length-append (files_of r) c.options, counted r)

pub one_request : (words : List (List ℕ)) (a b : Request) → IsCommand words a → IsCommand words b → a ≡ b
one_request words (solving f s) (solving g t) h k =
    let e : codes "solve" ∷ f ∷ h.options ≡ codes "solve" ∷ g ∷ k.options = sym h.shape ∙ k.shape in
    let file : f ≡ g = cc in
    ap (λ x. solving x s) file ∙ ap (λ x. solving g x.set) (same_call Solve words (g ∷ []) s t (subst (λ x. IsCall Solve words (x ∷ []) s) file h) k)
one_request words (checking f a d) (checking g b e) h k =
    let i : codes "check" ∷ f ∷ a ∷ h.1.options ≡ codes "check" ∷ g ∷ b ∷ k.1.options = sym h.1.shape ∙ k.1.shape in
    let file : f ≡ g = cc in
    let other : a ≡ b = cc in
    let call : IsCall Check words (g ∷ b ∷ []) h.0 = subst (λ x. IsCall Check words (g ∷ x ∷ []) h.0) other (subst (λ x. IsCall Check words (x ∷ a ∷ []) h.0) file h.1) in
    let same = same_call Check words (g ∷ b ∷ []) h.0 k.0 call k.1 in
    ap (λ x. checking x a d) file ∙ ap (λ x. checking g x d) other ∙ ap (checking g b) (sym h.2 ∙ ap (λ x. x.set.discount) same ∙ k.2)
one_request words (replaying f a s) (replaying g b t) h k =
    let i : codes "replay" ∷ f ∷ a ∷ h.options ≡ codes "replay" ∷ g ∷ b ∷ k.options = sym h.shape ∙ k.shape in
    let file : f ≡ g = cc in
    let other : a ≡ b = cc in
    let call : IsCall Replay words (g ∷ b ∷ []) s = subst (λ x. IsCall Replay words (g ∷ x ∷ []) s) other (subst (λ x. IsCall Replay words (x ∷ a ∷ []) s) file h) in
    ap (λ x. replaying x a s) file ∙ ap (λ x. replaying g x s) other ∙ ap (λ x. replaying g b x.set) (same_call Replay words (g ∷ b ∷ []) s t call k)
one_request words (making a b c) (making d e f) h k =
    let same = same_call Make words [] h.0 k.0 h.1 k.1 in
    let seeds : Some a ≡ Some d = sym h.2 ∙ ap (λ x. x.seed) same ∙ k.2 in
    let seed : a ≡ d = cc in
    let states : b ≡ e = sym h.3 ∙ ap (λ x. x.states) same ∙ k.3 in
    let workers : c ≡ f = sym h.4 ∙ ap (λ x. x.set.workers) same ∙ k.4 in
    ap (λ x. making x b c) seed ∙ ap (λ x. making d x c) states ∙ ap (making d e) workers
one_request words a b h k = absurd (apart (word_of (verb_in a)) (word_of (verb_in b)) refl (sym (first_is words a h) ∙ first_is words b k))

-- ---- beginnings
shorter : (xs ys : List (List ℕ)) → IsBeginning (xs ++ ys) → IsBeginning xs
shorter xs ys b = record { rest = ys ++ b.rest; request = b.request; command = subst (λ zs. IsCommand zs b.request) (append_assoc xs ys b.rest) b.command }

is_begun : (words : List (List ℕ)) (r : Request) → IsCommand words r → IsBeginning words
is_begun words r h = record { rest = []; request = r; command = subst (λ ws. IsCommand ws r) (sym (append-nil words)) h }

seed_held : (all : Given) (s : Setting) → name_of s ≡ codes "seed" → Holds all s → all.seed ≡ None → ⊥
seed_held all (Seed n) e h none = let x : Some n ≡ None = sym h ∙ none in absurd (cc)
seed_held all s e h none = absurd (apart (name_of s) (codes "seed") refl e)

unseeded : (options : List (List ℕ)) (all : Given) → AreOptions Make options → AreSettings options all → all.seed ≡ None → All (λ v. name_in v ≢ codes "seed") options
unseeded options all o g none =
    ⊎_elim
    (λ (n : Any (λ w. name_in w ≡ codes "seed") options).
    let t : (x : Setting) × IsSetting n.1 x × IsTrue (takes Make x) = subst (λ w. (x : Setting) × IsSetting w x × IsTrue (takes Make x)) n.3 (o.each n.0 n.1 n.2) in
    absurd (seed_held all t.0 (sym (named n.1 t.0 t.1) ∙ n.4) (g.given t.0 (n.0, n.1, n.2, n.3, t.1)) none))
    (λ (n : All (λ w. name_in w ≢ codes "seed") options). n)
    (named_or_not options (codes "seed"))

seed_word : IsSetting (codes "seed=0") (Seed 0)
seed_word = record {
  text = codes "0";
  shape = refl;
  value = record { spells = record { numeral = (lit< tt, (lit< tt, tt)); few = omega arith; value = refl }; from = omega arith; upto = omega arith };
}

-- with a seed behind them, the words are a command
begin_make : (words : List (List ℕ)) (set : Settings) (h : IsCall Make words [] set) (o : Option ℕ) → h.seed ≡ o → IsBeginning words
begin_make words set h (Some n) e = is_begun words (making n h.states set.workers) (set, h, e, refl, refl)
begin_make words set h None e =
    let new = unseeded h.options (given_in Make words [] set h) h.right h.settings e in
    let call : IsCall Make (words ++ codes "seed=0" ∷ []) [] set = record {
      options = h.options ++ codes "seed=0" ∷ [];
      shape = ap (λ xs. xs ++ codes "seed=0" ∷ []) h.shape;
      right = more_options Make h.options (codes "seed=0") (Seed 0) h.right seed_word refl new;
      seed = Some 0;
      states = h.states;
      settings = more_settings h.options (codes "seed=0") (given_in Make words [] set h) (Seed 0) h.settings seed_word new;
    } in
    record { rest = codes "seed=0" ∷ []; request = making 0 h.states set.workers; command = (set, call, refl, refl, refl) }

begin_files : (verb : Verb) (words files : List (List ℕ)) (set : Settings) → length files ≡ file_count verb → IsCall verb words files set → IsBeginning words
begin_files Solve words [] set l h = absurd (omega arith)
begin_files Solve words (f ∷ []) set l h = is_begun words (solving f set) h
begin_files Solve words (f ∷ g ∷ fs) set l h = absurd (omega arith)
begin_files Check words [] set l h = absurd (omega arith)
begin_files Check words (f ∷ []) set l h = absurd (omega arith)
begin_files Check words (f ∷ g ∷ []) set l h = is_begun words (checking f g set.discount) (set, h, refl)
begin_files Check words (f ∷ g ∷ e ∷ fs) set l h = absurd (omega arith)
begin_files Replay words [] set l h = absurd (omega arith)
begin_files Replay words (f ∷ []) set l h = absurd (omega arith)
begin_files Replay words (f ∷ g ∷ []) set l h = is_begun words (replaying f g set) h
begin_files Replay words (f ∷ g ∷ e ∷ fs) set l h = absurd (omega arith)
begin_files Make words [] set l h = begin_make words set h h.seed refl
begin_files Make words (f ∷ fs) set l h = absurd (omega arith)

begin_call : (verb : Verb) (words rest files options : List (List ℕ)) (all : Given) → words ++ rest ≡ word_of verb ∷ files ++ options → length files ≡ file_count verb
    → AreOptions verb options → AreSettings options all → IsBeginning words
begin_call verb words rest files options all e l h k =
    shorter words rest
    (begin_files verb (words ++ rest) files all.set l (record { options = options; shape = e; right = h; seed = all.seed; states = all.states; settings = k }))

begin_none : IsBeginning []
begin_none = begin_call Solve [] (codes "solve" ∷ [] ∷ []) ([] ∷ []) [] usual_given refl refl (no_options Solve) no_settings

abbrev empty_names : ℕ → List (List ℕ)
empty_names zero = []
empty_names (suc n) = [] ∷ empty_names n

length-empty_names : (n : ℕ) → length (empty_names n) ≡ n
length-empty_names zero = refl
length-empty_names (suc n) = ap suc (length-empty_names n)

begin_short : (verb : Verb) (files : List (List ℕ)) → length files ≤ file_count verb → IsBeginning (word_of verb ∷ files)
begin_short verb files l =
    let n = file_count verb - length files in
    begin_call verb (word_of verb ∷ files) (empty_names n) (files ++ empty_names n) [] usual_given
    (ap (λ xs. word_of verb ∷ xs) (sym (append-nil (files ++ empty_names n))))
    (omega (arith, length-append files (empty_names n), length-empty_names n)) (no_options verb) no_settings

whole : (words : List (List ℕ)) (r : Request) (n : ℕ) → IsCommand words r → IsBeginning (take n words)
whole words r n h = record { rest = drop n words; request = r; command = subst (λ zs. IsCommand zs r) (sym (take-append-drop n words)) h }

take_less : (m n : ℕ) (words : List (List ℕ)) → m ≤ n → (ys : List (List ℕ)) × (take n words ≡ take m words ++ ys)
take_less zero n words l = (take n words, refl)
take_less (suc m) zero words l = absurd (omega arith)
take_less (suc m) (suc n) [] l = ([], refl)
take_less (suc m) (suc n) (w ∷ words) l = let t = take_less m n words (omega arith) in (t.0, ap (λ xs. w ∷ xs) t.1)

-- ---- misfits
pub no_misfit : (words : List (List ℕ)) (r : Request) (i : ℕ) → IsCommand words r → IsMisfit words i → ⊥
no_misfit words r i h m =
    ⊎_elim
    (λ (a : (i < length words) × (IsBeginning (take (i + 1) words) → ⊥)). a.1 (whole words r (i + 1) h))
    (λ (b : (i ≡ length words) × ((q : Request) → IsCommand words q → ⊥)). b.1 r h)
    m.here

misfit_bound : (words : List (List ℕ)) (i : ℕ) → IsMisfit words i → i ≤ length words
misfit_bound words i m =
    ⊎_elim
    (λ (a : (i < length words) × (IsBeginning (take (i + 1) words) → ⊥)). omega (arith, a.0))
    (λ (b : (i ≡ length words) × ((q : Request) → IsCommand words q → ⊥)). omega (arith, b.0))
    m.here

none_earlier : (words : List (List ℕ)) (i j : ℕ) → IsMisfit words i → IsMisfit words j → i < j → ⊥
none_earlier words i j m n l =
    ⊎_elim
    (λ (a : (i < length words) × (IsBeginning (take (i + 1) words) → ⊥)).
    let t = take_less (i + 1) j words (omega arith) in
    a.1 (shorter (take (i + 1) words) t.0 (subst IsBeginning t.1 n.before)))
    (λ (b : (i ≡ length words) × ((q : Request) → IsCommand words q → ⊥)). omega (arith, b.0, misfit_bound words j n))
    m.here

pub one_misfit : (words : List (List ℕ)) (i j : ℕ) → IsMisfit words i → IsMisfit words j → i ≡ j
one_misfit words i j m n =
    ⊎_elim
    (λ (l : i < j). absurd (none_earlier words i j m n l))
    (λ (g : j ≤ i). ⊎_elim (λ (l : j < i). absurd (none_earlier words j i n m l)) (λ (h : i ≤ j). omega arith) (cases_lt j i))
    (cases_lt i j)

pub no_words : IsMisfit [] 0
no_words = record { before = begin_none; here = inr (refl, λ r h. omega (arith, long_enough [] r h)) }

pub no_verb : (w : List ℕ) (ws : List (List ℕ)) → ((v : Verb) → word_of v ≡ w → ⊥) → IsMisfit (w ∷ ws) 0
no_verb w ws n = record {
  before = begin_none;
  here = inl (omega arith, λ b. n (verb_in b.request) (sym (first_is (w ∷ b.rest) b.request b.command)));
}

-- a file is missing
pub missing : (verb : Verb) (files : List (List ℕ)) → length files < file_count verb → IsMisfit (word_of verb ∷ files) (1 + length files)
missing verb files l =
    let words = word_of verb ∷ files in
    let all : 1 + length files ≡ length words = omega arith in
    record {
      before = subst IsBeginning (sym (ap (λ n. take n words) all ∙ take-length words)) (begin_short verb files (omega arith));
      here = inr (
        all,
        λ r h.
            let same : verb ≡ verb_in r = verb_is verb words r refl h in
            omega (arith, long_enough words r h, ap file_count same),
      );
    }

options_in : (verb : Verb) (words files options : List (List ℕ)) (r : Request) → words ≡ word_of verb ∷ files ++ options → length files ≡ file_count verb → IsCommand words r
    → AreOptions verb options
options_in verb words files options r e l h =
    let c = call_of words r h in
    let same : verb ≡ verb_in r = verb_is verb words r (ap (λ xs. get_or xs 0 []) e) h in
    let long : length files ≡ length (files_of r) = omega (arith, l, counted r, ap file_count same) in
    let tails : files ++ options ≡ files_of r ++ c.1.options = ap (drop 1) (sym e ∙ c.1.shape) in
    let options_same : options ≡ c.1.options =
    sym (drop-append_seam files options) ∙ ap (drop (length files)) tails ∙ ap (λ n. drop n (files_of r ++ c.1.options)) long ∙ drop-append_seam (files_of r) c.1.options in
    subst (AreOptions verb) (sym options_same) (subst (λ v. AreOptions v c.1.options) (sym same) c.1.right)

-- a word after the files is wrong
pub wrong_word : (verb : Verb) (files options : List (List ℕ)) (i : ℕ) → length files ≡ file_count verb → IsFirstWrong verb options i
    → IsMisfit (word_of verb ∷ files ++ options) (1 + file_count verb + i)
wrong_word verb files options i l h =
    let words = word_of verb ∷ files ++ options in
    let here : 1 + file_count verb + i ≡ suc (length files + i) = omega arith in
    let next : 1 + file_count verb + i + 1 ≡ suc (length files + (i + 1)) = omega arith in
    let first : take (1 + file_count verb + i) words ≡ word_of verb ∷ files ++ take i options =
    ap (λ n. take n words) here ∙ ap (λ xs. word_of verb ∷ xs) (take-append-add files options i) in
    let more : take (1 + file_count verb + i + 1) words ≡ word_of verb ∷ files ++ take (i + 1) options =
    ap (λ n. take n words) next ∙ ap (λ xs. word_of verb ∷ xs) (take-append-add files options (i + 1)) in
    record {
      before = subst IsBeginning (sym first)
          (begin_call verb (word_of verb ∷ files ++ take i options) [] files (take i options) h.settings (append-nil (word_of verb ∷ files ++ take i options)) l h.before h.given);
      here = inl (
        omega (arith, h.there, length-append files options),
        λ b.
            let c : IsBeginning (word_of verb ∷ files ++ take (i + 1) options) = subst IsBeginning more b in
            h.wrong (fewer_options verb (take (i + 1) options) c.rest
            (options_in verb ((word_of verb ∷ files ++ take (i + 1) options) ++ c.rest) files (take (i + 1) options ++ c.rest) c.request
            (append_assoc (word_of verb ∷ files) (take (i + 1) options) c.rest) l c.command)),
      );
    }

-- the number is missing from which a game is made
unmade : (words : List (List ℕ)) (set : Settings) (h : IsCall Make words [] set) → h.seed ≡ None → (r : Request) → IsCommand words r → ⊥
unmade words set h e (making a b c) k =
    let seeds : None ≡ Some a = sym e ∙ ap (λ x. x.seed) (same_call Make words [] set k.0 h k.1) ∙ k.2 in
    absurd (cc)
unmade words set h e r k = absurd (apart (word_of Make) (word_of (verb_in r)) refl (sym (ap (λ xs. get_or xs 0 []) h.shape) ∙ first_is words r k))

pub no_seed : (words : List (List ℕ)) (set : Settings) (h : IsCall Make words [] set) → h.seed ≡ None → IsMisfit words (length words)
no_seed words set h e = record {
  before = subst IsBeginning (sym (take-length words)) (begin_make words set h h.seed refl);
  here = inr (refl, unmade words set h e);
}

-- ---- the words by their places
parts : (verb : Verb) (words : List (List ℕ)) → take 1 words ≡ word_of verb ∷ [] → words ≡ word_of verb ∷ files_in verb words ++ drop (1 + file_count verb) words
parts verb [] e = absurd (cc)
parts verb (w ∷ ws) e =
    let first : w ≡ word_of verb = cc in
    let one : 1 + file_count verb ≡ suc (file_count verb) = omega arith in
    ap (λ x. x ∷ ws) first
    ∙ ap (λ xs. word_of verb ∷ xs) (sym (take-append-drop (file_count verb) ws))
    ∙ ap (λ n. word_of verb ∷ take (file_count verb) ws ++ drop n (w ∷ ws)) (sym one)

files_counted : (verb : Verb) (words : List (List ℕ)) → file_count verb < length words → length (files_in verb words) ≡ file_count verb
files_counted verb [] l = absurd (omega arith)
files_counted verb (w ∷ ws) l = length-take-le (file_count verb) ws (omega arith)

pub call_is : (verb : Verb) (words options : List (List ℕ)) (all : Given) → take 1 words ≡ word_of verb ∷ [] → options ≡ drop (1 + file_count verb) words
    → AreOptions verb options → AreSettings options all
    → (call : IsCall verb words (files_in verb words) all.set) × (call.seed ≡ all.seed) × (call.states ≡ all.states)
call_is verb words options all e o h k =
    let call : IsCall verb words (files_in verb words) all.set = record {
      options = options;
      shape = parts verb words e ∙ ap (λ xs. word_of verb ∷ files_in verb words ++ xs) (sym o);
      right = h;
      seed = all.seed;
      states = all.states;
      settings = k;
    } in
    (call, refl, refl)

pub too_short : (verb : Verb) (words : List (List ℕ)) → take 1 words ≡ word_of verb ∷ [] → length words < 1 + file_count verb → IsMisfit words (length words)
too_short verb [] e l = absurd (cc)
too_short verb (w ∷ ws) e l =
    let first : word_of verb ≡ w = cc in
    let long : 1 + length ws ≡ suc (length ws) = omega arith in
    subst (λ x. IsMisfit (x ∷ ws) (suc (length ws))) first (subst (IsMisfit (word_of verb ∷ ws)) long (missing verb ws (omega arith)))

pub misplaced : (verb : Verb) (words options : List (List ℕ)) (i : ℕ) → take 1 words ≡ word_of verb ∷ [] → file_count verb < length words → options ≡ drop (1 + file_count verb) words
    → IsFirstWrong verb options i → IsMisfit words (1 + file_count verb + i)
misplaced verb words options i e l o h =
    subst (λ xs. IsMisfit xs (1 + file_count verb + i))
    (sym (parts verb words e ∙ ap (λ xs. word_of verb ∷ files_in verb words ++ xs) (sym o)))
    (wrong_word verb (files_in verb words) options i (files_counted verb words l) h)

-- a game is made where its number is given, and only there
pub made_of : (verb : Verb) (words : List (List ℕ)) (all : Given) (seed : ℕ) → verb ≡ Make
    → (call : IsCall verb words (files_in verb words) all.set) × (call.seed ≡ all.seed) × (call.states ≡ all.states) → all.seed ≡ Some seed
    → IsCommand words (making seed all.states all.set.workers)
made_of Make words all seed e c s = (all.set, c.0, c.1 ∙ s, c.2, refl)
made_of v words all seed e c s = absurd (apart (word_of v) (word_of Make) refl (ap word_of e))

pub unmade_of : (verb : Verb) (words : List (List ℕ)) (all : Given) → verb ≡ Make
    → (call : IsCall verb words (files_in verb words) all.set) × (call.seed ≡ all.seed) × (call.states ≡ all.states) → all.seed ≡ None → IsMisfit words (length words)
unmade_of Make words all e c s = no_seed words all.set c.0 (c.1 ∙ s)
unmade_of v words all e c s = absurd (apart (word_of v) (word_of Make) refl (ap word_of e))

-- ---- what the words are decides each clause
pub settled : (words : List (List ℕ)) (q : Request) → IsCommand words q → ((r : Request) → IsCommand words r ↔ (q ≡ r)) × ((i : ℕ) → IsMisfit words i ↔ ⊥)
settled words q h = (λ r. (λ k. one_request words q r h k, λ e. subst (IsCommand words) e h), λ i. (λ m. no_misfit words q i h m, λ e. absurd e))

pub refused : (words : List (List ℕ)) (k : ℕ) → IsMisfit words k → ((r : Request) → IsCommand words r ↔ ⊥) × ((i : ℕ) → IsMisfit words i ↔ (k ≡ i))
refused words k m = (λ r. (λ h. no_misfit words r k h m, λ e. absurd e), λ i. (λ n. one_misfit words k i m n, λ e. subst (IsMisfit words) e m))

pub answered : (words : List (List ℕ)) (r : Result Command UsageFault) → IfOk r (λ c. IsCommand words (request_of c)) → IfErr r (λ f. IsMisfit words f.index)
    → ((q : Request) → IsCommand words q ↔ IsOkAnd r (λ c. request_of c ≡ q)) × ((i : ℕ) → IsMisfit words i ↔ IsErrAnd r (λ f. f.index ≡ i))
answered words (Ok c) h m = settled words (request_of c) h
answered words (Err f) h m = refused words f.index m

-- ---- rows
pub command_alone : (verb : Verb) → IsMisfit (word_of verb ∷ []) 1
command_alone Solve = missing Solve [] (omega arith)
command_alone Check = missing Check [] (omega arith)
command_alone Replay = missing Replay [] (omega arith)
command_alone Make = no_seed (codes "make" ∷ []) usual_settings (record { options = []; shape = refl; right = no_options Make; seed = None; states = 8; settings = no_settings }) refl

pub check_one_file : (file : List ℕ) → IsMisfit (codes "check" ∷ file ∷ []) 2
check_one_file file = missing Check (file ∷ []) (omega arith)

pub replay_one_file : (file : List ℕ) → IsMisfit (codes "replay" ∷ file ∷ []) 2
replay_one_file file = missing Replay (file ∷ []) (omega arith)

pub files_alone : (verb : Verb) (files : List (List ℕ)) → IsCall verb (word_of verb ∷ files) files usual_settings
files_alone verb files = record { options = []; shape = ap (λ xs. word_of verb ∷ xs) (sym (append-nil files)); right = no_options verb; seed = None; states = 8; settings = no_settings }

-- a setting named `discount` is a discount
discount_of : (s : Setting) (w text : List ℕ) → w ≡ codes "discount=" ++ text → IsSetting w s → (d : Ratio) × (s ≡ Discount d) × IsDiscount text d
discount_of (Discount d) w text e h =
    let same : h.text ≡ text = same_rest w (codes "discount") (codes "discount") h.text text refl h.shape e in
    (d, refl, subst (λ x. IsDiscount x d) same h.value)
discount_of s w text e h = absurd (apart (name_of s) (codes "discount") refl (sym (named w s h) ∙ ap name_in e))

pub discount_given : (verb : Verb) (words files : List (List ℕ)) (set : Settings) (text : List ℕ) → IsCall verb words files set → Contains (drop (1 + length files) words) (codes "discount=" ++ text)
    → IsDiscount text set.discount
discount_given verb words files set text h k =
    let one : 1 + length files ≡ suc (length files) = omega arith in
    let behind : drop (1 + length files) words ≡ h.options = ap (λ n. drop n words) one ∙ ap (drop (suc (length files))) h.shape ∙ drop-append_seam files h.options in
    let c : Contains h.options (codes "discount=" ++ text) = subst (λ xs. Contains xs (codes "discount=" ++ text)) behind k in
    let t : (x : Setting) × IsSetting (codes "discount=" ++ text) x × IsTrue (takes verb x) =
    subst (λ w. (x : Setting) × IsSetting w x × IsTrue (takes verb x)) c.2 (h.right.each c.0 (codes "discount=" ++ text) c.1) in
    let d = discount_of t.0 (codes "discount=" ++ text) text refl t.1 in
    let held : Holds (given_in verb words files set h) t.0 = h.settings.given t.0 (c.0, codes "discount=" ++ text, c.1, c.2, t.1) in
    let same : set.discount ≡ d.0 = subst (Holds (given_in verb words files set h)) d.1 held in
    subst (IsDiscount text) (sym same) d.2

pub any_order : (verb : Verb) (files : List (List ℕ)) (set : Settings) (xs ys : List (List ℕ)) → IsPermutation xs ys → IsCall verb (word_of verb ∷ files ++ xs) files set
    → IsCall verb (word_of verb ∷ files ++ ys) files set
any_order verb files set xs ys p h =
    let tails : files ++ xs ≡ files ++ h.options = ap (drop 1) h.shape in
    let options : xs ≡ h.options = append_cancel_left files xs h.options tails in
    let right : AreOptions verb xs = subst (AreOptions verb) (sym options) h.right in
    let all = given_in verb (word_of verb ∷ files ++ xs) files set h in
    let settings : AreSettings xs all = subst (λ zs. AreSettings zs all) (sym options) h.settings in
    record { options = ys; shape = refl; right = options_in_order verb xs ys p right; seed = h.seed; states = h.states; settings = settings_in_order xs ys all p settings }
