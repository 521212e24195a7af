-- Each step keeps the rule of the words.
use Rattle.std.proofs.Common.{◌≡◌, ◌≢◌, ℕ, ◌+◌, ◌%◌, ◌^◌, ◌<◌, min, List, [], ◌∷◌, ◌++◌, map, length, get_or, set, refl, sym, ap, ◌∙◌, subst, true, false, ⊎_elim, arith}
use Rattle.std.specs.Prelude.{ℤ}
use Rattle.std.proofs.lemmas.List.{set-get_or, set_at}
use Rattle.std.proofs.lemmas.Bool.{false≢true}
use mathlib.Core.Option.{none, some}
use lib.ListN.{get_elem?}
use Rattle.atomic_table.specs.Table.{State, Me, step, keeps, Allows, Splits, Joins}
use Rattle.atomic_table.proofs.Lists.{set_again}
use Rattle.level_table.specs.declared.level.Level.{Level}
use Rattle.level_table.specs.declared.level.Level.TheVariants.{Empty, At}
use Rattle.level_table.specs.Levels.{level_at, lesser}
use Rattle.level_table.specs.Tables.{kept_word}
use Rattle.schedule_core.specs.Frame.{Frame, IsAbove, IsSound, rows_of}
use Rattle.schedule_core.specs.Core.{AreValid}
use Rattle.schedule_core.proofs.Levels.{IsLowering}
use Rattle.schedule_core.proofs.Lists.{at_map, at_set, at_snoc, each_after, each_found, each_of_both}
use Rattle.schedule_core.proofs.Words.{clear_keeps, join_keeps, load_keeps, lower_keeps, split_keeps, valid_readers, valid_with}
use Rattle.bound_laws.proofs.Levels.{at_most_empty, lesser_number}
use Rattle.level_board.specs.declared.view.View.{View}
use Rattle.level_board.specs.Board.{words_of}
use Rattle.level_board.specs.Rule.{frame_of, reader_of, seeing, clearing, drawing, copied, joined, spent_view, AreMarked, Keeps, Moment, Found, Looks, Lowers, Clears, Draws, Learns}
use Rattle.level_board.proofs.Words.{word_of_row, words_set, lesser_words, same_words, length-map}

-- what a step finds in a row
found_of : (f : Frame) (s : State (Unit {0}) View) (id : ℕ) (v : View) (r : ℕ) (kept : Keeps f s) → get_elem? s.views id ≡ some v → v.spent ≡ false → frame_of v ≡ f → r < rows_of f
    → (get_or s.words r 0 ≡ kept_word (get_or kept.levels r Empty)) → Found v r (get_or s.words r 0)
found_of f s id v r kept at unspent same within word =
    let l = get_or kept.levels r Empty in
    let mine = kept.valid.fits id v at unspent in record {
      level = l;
      word = word;
      moment = subst (λ (g : Frame). Moment g (reader_of v) r l) (sym same) (record {
        levels = kept.levels;
        readers = map reader_of s.views;
        worker = id;
        valid = valid_readers reader_of f kept.levels s.views kept.valid;
        here = at_map reader_of s.views id v at;
        is = refl;
      });
      sound = subst (λ (g : Frame). IsSound g r l) (sym same) (kept.valid.sound r within);
      fell = mine.above r within;
      marked = λ owner e. kept.marked id v at owner r within e;
    }

word_found : (f : Frame) (s : State (Unit {0}) View) (r : ℕ) (kept : Keeps f s) → r < rows_of f → get_or s.words r 0 ≡ kept_word (get_or kept.levels r Empty)
word_found f s r kept within = ap (λ ws. get_or ws r 0) kept.words ∙ word_of_row kept.levels kept.claim r (omega (arith, kept.valid.one_each))

-- the marks, where one view is another
marks_with : (f : Frame) (levels levels' : List Level) (views : List View) (id : ℕ) (w : View)
    → (w.owner ≡ true → (r : ℕ) → r < rows_of f → get_or levels' r Empty ≡ Empty → get_or w.cleared r false ≡ true)
    → ((j : ℕ) (u : View) → j ≢ id → get_elem? views j ≡ some u → u.owner ≡ true → (r : ℕ) → r < rows_of f → get_or levels' r Empty ≡ Empty → get_or u.cleared r false ≡ true)
    → AreMarked f levels' (set views id w)
marks_with f levels levels' views id w mine others =
    each_found (λ _ (u : View). u.owner ≡ true → (r : ℕ) → r < rows_of f → get_or levels' r Empty ≡ Empty → get_or u.cleared r false ≡ true) views id w mine others

pub loads : (f : Frame) (slots id : ℕ) (me : Me (Unit {0}) View) (r : ℕ) → me.0.spent ≡ false → frame_of me.0 ≡ f → r < rows_of f
    → Allows (Keeps f) slots id me r (λ n. n) (Looks (step slots r 0 0 none) me)
unfolding found_of
loads f slots id me r unspent same within s kept all_home at fits =
    let v = me.0 in
    let levels = kept.levels in
    let l = get_or levels r Empty in
    let found = found_of f s id v r kept at unspent same within (word_found f s r kept within) in (
      seeing v r l,
      keeps,
      tt,
      record {
        levels = levels;
        claim = kept.claim;
        words = set-get_or s.words r 0 ∙ kept.words;
        valid = load_keeps reader_of f levels s.views id v (seeing v r l) r kept.valid at unspent within refl;
        marked = marks_with f levels levels s.views id (seeing v r l) (kept.marked id v at) (λ j u _ there. kept.marked j u there);
      },
      (record { found = found; seen = refl }, refl),
    )

pub lowers : (f : Frame) (slots id : ℕ) (me : Me (Unit {0}) View) (r k : ℕ) (x : ℤ) → me.0.spent ≡ false → frame_of me.0 ≡ f → r < rows_of f
    → k ≡ kept_word (At x) → IsLowering f r (At x) → Allows (Keeps f) slots id me r (λ n. min n k) (Lowers (step slots r k 0 none) me)
unfolding found_of
lowers f slots id me r k x unspent same within is lowering s kept all_home at fits =
    let v = me.0 in
    let levels = kept.levels in
    let claim = kept.claim in
    let old = get_or levels r Empty in
    let new = lesser old (At x) in
    let here : r < length levels = omega (arith, kept.valid.one_each) in
    let sound = kept.valid.sound r within in
    let word = word_found f s r kept within in
    let found = found_of f s id v r kept at unspent same within word in
    let made : min (get_or s.words r 0) k ≡ kept_word new = ap (λ (n : ℕ). min n k) word ∙ (ap (λ (n : ℕ). min (kept_word old) n) is ∙ lesser_words old (At x) sound.small lowering.small) in
    let words : set s.words r (min (get_or s.words r 0) k) ≡ words_of (set levels r new) claim =
    ap (λ (n : ℕ). set s.words r n) made ∙ (ap (λ ws. set ws r (kept_word new)) kept.words ∙ words_set levels claim r new here) in
    let marks = λ (j : ℕ) (u : View) (there : get_elem? s.views j ≡ some u) (owner : u.owner ≡ true). each_after (λ i m. m ≡ Empty → get_or u.cleared i false ≡ true) Empty levels (rows_of f) r new here
    (λ e. kept.marked j u there owner r within (lesser_number old x e)) (kept.marked j u there owner) in (
      seeing v r new,
      keeps,
      tt,
      record {
        levels = set levels r new;
        claim = claim;
        words = words;
        valid = lower_keeps reader_of f levels s.views id v (seeing v r new) r x kept.valid at unspent within lowering refl;
        marked = marks_with f levels (set levels r new) s.views id (seeing v r new) (marks id v at) (λ j u _ there. marks j u there);
      },
      (record { found = found; seen = λ l small e. ap (λ (m : Level). seeing v r (lesser old m)) (same_words (At x) l lowering.small small (sym is ∙ e)) }, refl),
    )

pub clears : (f : Frame) (slots id : ℕ) (me : Me (Unit {0}) View) (r : ℕ) → me.0.spent ≡ false → me.0.owner ≡ true → length me.0.cleared ≡ rows_of f → frame_of me.0 ≡ f → r < rows_of f
    → IsAbove f r Empty → Allows (Keeps f) slots id me r (λ n. min n 0) (Clears (step slots r 0 0 none) me)
clears f slots id me r unspent owner marks same within above s kept all_home at fits =
    let v = me.0 in
    let levels = kept.levels in
    let claim = kept.claim in
    let here : r < length levels = omega (arith, kept.valid.one_each) in
    let marks_here : r < length v.cleared = omega (arith, marks) in
    let found = found_of f s id v r kept at unspent same within (word_found f s r kept within) in
    let made : min (get_or s.words r 0) 0 ≡ 0 = omega arith in
    let words : set s.words r (min (get_or s.words r 0) 0) ≡ words_of (set levels r Empty) claim =
    ap (λ (n : ℕ). set s.words r n) made ∙ (ap (λ ws. set ws r 0) kept.words ∙ words_set levels claim r Empty here) in (
      clearing v r,
      keeps,
      tt,
      record {
        levels = set levels r Empty;
        claim = claim;
        words = words;
        valid = clear_keeps reader_of f levels s.views id v (clearing v r) r kept.valid at unspent owner within above refl;
        marked = marks_with f levels (set levels r Empty) s.views id (clearing v r)
            (λ _. each_of_both (λ i m b. m ≡ Empty → b ≡ true) Empty false levels v.cleared (rows_of f) r Empty true here marks_here (λ _. refl) (kept.marked id v at owner))
            (λ j u ne there too. absurd (ne (kept.valid.one_owner j u there too ∙ sym (kept.valid.one_owner id v at owner))));
      },
      (record { found = found; seen = refl }, refl),
    )

pub draws : (f : Frame) (slots id : ℕ) (me : Me (Unit {0}) View) (n k : ℕ) → me.0.spent ≡ false → n ≡ rows_of f
    → Allows (Keeps f) slots id me n (λ m. (m + k) % 2 ^ 64) (Draws (step slots n k 0 none) me)
draws f slots id me n k unspent is s kept all_home at fits =
    let v = me.0 in
    let levels = kept.levels in
    let claim = get_or s.words n 0 in
    let next = (claim + k) % 2 ^ 64 in
    let end : length (map kept_word levels) ≡ n = length-map kept_word levels ∙ (kept.valid.one_each ∙ sym is) in (
      drawing v claim,
      keeps,
      tt,
      record {
        levels = levels;
        claim = next;
        words = ap (λ ws. set ws n next) kept.words ∙ set_at (map kept_word levels) kept.claim [] next n end;
        valid = valid_with reader_of f levels levels s.views id v (drawing v claim) kept.valid at kept.valid.one_each kept.valid.sound (λ h. h) (λ h. (h, unspent)) (λ _. kept.valid.fits id v at unspent) (λ j u ne there h. h);
        marked = marks_with f levels levels s.views id (drawing v claim) (kept.marked id v at) (λ j u _ there. kept.marked j u there);
      },
      (refl, refl),
    )

pub splits : (f : Frame) (id : ℕ) (v : View) → v.spent ≡ false → Splits (Keeps f) id v v (copied v)
splits f id v unspent s kept at =
    let views : set s.views id v ≡ s.views = set_again s.views id v at in
    subst (λ vs. Keeps f record { words = s.words; homes = s.homes; views = vs ++ copied v ∷ [] }) (sym views) (record {
      levels = kept.levels;
      claim = kept.claim;
      words = kept.words;
      valid = split_keeps reader_of f kept.levels s.views id v (copied v) kept.valid at unspent refl;
      marked = λ j u there owner. ⊎_elim
          (λ (was : get_elem? s.views j ≡ some u). kept.marked j u was owner)
          (λ (new : copied v ≡ u). absurd (false≢true (ap (λ (x : View). x.owner) new ∙ owner)))
          (at_snoc s.views (copied v) u j there);
    })

pub joins : (f : Frame) (id : ℕ) (v : View) (other : ℕ) (w : View) → v.spent ≡ false → w.spent ≡ false → w.owner ≡ false
    → Joins (Keeps f) id v other w (joined v w) spent_view
joins f id v other w unspent unspent' no_owner s kept at apart there =
    let was = ⊎_elim (λ (t : (other ≡ id) × (joined v w ≡ w)). absurd (apart t.0)) (λ (t : (other ≢ id) × (get_elem? s.views other ≡ some w)). t.1) (at_set s.views id other (joined v w) w there) in record {
      levels = kept.levels;
      claim = kept.claim;
      words = kept.words;
      valid = join_keeps reader_of f kept.levels s.views id v other w (joined v w) spent_view kept.valid at unspent apart was unspent' no_owner refl refl refl;
      marked = marks_with f kept.levels kept.levels (set s.views id (joined v w)) other spent_view (λ e. absurd (false≢true e))
          (λ j u _ h. marks_with f kept.levels kept.levels s.views id (joined v w) (kept.marked id v at) (λ i t _ is. kept.marked i t is) j u h);
    }

pub learns : (f : Frame) (slots id : ℕ) (me : Me (Unit {0}) View) (r : ℕ) → me.0.spent ≡ false → frame_of me.0 ≡ f → Allows (Keeps f) slots id me r (λ n. n) (Learns (step slots r 0 0 none) me)
learns f slots id me r unspent same s kept all_home at fits =
    let v = me.0 in
    let levels = kept.levels in
    let mine = kept.valid.fits id v at unspent in
    let views : set s.views id v ≡ s.views = set_again s.views id v at in (
      v,
      keeps,
      tt,
      record {
        levels = levels;
        claim = kept.claim;
        words = set-get_or s.words r 0 ∙ kept.words;
        valid = subst (AreValid reader_of f levels) (sym views) kept.valid;
        marked = subst (AreMarked f levels) (sym views) kept.marked;
      },
      (
        refl,
        λ owner j below e. let here : j < rows_of f = subst (λ (g : Frame). j < rows_of g) same below in
            kept.marked id v at owner j here (at_most_empty (get_or levels j Empty) (level_at v.seen j) (mine.above j here) e),
      ),
    )
