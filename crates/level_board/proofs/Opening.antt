-- The words of a start keep the rule.
use Rattle.std.proofs.Common.{◌≡◌, ℕ, zero, suc, ◌+◌, ◌<◌, List, [], ◌∷◌, map, length, refl, sym, ap, ◌∙◌, subst, true, false, true≢false, arith}
use Rattle.std.proofs.lemmas.List.{length_push}
use mathlib.Core.Option.{some, some-injective, some-ne-none}
use lib.ListN.{get_elem?}
use Rattle.atomic_table.specs.Table.{opening}
use Rattle.level_table.specs.declared.level.Level.{Level}
use Rattle.level_table.specs.declared.level.Level.TheVariants.{Empty, At}
use Rattle.level_table.specs.declared.reason.Note.{Note}
use Rattle.level_table.specs.Levels.{Table, level_at}
use Rattle.level_table.specs.Tables.{kept_word}
use Rattle.game_model.specs.Game.{DynamicGame}
use Rattle.direction_set.specs.DirectionTable.{DirectionTable}
use Rattle.schedule_core.specs.Frame.{Frame, IsFrame, IsOpened, rows_of}
use Rattle.schedule_core.proofs.Opening.{start_fits, start_named, start_seen}
use Rattle.level_board.specs.declared.view.Key.{Key}
use Rattle.level_board.specs.declared.view.View.{View}
use Rattle.level_board.specs.Board.{words_of}
use Rattle.level_board.specs.Rule.{frame_of_key, first_view, is_empty, reader_of, Keeps, IsOwner}
use Rattle.level_board.proofs.Words.{get_or-map, length-map}

empty_marked : (l : Level) → l ≡ Empty → is_empty l ≡ true
empty_marked Empty e = refl
empty_marked (At x) e = absurd (cc)

marked_empty : (l : Level) → is_empty l ≡ true → l ≡ Empty
marked_empty Empty e = refl
marked_empty (At x) e = absurd (true≢false (sym e))

marked_row : (f : Frame) (r : ℕ) → IsFrame f → r < rows_of f → level_at f.start r ≡ Empty → Rattle.std.proofs.Common.get_or (map is_empty f.start.levels) r false ≡ true
marked_row f r frame below e = get_or-map is_empty f.start.levels r Empty false (omega (arith, frame.whole.one_each)) ∙ empty_marked (level_at f.start r) e

pub opens : (k : Key) (notes : List Note) → IsFrame (frame_of_key k) → IsOpened (frame_of_key k) notes → Keeps (frame_of_key k) (opening (words_of k.start.value.levels 0) [] (first_view k))
opens k notes frame ok =
    let f = frame_of_key k in
    let seen = start_seen f notes frame ok in record {
      levels = f.start.levels;
      claim = 0;
      words = refl;
      valid = record {
        one_each = frame.whole.one_each;
        sound = seen.sound;
        fits = λ id u e un. start_fits f notes (reader_of u) frame ok (seen_is id u e);
        one_owner = first;
        first = first_view k;
        first_is = refl;
        first_owns = refl;
        first_stays = refl;
      };
      marked = marks;
    }
  where
    seen_is : (id : ℕ) (u : View) → get_elem? (first_view k ∷ []) id ≡ some u → u.seen ≡ k.start.value
    seen_is zero u e = sym (ap (λ (v : View). v.seen) (some-injective _ _ e))
    seen_is (suc id) u e = absurd (some-ne-none u (sym e))

    first : (id : ℕ) (u : View) → get_elem? (first_view k ∷ []) id ≡ some u → u.owner ≡ true → id ≡ 0
    first zero u e owner = refl
    first (suc id) u e owner = absurd (some-ne-none u (sym e))

    marks : (id : ℕ) (u : View) → get_elem? (first_view k ∷ []) id ≡ some u → u.owner ≡ true → (r : ℕ) → r < rows_of (frame_of_key k) → level_at k.start.value r ≡ Empty → Rattle.std.proofs.Common.get_or u.cleared r false ≡ true
    marks zero u e owner r below is = subst (λ (v : View). Rattle.std.proofs.Common.get_or v.cleared r false ≡ true) (some-injective _ _ e) (marked_row (frame_of_key k) r frame below is)
    marks (suc id) u e owner r below is = absurd (some-ne-none u (sym e))

pub owner_opened : (k : Key) (notes : List Note) → IsFrame (frame_of_key k) → IsOpened (frame_of_key k) notes → IsOwner (first_view k) notes
owner_opened k notes frame ok =
    let f = frame_of_key k in record {
      pass = record { frame = frame; unspent = refl; seen = start_seen f notes frame ok };
      owner = refl;
      kept = ok.start.kept_above;
      marks = length-map is_empty f.start.levels ∙ frame.whole.one_each;
      marked = λ r below e. marked_row f r frame below e;
      named = λ r below e. start_named f notes frame ok r below (marked_empty (level_at f.start r) (sym (get_or-map is_empty f.start.levels r Empty false (omega (arith, frame.whole.one_each))) ∙ e));
    }

pub keyed : (k : Key) (g : DynamicGame) (d : DirectionTable) (n : ℕ) (t : Table) → k.game.value ≡ g → k.directions.value ≡ d → k.grid ≡ n → k.start.value ≡ t
    → frame_of_key k ≡ record { problem = record { game = g; directions = d.vectors; grid = n }; start = t }
keyed k g d n t e h i j = λ x. record { problem = record { game = e x; directions = (h x).vectors; grid = i x }; start = j x }

pub opens_as : (k : Key) (f : Frame) (notes : List Note) (ws : List ℕ) → frame_of_key k ≡ f → IsFrame f → IsOpened f notes → ws ≡ words_of f.start.levels 0 → Keeps (frame_of_key k) (opening ws [] (first_view k))
opens_as k f notes ws same frame ok words =
    subst (λ (xs : List ℕ). Keeps (frame_of_key k) (opening xs [] (first_view k))) (sym (words ∙ ap (λ (g : Frame). words_of g.start.levels 0) (sym same)))
    (opens k notes (subst IsFrame (sym same) frame) (subst (λ (g : Frame). IsOpened g notes) (sym same) ok))

pub words_count : (f : Frame) → IsFrame f → (ws : List ℕ) → ws ≡ words_of f.start.levels 0 → length ws ≡ rows_of f + 1
words_count f ok ws is = ap length is ∙ (length_push (map kept_word f.start.levels) 0 ∙ ap (λ (n : ℕ). n + 1) (length-map kept_word f.start.levels ∙ ok.whole.one_each))

pub owner_opened_as : (k : Key) (v : View) (f : Frame) (notes : List Note) → frame_of_key k ≡ f → v ≡ first_view k → IsFrame f → IsOpened f notes → IsOwner v notes
owner_opened_as k v f notes same is frame ok =
    subst (λ (x : View). IsOwner x notes) (sym is) (owner_opened k notes (subst IsFrame (sym same) frame) (subst (λ (g : Frame). IsOpened g notes) (sym same) ok))
