-- The words of the text of a report that keeps the rules.
use Rattle.std.proofs.Common.{◌≡◌, ℕ, ◌+◌, ◌*◌, ◌<◌, ◌≤◌, ◌^◌, List, [], ◌∷◌, ◌++◌, length, take, refl, sym, ap, subst, ◌∙◌, arith, append_assoc, ℤ, pos, ◌≤ℤ◌}
use Rattle.std.specs.Prelude.{All, codes, Option, Some, None}
use Rattle.std.specs.Int.RustNames.{unsigned_abs}
use Rattle.std.proofs.lemmas.Nat.{mul-le}
use Rattle.pay_frac.specs.Ratio.{Ratio}
use Rattle.std.specs.Fmt.{signed_decimal}
use Rattle.std.proofs.lemmas.List.{append-nil}
use Rattle.std.proofs.lemmas.List.Elements.{All-get_or}
use Rattle.std.proofs.Math.Seq.{take-length}
use Rattle.level_table.specs.declared.level.Level.{Level}
use Rattle.level_table.specs.declared.level.Level.TheVariants.{Empty, At}
use Rattle.level_table.specs.declared.reason.Note.{Note}
use Rattle.level_table.specs.Levels.{IsSmall}
use Rattle.set_operator.specs.declared.row.Support.{Support}
use Rattle.set_operator.specs.declared.row.Verdict.{Verdict}
use Rattle.set_operator.specs.declared.row.Verdict.TheVariants.{Supported, Unsupported}
use Rattle.report_lines.specs.Words.{words_of}
use Rattle.report_text.specs.declared.report.Report.{Report}
use Rattle.report_text.specs.ReportText.{IsReportText, IsVerdictText, discount_at, line, notes_text, reached_word, row_line, row_words, rows_of, status_word, texts_below}
use Rattle.report_text.specs.Reading.{BeginsWithHead, BeginsWithVerdict, last_words, levels_words, notes_words}
use Rattle.report_text.specs.Rules.{AreSupports, IsShortValue, KeepsRules, KeepsVerdict, sizes_of}
use Rattle.report_text.proofs.SetLemmas.{plain_parts}
use Rattle.report_text.proofs.NoteWords.{AreSmallSizes, AreSmallSupports, place_clean, words_notes, words_points}
use Rattle.report_text.proofs.Sizes.{directions_few, unit_few}
use Rattle.report_text.proofs.TextWords.{Clean, clean_from, fractions_clean, head_words, ratio_clean, signed_clean, small_abs, words_line, words_rows}

-- The words of a text, piece by piece.
pub record AreWords (r : Report) (words : List (List ℕ)) : Type 0 where
  pub behind_head : List (List ℕ)
  pub behind_levels : List (List ℕ)
  pub behind_verdict : List (List ℕ)
  pub head : BeginsWithHead r words behind_head
  pub levels : behind_head ≡ levels_words r.directions 0 r.levels.levels ++ behind_levels
  pub verdict : BeginsWithVerdict (sizes_of r) r.verdict behind_levels behind_verdict
  pub notes : behind_verdict ≡ notes_words r.notes.list ++ last_words

four_pieces : (h x y z e : List ℕ) → h ++ x ++ y ++ z ++ e ≡ h ++ (x ++ (y ++ (z ++ (e ++ []))))
four_pieces h x y z e = simp (append_assoc, append-nil)

rows_few : (states directions : ℕ) → states ≤ 64 → directions ≤ 32 → states * directions ≤ 64 * 32
rows_few states directions h k = mul-le states directions 64 32 h k

solves_few : (sweeps rows : ℕ) → sweeps < 2 ^ 64 → rows ≤ 64 * 32 → sweeps * rows < 10 ^ 64
solves_few sweeps rows h k =
    let low : sweeps ≤ 2 ^ 64 = omega arith in
    let m : sweeps * rows ≤ 2 ^ 64 * (64 * 32) = mul-le sweeps rows (2 ^ 64) (64 * 32) low k in
    omega arith

status_clean : (v : Verdict) → Clean (status_word v)
status_clean (Supported supports) = clean_from (codes "settled") refl
status_clean (Unsupported row level reached) = clean_from (codes "spent") refl

reached_clean : (o : Option Ratio) → IsShortValue o → Clean (reached_word o)
reached_clean None h = clean_from (codes "none") refl
reached_clean (Some q) h = ratio_clean q h.0

unit_small : (x : ℤ) → pos 1 ≤ℤ x → x ≤ℤ pos (2 ^ 100) → unsigned_abs x < 10 ^ 64
unit_small x h k = let few : unsigned_abs x < 10 ^ 36 = unit_few x h k in omega arith

supports_small : (players row : ℕ) (ls : List Level) (ss : List Support) → row + length ls < 2 ^ 32 → AreSupports players row ls ss → AreSmallSupports ss
supports_small players row [] [] l h = tt
supports_small players row [] (s ∷ ss) l h = absurd h
supports_small players row (Empty ∷ ls) ss l h = supports_small players (row + 1) ls ss (omega arith) h
supports_small players row (At x ∷ ls) [] l h = tt
supports_small players row (At x ∷ ls) (s ∷ ss) l h =
    (omega (arith, h.0.row_is), omega (arith, h.0.profile), supports_small players (row + 1) ls ss (omega arith) h.1)

verdict_words : (r : Report) (v : Verdict) (text rest : List ℕ) → length r.levels.levels < 2 ^ 32 → r.states * r.directions < 2 ^ 32
    → r.levels.states ≡ r.states → r.levels.directions ≡ r.directions → length r.levels.levels ≡ r.states * r.directions → All IsSmall r.levels.levels
    → KeepsVerdict (sizes_of r) r.levels v → IsVerdictText r v text → BeginsWithVerdict (sizes_of r) v (words_of (text ++ rest)) (words_of rest)
verdict_words r (Supported supports) text rest l m e f n all k g = words_points r supports text rest (supports_small r.players 0 r.levels.levels supports (omega arith) k) g
verdict_words r (Unsupported row level reached) text rest l m e f n all k g =
    let known : row < r.states * r.directions = subst (λ n. row < n * r.directions) e (subst (λ n. row < r.levels.states * n) f k.known) in
    let here : row < length r.levels.levels = omega arith in
    let small : IsSmall (At level) = subst IsSmall k.kept (All-get_or IsSmall r.levels.levels row Empty here all) in
    let place = place_clean row r.directions (omega arith) in
    ap (λ (t : List ℕ). words_of (t ++ rest)) g
    ∙ words_line (codes "stop") (row_words r row ++ signed_decimal level ∷ reached_word reached ∷ []) rest (clean_from (codes "stop") refl)
    (place.0, (place.1, (signed_clean level (small_abs level small.0 small.1), (reached_clean reached k.short, tt))))

pub report_words : (r : Report) (bytes : List ℕ) → KeepsRules r → IsReportText r bytes → AreWords r (words_of bytes)
report_words r bytes k h =
    let z = sizes_of r in
    let table : r.directions ≤ 32 = directions_few r.players r.directions k.sizes.table in
    let states : r.states ≤ 64 = k.sizes.few_states in
    let players : r.players ≤ 2 = k.sizes.few_players in
    let rows : r.states * r.directions ≤ 64 * 32 = rows_few r.states r.directions states table in
    let length_is : length r.levels.levels ≡ r.states * r.directions = k.levels.one_each in
    let slack : r.slack ≤ 1000000000 = k.slack.1 in
    let sweeps : r.sweeps < 2 ^ 64 = k.sweeps in
    let small : AreSmallSizes z = record { players = omega arith; states = omega arith; directions = omega arith } in
    let end = line (codes "end") [] in
    let notes = notes_text r.notes.list ++ (end ++ []) in
    let verdict = h.verdict ++ notes in
    let levels = texts_below (row_line r) (rows_of r) ++ verdict in
    record {
      behind_head = words_of levels;
      behind_levels = words_of verdict;
      behind_verdict = words_of notes;
      head = record {
        shown = h.is_head.discounts;
        are_shown = h.is_head.are_discounts;
        words_are =
            ap words_of (plain_parts r bytes k.no_sets.0 h ∙ four_pieces h.head (texts_below (row_line r) (rows_of r)) h.verdict (notes_text r.notes.list) end)
            ∙ ap (λ (t : List ℕ). words_of (t ++ levels)) h.is_head.lines
            ∙ head_words (status_word r.verdict) z h.is_head.discounts r.unit r.slack r.sweeps (r.sweeps * rows_of r) levels
            (status_clean r.verdict)
            (fractions_clean (length h.is_head.discounts) (λ i. pos (discount_at r.discounts i).0) (λ i. pos (discount_at r.discounts i).1) h.is_head.discounts h.is_head.are_discounts.fractions)
            (omega arith) (omega arith) (omega arith) (unit_small r.unit k.unit.0 k.unit.1) (omega arith) (omega arith) (solves_few r.sweeps (r.states * r.directions) sweeps rows);
      };
      levels =
          words_rows r.directions (rows_of r) r.levels.levels verdict (omega arith) (omega arith) (omega arith) k.levels.small
          ∙ ap (λ (n : ℕ). levels_words r.directions 0 (take n r.levels.levels) ++ words_of verdict) (sym length_is)
          ∙ ap (λ (ls : List Level). levels_words r.directions 0 ls ++ words_of verdict) (take-length r.levels.levels);
      verdict = verdict_words r r.verdict h.verdict notes (omega arith) (omega arith) k.levels.states k.levels.directions length_is k.levels.small k.verdict h.is_verdict;
      notes =
          words_notes z r.levels (length r.notes.list) r.notes.list (end ++ []) small (omega arith) k.notes
          ∙ ap (λ (ns : List Note). notes_words ns ++ words_of (end ++ [])) (take-length r.notes.list)
          ∙ ap (λ (w : List (List ℕ)). notes_words r.notes.list ++ w) (words_line (codes "end") [] [] (clean_from (codes "end") refl) tt);
    }
