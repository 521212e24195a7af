-- Rows that were passed, and their marks.
use Rattle.std.proofs.Common.{◌≡◌, inl, inr, ℕ, ◌+◌, ◌-◌, ◌/◌, ◌<◌, All, List, length, get_or, set, Bool, true, false, refl, sym, ap, subst, ◌∙◌, arith}
use Rattle.std.specs.Prelude.{◌++◌}
use Rattle.std.proofs.lemmas.Bool.{cases_eq, cases_lt, false≢true}
use Rattle.std.proofs.lemmas.List.{get_or-set_other, get_or_append_left, get_or-append-add, get_or-append_right, length-append}
use Rattle.std.proofs.lemmas.List.Elements.{All-append}
use Rattle.level_table.specs.Levels.{Levels, Table, IsBelow, levels_in}
use Rattle.bound_laws.proofs.Levels.{level_at_most_trans}
use Rattle.bound_laws.proofs.Operator.{admissible_grows}
use Rattle.level_board.proofs.Moments.{fallen_trans}
use Rattle.schedule_core.specs.Frame.{Frame, IsFallen, IsFrame, rows_of}
use Rattle.schedule_core.proofs.Levels.{row_known}
use Rattle.worker_pass.specs.Updates.{IsPassedRow}
use Rattle.level_board.specs.Board.{BoardId}
use Rattle.worker_pass.specs.Work.{Did, HaveWorked, IsWorkerOf, Marks}
use Rattle.worker_pass.specs.declared.working.Worker.{Worker}
use Rattle.worker_pass.proofs.Falling.{below_rows, fallen_below, fallen_same, fallen_to}

pub passed_fallen : (f : Frame) (above : Levels) (t u : Table) (r : ℕ) → IsFrame f → r < rows_of f → IsFallen t u → IsPassedRow f above t r → IsPassedRow f above u r
passed_fallen f above t u r ok known fallen passed l level = elim (passed l level) [
  | inl h ↦ inl (level_at_most_trans _ _ _ (fallen.fell r) h)
  | inr dead ↦ inr (λ a y profile adm. dead a y profile (admissible_grows f.problem (levels_in u) (levels_in t) (r / f.start.directions) a y ok.problem (below_rows f.problem t u fallen) (row_known f r ok known).state profile adm))
]

-- one row more is marked
pub marks_more : (f : Frame) (above : Levels) (w w' : Worker) (row : ℕ) → IsFrame f → IsFallen w.pass.seen w'.pass.seen
    → w'.done ≡ set w.done row true → IsPassedRow f above w'.pass.seen row → Marks f above w → Marks f above w'
marks_more f above w w' row ok fallen done here marks r known marked = elim (cases_eq r row) [
  | inl e ↦ subst (λ (k : ℕ). IsPassedRow f above w'.pass.seen k) (sym e) here
  | inr ne ↦ passed_fallen f above w.pass.seen w'.pass.seen r ok known fallen (marks r known (sym (ap (λ (ds : List Bool). get_or ds r false) done ∙ get_or-set_other w.done row r true false ne) ∙ marked))
]

-- ---- what a worker does, step by step
pub did_nothing : (f : Frame) (w w' : Worker) → w'.pass.seen ≡ w.pass.seen → ((r : ℕ) → get_or w'.done r false ≡ false) → Did f w w'
did_nothing f w w' same none = record {
  fallen = fallen_same w.pass.seen w'.pass.seen same;
  marks = λ above below r known marked. absurd (false≢true (sym (none r) ∙ marked));
}

pub did_drawn : (f : Frame) (w w1 w2 : Worker) → w2.pass.seen ≡ w1.pass.seen → w2.done ≡ w1.done → Did f w w1 → Did f w w2
did_drawn f w w1 w2 same done h = record {
  fallen = fallen_to w.pass.seen w1.pass.seen w2.pass.seen same h.fallen;
  marks = λ above below r known marked. subst (λ (t : Table). IsPassedRow f above t r) (sym same) (h.marks above below r known (sym (ap (λ (ds : List Bool). get_or ds r false) done) ∙ marked));
}

pub did_more : (f : Frame) (w w1 w2 : Worker) → IsFallen w1.pass.seen w2.pass.seen
    → ((above : Levels) → IsBelow f.problem (levels_in w1.pass.seen) above → Marks f above w1 → Marks f above w2) → Did f w w1 → Did f w w2
did_more f w w1 w2 fallen marked h = record {
  fallen = fallen_trans w.pass.seen w1.pass.seen w2.pass.seen h.fallen fallen;
  marks = λ above below. marked above (fallen_below f.problem w.pass.seen w1.pass.seen above h.fallen below) (h.marks above below);
}

-- ---- workers in parts
pub worked_none : (b : BoardId) (ws : List Worker) → length ws ≡ 0 → HaveWorked b ws ws
worked_none b ws none = record {
  len = refl;
  workers = λ i d below. absurd (omega (arith, below, none));
  did = λ i d below. absurd (omega (arith, below, none));
}

pub worked_one : (b : BoardId) (ws ws' : List Worker) → length ws ≡ 1 → length ws' ≡ 1 → ((d : Worker) → IsWorkerOf b (get_or ws' 0 d)) → ((d : Worker) → Did b.frame (get_or ws 0 d) (get_or ws' 0 d)) → HaveWorked b ws ws'
worked_one b ws ws' one one' worker did = record {
  len = one' ∙ sym one;
  workers = λ i d below. let e : 0 ≡ i = omega (arith, below, one') in subst (λ (k : ℕ). IsWorkerOf b (get_or ws' k d)) e (worker d);
  did = λ i d below. let e : 0 ≡ i = omega (arith, below, one) in subst (λ (k : ℕ). Did b.frame (get_or ws k d) (get_or ws' k d)) e (did d);
}

pub all_left : {X : Type 0} → (P : X → Type 0) → (xs ys : List X) → All P (xs ++ ys) → All P xs
all_left P xs ys all i d below = subst P (get_or_append_left xs ys d i below) (all i d (omega (arith, below, length-append xs ys)))

pub all_right : {X : Type 0} → (P : X → Type 0) → (xs ys : List X) → All P (xs ++ ys) → All P ys
all_right P xs ys all i d below = subst P (get_or-append-add xs ys i d) (all (length xs + i) d (omega (arith, below, length-append xs ys)))

pub worked_together : (b : BoardId) (xs ys xs' ys' : List Worker) → HaveWorked b xs xs' → HaveWorked b ys ys' → HaveWorked b (xs ++ ys) (xs' ++ ys')
worked_together b xs ys xs' ys' front back = record {
  len = omega (arith, front.len, back.len, length-append xs ys, length-append xs' ys');
  workers = All-append (IsWorkerOf b) xs' ys' front.workers back.workers;
  did = λ i d below. elim (cases_lt i (length xs)) [
    | inl lt ↦ subst (λ (w : Worker). Did b.frame w (get_or (xs' ++ ys') i d)) (sym (get_or_append_left xs ys d i lt))
        (subst (λ (w : Worker). Did b.frame (get_or xs i d) w) (sym (get_or_append_left xs' ys' d i (omega (arith, lt, front.len)))) (front.did i d lt))
    | inr ge ↦ subst (λ (w : Worker). Did b.frame w (get_or (xs' ++ ys') i d)) (sym (get_or-append_right xs ys (length xs) i d refl ge))
        (subst (λ (w : Worker). Did b.frame (get_or ys (i - length xs) d) w) (sym (get_or-append_right xs' ys' (length xs) i d front.len ge)) (back.did (i - length xs) d (omega (arith, below, ge, length-append xs ys))))
  ];
}

pub worked_split : (b : BoardId) (ws xs ys xs' ys' : List Worker) → ws ≡ xs ++ ys → HaveWorked b xs xs' → HaveWorked b ys ys' → HaveWorked b ws (xs' ++ ys')
worked_split b ws xs ys xs' ys' e front back = subst (λ (vs : List Worker). HaveWorked b vs (xs' ++ ys')) (sym e) (worked_together b xs ys xs' ys' front back)
