-- what a run says of its report, and that the report can be printed
use Rattle.std.proofs.Common.{◌≡◌, ℕ, zero, suc, ◌*◌, ◌^◌, ◌<◌, ◌≤◌, List, [], ◌∷◌, length, All, Option, Some, None, sym, ◌∙◌, subst, arith, ℤ, pos, negsuc, ◌≤ℤ◌, FitsSigned}
use Rattle.std.specs.Int.RustNames.{unsigned_abs}
use Rattle.std.specs.Prelude.{slice_index_or}
use Rattle.std.specs.Int.{w128}
use Rattle.std.proofs.lemmas.Int.{ints, fits_signed_mul}
use Rattle.std.proofs.lemmas.List.Elements.{All-append}
use Rattle.game_model.specs.Game.{DynamicGame, IsGame, states, unit_of}
use Rattle.level_table.specs.Problem.{Problem, IsProblem, direction_count}
use Rattle.level_table.specs.Levels.{Table, IsTableOf, opening_table}
use Rattle.level_table.proofs.Sizes.{base_times_fineness_small}
use Rattle.set_operator.specs.declared.row.Support.{Support}
use Rattle.set_operator.specs.declared.row.Verdict.{Verdict}
use Rattle.set_operator.specs.declared.row.Verdict.TheVariants.{Supported, Unsupported}
use Rattle.settle_test.specs.Verdicts.{IsVerdict, AreSupports, IsSupportOf, state_of, direction_of}
use Rattle.selfgen_check.specs.Promises.{Promises}
use Rattle.report_text.specs.ReportText.{IsPrintable, IsPrintableVerdict, IsPrintableSet, IsFraction, rows_of}
use Rattle.report_text.specs.declared.report.Report.{Report}
use Rattle.sweep_run.specs.Runs.{IsRunFrom}
use Rattle.std.proofs.Math.Nat.{mul-pos}
use Rattle.exact_algebra.proofs.Order.{abs_within}
use Rattle.solve_run.specs.Inner.{IsInnerShown}
use Rattle.solve_run.specs.Solved.{run_of}

pub unit_fits : (g : DynamicGame) (grid : ℕ) → IsGame g → grid ≤ 30 → FitsSigned w128 (unit_of g grid)
unit_fits g grid game few =
    fits_signed_mul w128 g.denominator (pos (g.base * 2 ^ grid)) (2 ^ 40) (2 ^ 60)
    (abs_within g.denominator (2 ^ 40) (omega (arith, ints, game.denominator_positive)) game.denominator_small)
    (base_times_fineness_small g grid game few) (omega arith)

all_of_none : (P : Support → Type 0) → All P []
all_of_none P k d below = absurd (omega (arith, below))

all_of_one : (P : Support → Type 0) (x : Support) → P x → All P (x ∷ [])
all_of_one P x h zero d below = h
all_of_one P x h (suc k) d below = absurd (omega (arith, below))

not_least : (xs : List ℤ) → All (λ x. unsigned_abs x ≤ 2 ^ 88) xs → All (λ n. unsigned_abs n < 2 ^ 127) xs
not_least xs h k d below = let z : unsigned_abs (slice_index_or xs k d) ≤ 2 ^ 88 = h k d below in omega arith

-- a support on a row, with a small point that is admissible
printable_one : (p : Problem) (t : Table) (slack n rows : ℕ) (x : ℤ) (support : Support) → support.row ≡ n → IsSupportOf p t slack support (state_of p n) (direction_of p n) x → n < rows → All (λ (s : Support). (s.row < rows) × IsFraction s.point.num s.point.den) (support ∷ [])
printable_one p t slack n rows x support row fine below =
    all_of_one (λ (s : Support). (s.row < rows) × IsFraction s.point.num s.point.den) support
    (omega (arith, row, below), record { positive = fine.first.admissible.positive; not_least = not_least support.point.num fine.small.num_small })

printable_all : (p : Problem) (t : Table) (slack n rows : ℕ) (supports : List Support) → AreSupports p t slack n supports → n ≤ rows → All (λ (s : Support). (s.row < rows) × IsFraction s.point.num s.point.den) supports
printable_all p t slack zero rows supports e below = subst (All (λ (s : Support). (s.row < rows) × IsFraction s.point.num s.point.den)) (sym e) (all_of_none (λ (s : Support). (s.row < rows) × IsFraction s.point.num s.point.den))
printable_all p t slack (suc n) rows supports (before, None, all, e, verdict) below =
    subst (All (λ (s : Support). (s.row < rows) × IsFraction s.point.num s.point.den)) (sym e)
    (All-append (λ (s : Support). (s.row < rows) × IsFraction s.point.num s.point.den) before []
    (printable_all p t slack n rows before all (omega (arith, below)))
    (all_of_none (λ (s : Support). (s.row < rows) × IsFraction s.point.num s.point.den)))
printable_all p t slack (suc n) rows supports (before, Some support, all, e, (x, here, row, fine)) below =
    subst (All (λ (s : Support). (s.row < rows) × IsFraction s.point.num s.point.den)) (sym e)
    (All-append (λ (s : Support). (s.row < rows) × IsFraction s.point.num s.point.den) before (support ∷ [])
    (printable_all p t slack n rows before all (omega (arith, below)))
    (printable_one p t slack n rows x support row fine (omega (arith, below))))

printable_verdict : (p : Problem) (slack : ℕ) (r : Report) (v : Verdict) → length r.levels.levels ≡ rows_of r → IsVerdict p r.levels slack v → IsPrintableVerdict r v
printable_verdict p slack r (Supported supports) rows verdict = printable_all p r.levels slack (length r.levels.levels) (rows_of r) supports verdict.1 (omega (arith, rows))
printable_verdict p slack r (Unsupported row level reached) rows verdict = omega (arith, rows, verdict.0)

abs_positive : (z : ℤ) → pos 1 ≤ℤ z → 0 < unsigned_abs z
abs_positive (pos n) h = omega (arith, ints)
abs_positive (negsuc n) h = absurd (omega (arith, ints))

-- inner sets of the report's states and players, with their numbers
printable_inner : (g : DynamicGame) (n : ℕ) (r : Report) (inner : Option Promises) → IsGame g → r.players ≡ g.players → r.states ≡ states g → IsInnerShown g n inner r.numbers → IsPrintableSet r inner
printable_inner g n r None ok players count shown = shown.1
printable_inner g n r (Some c) ok players count shown =
    let made = shown.1.self_generating in (
      shown.1.numbered.one_list_each ∙ sym count,
      record {
        positive = rw shown.1.inner.common (mul-pos {m = unsigned_abs g.denominator} {n = n} (abs_positive g.denominator ok.denominator_positive) shown.0);
        one_list_each = made.one_list_each ∙ sym count;
        one_number_each = λ s below. (shown.1.numbered.each s (omega (arith, below, count))).one_each;
        one_part_each = λ s j below known. (made.generated s j (omega (arith, below, count)) known).parts ∙ sym players;
      },
    )

pub report_prints : (p : Problem) (slack budget : ℕ) (r : Report) → IsProblem p → r.players ≡ p.game.players → r.states ≡ states p.game → r.directions ≡ direction_count p
    → IsRunFrom p (opening_table p) [] slack budget (run_of r) → length r.discounts ≡ p.game.players → All (λ d. 0 < d.1) r.discounts → (n : ℕ) → IsInnerShown p.game n r.inner r.numbers → IsPrintable r
report_prints p slack budget r ok players count directions run each positive n inner =
    let table : IsTableOf p r.levels = run.run.sound.table.sizes in
    let states_same : r.levels.states ≡ r.states = table.states_agree ∙ sym count in
    let directions_same : r.levels.directions ≡ r.directions = table.directions_agree ∙ sym directions in
    let rows : length r.levels.levels ≡ rows_of r = rw (← states_same, ← directions_same) run.run.sound.table.whole.one_each in
    record {
      some_player = omega (arith, players, ok.game.two_players);
      few_players = omega (arith, players, ok.game.three_players);
      one_each = each ∙ sym players;
      positive = positive;
      states = states_same;
      directions = directions_same;
      verdict = printable_verdict p slack r r.verdict rows run.is_verdict;
      sets = printable_inner p.game n r r.inner ok.game players count inner;
    }
