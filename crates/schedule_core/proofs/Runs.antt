-- Over every list of events, notes and moves, states stay valid, and words and seen levels bound.
use Rattle.std.proofs.Common.{ℕ, ◌<◌, List, [], ◌∷◌}
use Rattle.level_table.specs.declared.reason.Note.{Note}
use Rattle.level_table.specs.Levels.{level_at}
use Rattle.schedule_core.specs.declared.event.Event.TheVariants as events
use Rattle.schedule_core.specs.Frame.{Frame, IsFrame, IsOpened, rows_of}
use Rattle.schedule_core.specs.Core.{Core, IsValid, IsWorking, reader_at, seen_by, word_in}
use Rattle.schedule_core.specs.Runs.{Act, AllBound, MayAct, MayRun, acted, after, started}
use Rattle.schedule_core.proofs.Events.{at_worker, join_valid, note_valid, split_valid, step_valid}
use Rattle.schedule_core.proofs.Levels.{bounds_row}
use Rattle.schedule_core.proofs.Opening.{start_valid}

-- what is known of the state after an act
record IsGood (c : Core) : Type 0 where
  frame : IsFrame c.frame
  valid : IsValid c

act_good : (c : Core) (a : Act) → IsGood c → MayAct c a → IsGood (acted c a)
act_good c (Act.Happens (events.Load w r)) ok may = record { frame = ok.frame; valid = step_valid c (events.Load w r) ok.frame ok.valid may }
act_good c (Act.Happens (events.Lower w r x)) ok may = record { frame = ok.frame; valid = step_valid c (events.Lower w r x) ok.frame ok.valid may }
act_good c (Act.Happens (events.Clear r)) ok may = record { frame = ok.frame; valid = step_valid c (events.Clear r) ok.frame ok.valid may }
act_good c (Act.Keeps note) ok may = record { frame = ok.frame; valid = note_valid c note ok.frame ok.valid may }
act_good c (Act.Splits w) ok may = record { frame = ok.frame; valid = split_valid c w ok.frame ok.valid may }
act_good c (Act.Joins w) ok may = record { frame = ok.frame; valid = join_valid c w ok.frame ok.valid may.0 may.1 }

run_good : (c : Core) (acts : List Act) → IsGood c → MayRun c acts → IsGood (after c acts)
run_good c [] ok may = ok
run_good c (a ∷ acts) ok may = run_good (acted c a) acts (act_good c a ok may.0) may.1

pub all_bound : (c : Core) → IsFrame c.frame → IsValid c → AllBound c
all_bound c frame ok =
    let words = λ (r : ℕ) (below : r < rows_of c.frame). (ok.words.sound r below).above in
    let seen = λ (w r : ℕ) (works : IsWorking c w) (below : r < rows_of c.frame). ((ok.words.fits w (reader_at c w) (at_worker c w works) works.works).seen.sound r below).above in
    record {
      words_above = words;
      seen_above = λ w r works below. seen w r works below;
      words_bound = λ r below. bounds_row c.frame r (word_in c r) frame below (words r below);
      seen_bounds = λ w r works below. bounds_row c.frame r (level_at (seen_by c w) r) frame below (seen w r works below);
    }

pub runs_valid : (f : Frame) (n : ℕ) (notes : List Note) (acts : List Act) → IsFrame f → IsOpened f notes → MayRun (started f n notes) acts → IsValid (after (started f n notes) acts)
runs_valid f n notes acts frame ok may = (run_good (started f n notes) acts (record { frame = frame; valid = start_valid f n notes frame ok }) may).valid

pub runs_bound : (f : Frame) (n : ℕ) (notes : List Note) (acts : List Act) → IsFrame f → IsOpened f notes → MayRun (started f n notes) acts → AllBound (after (started f n notes) acts)
runs_bound f n notes acts frame ok may =
    let good = run_good (started f n notes) acts (record { frame = frame; valid = start_valid f n notes frame ok }) may in
    all_bound (after (started f n notes) acts) good.frame good.valid
