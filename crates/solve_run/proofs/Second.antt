-- the second file, loaded behind those of the game
use Rattle.std.proofs.Common.{◌≡◌, inl, inr, ℕ, List, Option, Ok, refl, sym, subst, ap, ◌∙◌}
use Rattle.game_model.specs.Game.{DynamicGame}
use Rattle.game_files.specs.declared.fault.FileId.TheVariants.{Second}
use Rattle.game_files.specs.declared.fault.GameFault.{GameFault}
use Rattle.game_files.specs.declared.fault.GameFault.TheVariants as faults
use Rattle.game_files.specs.Loads.{AreLoads, Counts, Stands}
use Rattle.game_files.specs.Files.{AreLoadsOf, file_count}
use Rattle.game_files.proofs.Moved.{load_fault, more, stands}
use Rattle.selfgen_check.specs.declared.text_fault.CorrTextFault.{CorrTextFault}
use Rattle.selfgen_check.specs.declared.text_fault.CorrTextFault.TheVariants.{Bad, Limit, Wide, NoMemory as OutOfMemory}
use Rattle.selfgen_check.specs.Measures.{corr_of}
use Rattle.selfgen_check.specs.Promises.{Promises}
use Rattle.selfgen_check.specs.TextFaults.{Fails}
use Rattle.schedule_core.specs.declared.moves.Schedule.{Schedule}
use Rattle.schedule_core.specs.declared.schedule_fault.ScheduleFault.{ScheduleFault}
use Rattle.schedule_core.specs.declared.schedule_fault.ScheduleFault.TheVariants as schedules
use Rattle.schedule_core.specs.Schedules.{Fails as ScheduleFails, schedule_of}
use Rattle.solve_run.specs.Replays.{IsNoSchedule, IsScheduleFault, IsScheduleOf, IsScheduleTextFault, schedule_refused}
use Rattle.solve_run.specs.Checks.{IsCorrFault, IsCorrOf, IsCorrTextFault, IsNoCorr, IsSecondFault, corr_refused, longest_second}

-- why a text that stands under the name gives no correspondence
text_fault : (told : List ℕ → Option (List ℕ)) (name bytes : List ℕ) (g : DynamicGame) (e : CorrTextFault) → Stands told longest_second name bytes → Fails e (corr_of g bytes) → IsCorrTextFault told name g (corr_refused e)
text_fault told name bytes g (Bad at) h f = (refl, record { bytes = bytes; stands = h; says = f })
text_fault told name bytes g (Limit what number at) h f = inl (at, record { bytes = bytes; stands = h; says = f })
text_fault told name bytes g (Wide what number) h f = inr (record { bytes = bytes; stands = h; says = f })
text_fault told name bytes g OutOfMemory h f = tt

pub told_fault : (told : List ℕ → Option (List ℕ)) (name bytes seen : List ℕ) (g : DynamicGame) (before after : Counts) (e : CorrTextFault) (r : GameFault) → Stands told longest_second name bytes → seen ≡ bytes → Fails e (corr_of g seen)
    → r ≡ corr_refused e → IsCorrFault told name g before after r
told_fault told name bytes seen g before after e r h same f is =
    subst (IsCorrFault told name g before after) (sym is) (inr (text_fault told name bytes g e h (subst (λ b. Fails e (corr_of g b)) same f)))

pub told_corr : (told : List ℕ → Option (List ℕ)) (name bytes seen : List ℕ) (g : DynamicGame) (c : Promises) → Stands told longest_second name bytes → seen ≡ bytes → corr_of g seen ≡ Ok c → IsCorrOf told name g c
told_corr told name bytes seen g c h same is = record { bytes = bytes; stands = h; says = sym (ap (corr_of g) same) ∙ is }

-- what was told at a later moment was told before
no_corr : (now old : List ℕ → Option (List ℕ)) (name : List ℕ) (g : DynamicGame) (e : CorrTextFault) → ((n : List ℕ) → now n ≡ old n) → IsNoCorr now name g e → IsNoCorr old name g e
no_corr now old name g e same h = record { bytes = h.bytes; stands = stands now old longest_second name h.bytes same h.stands; says = h.says }

pub corr_before : (now old : List ℕ → Option (List ℕ)) (name : List ℕ) (g : DynamicGame) (c : Promises) → ((n : List ℕ) → now n ≡ old n) → IsCorrOf now name g c → IsCorrOf old name g c
corr_before now old name g c same h = record { bytes = h.bytes; stands = stands now old longest_second name h.bytes same h.stands; says = h.says }

corr_text_fault : (now old : List ℕ → Option (List ℕ)) (name : List ℕ) (g : DynamicGame) (r : GameFault) → ((n : List ℕ) → now n ≡ old n) → IsCorrTextFault now name g r → IsCorrTextFault old name g r
corr_text_fault now old name g (faults.BadInput file at) same h = (h.0, no_corr now old name g (Bad at) same h.1)
corr_text_fault now old name g (faults.Beyond what number) same h =
    elim h [
      | inl limit ↦ inl (limit.0, no_corr now old name g (Limit what number limit.0) same limit.1)
      | inr wide ↦ inr (no_corr now old name g (Wide what number) same wide)
    ]
corr_text_fault now old name g (faults.TooLong file) same h = absurd h
corr_text_fault now old name g (faults.ReadFault file) same h = absurd h
corr_text_fault now old name g (faults.Shape fault) same h = absurd h
corr_text_fault now old name g faults.NoMemory same h = tt

-- the fault of the file that was loaded behind those of the game
pub second_fault : (now old : List ℕ → Option (List ℕ)) (file corr : List ℕ) (g : DynamicGame) (before mid after : Counts) (r : GameFault) → ((n : List ℕ) → now n ≡ old n) → AreLoadsOf old file before mid → AreLoads 1 mid after
    → IsCorrFault now corr g mid after r → IsSecondFault old file before after (IsCorrFault old corr g before after r)
second_fault now old file corr g before mid after r same game one h = record {
  first = game.first;
  is_first = game.is_first;
  loads = more (file_count game.first) 1 before mid after game.loads one;
  fault = elim h [
    | inl load ↦ inl (load_fault now old longest_second Second corr before mid after r same game.loads.faults game.loads.overlong load)
    | inr text ↦ inr (corr_text_fault now old corr g r same text)
  ];
}

-- ---- a schedule
-- why a text that stands under the name gives no schedule
schedule_text_fault : (told : List ℕ → Option (List ℕ)) (name bytes : List ℕ) (rows : ℕ) (e : ScheduleFault) → Stands told longest_second name bytes → ScheduleFails e (schedule_of rows bytes) → IsScheduleTextFault told name rows (schedule_refused e)
schedule_text_fault told name bytes rows (schedules.Bad at) h f = (refl, record { bytes = bytes; stands = h; says = f })
schedule_text_fault told name bytes rows (schedules.Limit what number at) h f = (at, record { bytes = bytes; stands = h; says = f })
schedule_text_fault told name bytes rows schedules.NoMemory h f = tt

pub told_schedule_fault : (told : List ℕ → Option (List ℕ)) (name bytes seen : List ℕ) (rows : ℕ) (before after : Counts) (e : ScheduleFault) (r : GameFault) → Stands told longest_second name bytes → seen ≡ bytes
    → ScheduleFails e (schedule_of rows seen) → r ≡ schedule_refused e → IsScheduleFault told name rows before after r
told_schedule_fault told name bytes seen rows before after e r h same f is =
    subst (IsScheduleFault told name rows before after) (sym is) (inr (schedule_text_fault told name bytes rows e h (subst (λ b. ScheduleFails e (schedule_of rows b)) same f)))

pub told_schedule : (told : List ℕ → Option (List ℕ)) (name bytes seen : List ℕ) (rows : ℕ) (s : Schedule) → Stands told longest_second name bytes → seen ≡ bytes → schedule_of rows seen ≡ Ok s → IsScheduleOf told name rows s
told_schedule told name bytes seen rows s h same is = record { bytes = bytes; stands = h; says = sym (ap (schedule_of rows) same) ∙ is }

no_schedule : (now old : List ℕ → Option (List ℕ)) (name : List ℕ) (rows : ℕ) (e : ScheduleFault) → ((n : List ℕ) → now n ≡ old n) → IsNoSchedule now name rows e → IsNoSchedule old name rows e
no_schedule now old name rows e same h = record { bytes = h.bytes; stands = stands now old longest_second name h.bytes same h.stands; says = h.says }

pub schedule_before : (now old : List ℕ → Option (List ℕ)) (name : List ℕ) (rows : ℕ) (s : Schedule) → ((n : List ℕ) → now n ≡ old n) → IsScheduleOf now name rows s → IsScheduleOf old name rows s
schedule_before now old name rows s same h = record { bytes = h.bytes; stands = stands now old longest_second name h.bytes same h.stands; says = h.says }

schedule_fault_before : (now old : List ℕ → Option (List ℕ)) (name : List ℕ) (rows : ℕ) (r : GameFault) → ((n : List ℕ) → now n ≡ old n) → IsScheduleTextFault now name rows r → IsScheduleTextFault old name rows r
schedule_fault_before now old name rows (faults.BadInput file at) same h = (h.0, no_schedule now old name rows (schedules.Bad at) same h.1)
schedule_fault_before now old name rows (faults.Beyond what number) same h = (h.0, no_schedule now old name rows (schedules.Limit what number h.0) same h.1)
schedule_fault_before now old name rows (faults.TooLong file) same h = absurd h
schedule_fault_before now old name rows (faults.ReadFault file) same h = absurd h
schedule_fault_before now old name rows (faults.Shape fault) same h = absurd h
schedule_fault_before now old name rows faults.NoMemory same h = tt

pub second_schedule_fault : (now old : List ℕ → Option (List ℕ)) (file schedule : List ℕ) (rows : ℕ) (before mid after : Counts) (r : GameFault) → ((n : List ℕ) → now n ≡ old n) → AreLoadsOf old file before mid → AreLoads 1 mid after
    → IsScheduleFault now schedule rows mid after r → IsSecondFault old file before after (IsScheduleFault old schedule rows before after r)
second_schedule_fault now old file schedule rows before mid after r same game one h = record {
  first = game.first;
  is_first = game.is_first;
  loads = more (file_count game.first) 1 before mid after game.loads one;
  fault = elim h [
    | inl load ↦ inl (load_fault now old longest_second Second schedule before mid after r same game.loads.faults game.loads.overlong load)
    | inr text ↦ inr (schedule_fault_before now old schedule rows r same text)
  ];
}
