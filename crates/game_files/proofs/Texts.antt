-- the fault of a text as a refusal
use Rattle.std.proofs.Common.{◌≡◌, inl, inr, ℕ, List, Option, Err, refl, sym, subst, ◌∙◌}
use Rattle.nfg_text.specs.declared.fault.NfgFault.{NfgFault}
use Rattle.nfg_text.specs.declared.fault.NfgFault.TheVariants.{Bad, Limit, NoMemory}
use Rattle.nfg_text.specs.Wanted.{Fails}
use Rattle.nfg_text.specs.Grammar.{nfg_of}
use Rattle.game_files.specs.declared.fault.FileId.{FileId}
use Rattle.game_files.specs.declared.fault.FileId.TheVariants.{First, State}
use Rattle.game_files.specs.declared.fault.GameFault.{GameFault}
use Rattle.game_files.specs.Loads.{Counts, Stands}
use Rattle.game_files.specs.Files.{first_of, longest_file}
use Rattle.game_files.specs.Causes.{IsOneFault, text_refused}

first_told : (told : List ℕ → Option (List ℕ)) (asked bytes : List ℕ) (before after : Counts) (e : NfgFault) → Stands told longest_file asked bytes → Fails e (first_of bytes) → IsOneFault told First asked before after (text_refused First e)
first_told told asked bytes before after (Bad at) s h = inr (refl, record { bytes = bytes; stands = s; has = h })
first_told told asked bytes before after (Limit what number at) s h = inr (at, record { bytes = bytes; stands = s; has = h })
first_told told asked bytes before after NoMemory s h = inr tt

stage_told : (told : List ℕ → Option (List ℕ)) (s : ℕ) (asked bytes : List ℕ) (before after : Counts) (e : NfgFault) → Stands told longest_file asked bytes → Fails e (nfg_of bytes) → IsOneFault told (State s) asked before after (text_refused (State s) e)
stage_told told n asked bytes before after (Bad at) s h = inr (refl, record { bytes = bytes; stands = s; has = h })
stage_told told n asked bytes before after (Limit what number at) s h = inr (at, record { bytes = bytes; stands = s; has = h })
stage_told told n asked bytes before after NoMemory s h = inr tt

pub first_fault : (told : List ℕ → Option (List ℕ)) (asked bytes seen : List ℕ) (before after : Counts) (e : NfgFault) (r : GameFault) → Stands told longest_file asked bytes → seen ≡ bytes → Fails e (first_of seen) → r ≡ text_refused First e
    → IsOneFault told First asked before after r
first_fault told asked bytes seen before after e r s same h is =
    subst (IsOneFault told First asked before after) (sym is) (first_told told asked bytes before after e s (subst (λ xs. Fails e (first_of xs)) same h))

pub stage_fault : (told : List ℕ → Option (List ℕ)) (n : ℕ) (asked bytes seen : List ℕ) (before after : Counts) (e : NfgFault) (r : GameFault) → Stands told longest_file asked bytes → seen ≡ bytes → Fails e (nfg_of seen) → r ≡ text_refused (State n) e
    → IsOneFault told (State n) asked before after r
stage_fault told n asked bytes seen before after e r s same h is =
    subst (IsOneFault told (State n) asked before after) (sym is) (stage_told told n asked bytes before after e s (subst (λ xs. Fails e (nfg_of xs)) same h))
