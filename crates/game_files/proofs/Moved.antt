-- what was told at a later moment was told before, and loads add up
use Rattle.std.proofs.Common.{◌≡◌, ◌⊎◌, inl, inr, ⊎_elim, ℕ, ◌+◌, ◌<◌, ◌≤◌, ◌^◌, ◌-◌, List, length, Option, Some, None, refl, sym, subst, ◌∙◌, arith}
use Rattle.std.specs.Option.{IfSome}
use Rattle.pay_outside.specs.Counts.{Rose}
use Rattle.nfg_text.specs.declared.nfg.Nfg.{Nfg}
use Rattle.nfg_text.specs.declared.fault.NfgFault.{NfgFault}
use Rattle.dyn_text.specs.declared.transitions.Dyn.{Dyn}
use Rattle.game_files.specs.declared.first.First.TheVariants.{Transitions}
use Rattle.game_files.specs.declared.fault.FileId.{FileId}
use Rattle.game_files.specs.declared.fault.FileId.TheVariants.{State}
use Rattle.game_files.specs.declared.fault.GameFault.{GameFault}
use Rattle.game_files.specs.declared.fault.GameFault.TheVariants.{BadInput, TooLong, ReadFault, Shape, Beyond, NoMemory}
use Rattle.game_files.specs.Loads.{Counts, AreLoads, Stands}
use Rattle.game_files.specs.Files.{file_of, longest_file, IsFirst, IsStage}
use Rattle.game_files.specs.Causes.{IsFilesFault, IsLoadFault, IsOneFault, IsReadFault, IsStagesFault, IsTextFault}

pub stands : (now old : List ℕ → Option (List ℕ)) (most : ℕ) (name bytes : List ℕ) → ((n : List ℕ) → now n ≡ old n) → Stands now most name bytes → Stands old most name bytes
stands now old most name bytes same h = record { short = h.short; same = subst (λ o. IfSome o (λ b. bytes ≡ b)) (same name) h.same }

pub stage : (now old : List ℕ → Option (List ℕ)) (name : List ℕ) (n : Nfg) → ((m : List ℕ) → now m ≡ old m) → IsStage now name n → IsStage old name n
stage now old name n same h = record { bytes = h.bytes; stands = stands now old longest_file name h.bytes same h.stands; says = h.says }

text_fault : (now old : List ℕ → Option (List ℕ)) (id : FileId) (asked : List ℕ) (f : NfgFault) → ((n : List ℕ) → now n ≡ old n) → IsTextFault now id asked f → IsTextFault old id asked f
text_fault now old id asked f same h = record { bytes = h.bytes; stands = stands now old longest_file asked h.bytes same h.stands; has = h.has }

rose : (before mid after : ℕ) → before ≤ mid → Rose mid after → Rose before after
rose before mid after le r = ⊎_elim (λ (l : mid < after). inl (omega arith)) (λ (e : after ≡ 2 ^ 64 - 1). inr e) r

pub load_fault : (now old : List ℕ → Option (List ℕ)) (most : ℕ) (id : FileId) (asked : List ℕ) (before mid after : Counts) (r : GameFault) → ((n : List ℕ) → now n ≡ old n) → before.faults ≤ mid.faults → before.overlong ≤ mid.overlong
    → IsLoadFault now most id asked mid after r → IsLoadFault old most id asked before after r
load_fault now old most id asked before mid after (ReadFault file) same faults overlong h = (h.0, rose before.faults mid.faults after.faults faults h.1)
load_fault now old most id asked before mid after (TooLong file) same faults overlong h =
    (h.0, rose before.overlong mid.overlong after.overlong overlong h.1, subst (λ o. IfSome o (λ bytes. most < length bytes)) (same asked) h.2)
load_fault now old most id asked before mid after (BadInput file at) same faults overlong h = absurd h
load_fault now old most id asked before mid after (Shape fault) same faults overlong h = absurd h
load_fault now old most id asked before mid after (Beyond what number) same faults overlong h = absurd h
load_fault now old most id asked before mid after NoMemory same faults overlong h = tt

read_fault : (now old : List ℕ → Option (List ℕ)) (id : FileId) (asked : List ℕ) (r : GameFault) → ((n : List ℕ) → now n ≡ old n) → IsReadFault now id asked r → IsReadFault old id asked r
read_fault now old id asked (ReadFault file) same h = absurd h
read_fault now old id asked (TooLong file) same h = absurd h
read_fault now old id asked (BadInput file at) same h = (h.0, text_fault now old id asked _ same h.1)
read_fault now old id asked (Shape fault) same h = absurd h
read_fault now old id asked (Beyond what number) same h = (h.0, text_fault now old id asked _ same h.1)
read_fault now old id asked NoMemory same h = tt

pub one_fault : (now old : List ℕ → Option (List ℕ)) (id : FileId) (asked : List ℕ) (before mid after : Counts) (r : GameFault) → ((n : List ℕ) → now n ≡ old n) → before.faults ≤ mid.faults → before.overlong ≤ mid.overlong
    → IsOneFault now id asked mid after r → IsOneFault old id asked before after r
one_fault now old id asked before mid after r same faults overlong h =
    ⊎_elim
    (λ (k : IsLoadFault now longest_file id asked mid after r). inl (load_fault now old longest_file id asked before mid after r same faults overlong k))
    (λ (k : IsReadFault now id asked r). inr (read_fault now old id asked r same k))
    h

told_more : (n k : ℕ) (before mid after : Option ℕ) → IfSome mid (λ b. (m : ℕ) × (before ≡ Some m) × (b ≡ m + n)) → IfSome after (λ b. (m : ℕ) × (mid ≡ Some m) × (b ≡ m + k)) → IfSome after (λ b. (m : ℕ) × (before ≡ Some m) × (b ≡ m + (n + k)))
told_more n k before mid None first second = tt
told_more n k before mid (Some a) first second =
    let x : (m : ℕ) × (before ≡ Some m) × (second.0 ≡ m + n) = subst (λ o. IfSome o (λ b. (m : ℕ) × (before ≡ Some m) × (b ≡ m + n))) second.1 first in
    (x.0, x.1, omega (arith, x.2, second.2))

-- loads after loads
pub more : (n k : ℕ) (before mid after : Counts) → AreLoads n before mid → AreLoads k mid after → AreLoads (n + k) before after
more n k before mid after first second = record {
  faults = omega (arith, first.faults, second.faults);
  overlong = omega (arith, first.overlong, second.overlong);
  loads = told_more n k before.loads mid.loads after.loads first.loads second.loads;
}

-- the fault of a state's file is one of the files'
pub files_fault : (now old : List ℕ → Option (List ℕ)) (name : List ℕ) (d : Dyn) (before mid after : Counts) (r : GameFault) → ((n : List ℕ) → now n ≡ old n) → IsFirst old name (Transitions d) → AreLoads 1 before mid
    → IsStagesFault now d mid after r → IsFilesFault old name before after r
files_fault now old name d before mid after r same first loads h =
    elim h [
      | inl memory ↦ inl memory
      | inr k ↦
          let place : 1 + (k.s + 1) ≡ k.s + 2 = omega arith in
          inr (record {
            id = State k.s;
            asked = file_of d k.s;
            is_asked = record {
              d = d;
              is_first = first;
              there = k.there;
              before = λ t l. let x = k.read_before t l in (x.0, stage now old (file_of d t) x.0 same x.1);
              named = refl;
            };
            loads = subst (λ n. AreLoads n before after) place (more 1 (k.s + 1) before mid after loads k.loads);
            fault = one_fault now old (State k.s) (file_of d k.s) before mid after r same loads.faults loads.overlong k.fault;
          })
    ]
