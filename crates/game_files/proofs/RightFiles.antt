-- files that are told have one reading, and where they make a game nothing but a fault of the shelf or memory stands in its way
use Rattle.std.proofs.Common.{◌≡◌, ◌⊎◌, inl, inr, ⊎_elim, ℕ, zero, suc, ◌+◌, ◌<◌, ◌≤◌, List, [], ◌∷◌, length, get_or, Option, Some, None, Result, Ok, Err, refl, sym, ap, subst, ◌∙◌, arith}
use Rattle.std.specs.Option.{IfSome}
use Rattle.std.proofs.lemmas.List.{ext_get_or}
use Rattle.pay_outside.specs.Counts.{Rose}
use Rattle.pay_frac.specs.Ratio.{Ratio}
use Rattle.nfg_text.specs.declared.nfg.Nfg.{Nfg}
use Rattle.nfg_text.specs.declared.fault.NfgFault.{NfgFault}
use Rattle.nfg_text.specs.declared.fault.NfgFault.TheVariants.{Bad, Limit}
use Rattle.nfg_text.specs.Grammar.{nfg_of}
use Rattle.dyn_text.specs.declared.transitions.Dyn.{Dyn}
use Rattle.dyn_text.specs.declared.fault.BuildFault.{BuildFault}
use Rattle.dyn_text.specs.declared.fault.BuildFault.TheVariants.{Shape as BuildShape, Wide}
use Rattle.dyn_text.specs.BuildFaults.{IsBuildFault}
use Rattle.game_files.specs.declared.first.First.{First}
use Rattle.game_files.specs.declared.first.First.TheVariants.{Stage, Transitions}
use Rattle.game_files.specs.declared.fault.FileId.{FileId}
use Rattle.game_files.specs.declared.fault.FileId.TheVariants.{First as FirstFile, State, Second}
use Rattle.game_files.specs.declared.fault.GameFault.{GameFault}
use Rattle.game_files.specs.declared.fault.GameFault.TheVariants.{BadInput, TooLong, ReadFault, Shape, Beyond, NoMemory}
use Rattle.game_files.specs.Loads.{Counts, Stands}
use Rattle.game_files.specs.Files.{longest_file, first_of, file_of, game_in, no_game, IsFirst, IsStage, AreFiles, AreGames}
use Rattle.game_files.specs.Causes.{AreRight, AreTold, HasFault, IsAsked, IsBuildRefusal, IsFileFault, IsFilesFault, IsLoadFault, IsNoGame, IsOneFault, IsReadFault, IsTextFault}

-- ---- one text under a name that is told
pub same_text : (o : Option (List ℕ)) (xs ys : List ℕ) → (o ≡ None → ⊥) → IfSome o (λ b. xs ≡ b) → IfSome o (λ b. ys ≡ b) → xs ≡ ys
same_text None xs ys n h k = absurd (n refl)
same_text (Some b) xs ys n h k = h ∙ sym k

pub not_long : (o : Option (List ℕ)) (xs : List ℕ) (most : ℕ) → (o ≡ None → ⊥) → length xs ≤ most → IfSome o (λ b. xs ≡ b) → IfSome o (λ b. most < length b) → ⊥
not_long None xs most n short h long = n refl
not_long (Some b) xs most n short h long = omega (arith, short, ap length h, long)

pub ok_not_err : {A E : Type 0} {x : A} {e : E} → Ok x ≡ Err e → ⊥
ok_not_err h = absurd (cc)

abbrev kept : {A : Type 0} → A → Result A NfgFault
kept x = Ok x

one_ok : {A : Type 0} (x y : A) → kept x ≡ kept y → x ≡ y
one_ok x y h = cc

-- ---- a file that has a value
no_load_fault : (told : List ℕ → Option (List ℕ)) (id : FileId) (asked bytes : List ℕ) (before after : Counts) (r : GameFault) → (told asked ≡ None → ⊥) → Stands told longest_file asked bytes
    → (Rose before.faults after.faults → ⊥) → IsLoadFault told longest_file id asked before after r → r ≡ NoMemory
no_load_fault told id asked bytes before after (ReadFault file) n s calm h = absurd (calm h.1)
no_load_fault told id asked bytes before after (TooLong file) n s calm h = absurd (not_long (told asked) bytes longest_file n s.short s.same h.2)
no_load_fault told id asked bytes before after (BadInput file at) n s calm h = absurd h
no_load_fault told id asked bytes before after (Shape fault) n s calm h = absurd h
no_load_fault told id asked bytes before after (Beyond what number) n s calm h = absurd h
no_load_fault told id asked bytes before after NoMemory n s calm h = refl

no_text_fault : (told : List ℕ → Option (List ℕ)) (id : FileId) (asked bytes : List ℕ) (e : NfgFault) → (told asked ≡ None → ⊥) → Stands told longest_file asked bytes
    → ((f : NfgFault) → HasFault id bytes f → ⊥) → IsTextFault told id asked e → ⊥
no_text_fault told id asked bytes e n s fine h = fine e (subst (λ xs. HasFault id xs e) (same_text (told asked) h.bytes bytes n h.stands.same s.same) h.has)

no_read_fault : (told : List ℕ → Option (List ℕ)) (id : FileId) (asked bytes : List ℕ) (r : GameFault) → (told asked ≡ None → ⊥) → Stands told longest_file asked bytes
    → ((f : NfgFault) → HasFault id bytes f → ⊥) → IsReadFault told id asked r → r ≡ NoMemory
no_read_fault told id asked bytes (BadInput file at) n s fine h = absurd (no_text_fault told id asked bytes (Bad at) n s fine h.1)
no_read_fault told id asked bytes (Beyond what number) n s fine h = absurd (no_text_fault told id asked bytes (Limit what number h.0) n s fine h.1)
no_read_fault told id asked bytes (ReadFault file) n s fine h = absurd h
no_read_fault told id asked bytes (TooLong file) n s fine h = absurd h
no_read_fault told id asked bytes (Shape fault) n s fine h = absurd h
no_read_fault told id asked bytes NoMemory n s fine h = refl

no_fault : (told : List ℕ → Option (List ℕ)) (id : FileId) (asked bytes : List ℕ) (before after : Counts) (r : GameFault) → (told asked ≡ None → ⊥) → Stands told longest_file asked bytes
    → ((f : NfgFault) → HasFault id bytes f → ⊥) → (Rose before.faults after.faults → ⊥) → IsOneFault told id asked before after r → r ≡ NoMemory
no_fault told id asked bytes before after r n s fine calm h =
    ⊎_elim
    (λ (k : IsLoadFault told longest_file id asked before after r). no_load_fault told id asked bytes before after r n s calm k)
    (λ (k : IsReadFault told id asked r). no_read_fault told id asked bytes r n s fine k)
    h

-- ---- one reading
one_first : (told : List ℕ → Option (List ℕ)) (name : List ℕ) (f g : First) → (told name ≡ None → ⊥) → IsFirst told name f → IsFirst told name g → f ≡ g
one_first told name f g n h k =
    let same : h.bytes ≡ k.bytes = same_text (told name) h.bytes k.bytes n h.stands.same k.stands.same in
    one_ok f g (sym (subst (λ xs. first_of xs ≡ Ok f) same h.says) ∙ k.says)

one_stage : (told : List ℕ → Option (List ℕ)) (name : List ℕ) (m n : Nfg) → (told name ≡ None → ⊥) → IsStage told name m → IsStage told name n → m ≡ n
one_stage told name m n t h k =
    let same : h.bytes ≡ k.bytes = same_text (told name) h.bytes k.bytes t h.stands.same k.stands.same in
    one_ok m n (sym (subst (λ xs. nfg_of xs ≡ Ok m) same h.says) ∙ k.says)

one_games : (told : List ℕ → Option (List ℕ)) (f : First) (d e : Dyn) (ms ns : List Nfg) → AreTold told f → AreGames told f d ms → AreGames told f e ns → (d ≡ e) × (ms ≡ ns)
one_games told (Stage n) d e ms ns t h k = (h.0 ∙ sym k.0, h.1 ∙ sym k.1)
one_games told (Transitions x) d e ms ns t h k = (
  h.0 ∙ sym k.0,
  ext_get_or no_game ms ns (h.1 ∙ sym k.1) (λ s l.
      one_stage told (file_of x s) (game_in ms s) (game_in ns s) (t s (omega (arith, l, h.1))) (h.2 s l) (k.2 s (omega (arith, l, h.1, k.1)))),
)

one_reading : (told : List ℕ → Option (List ℕ)) (name : List ℕ) (d e : Dyn) (ms ns : List Nfg) (h : AreFiles told name d ms) → (told name ≡ None → ⊥) → AreTold told h.first → AreFiles told name e ns → (d ≡ e) × (ms ≡ ns)
one_reading told name d e ms ns h n t k =
    let same : k.first ≡ h.first = one_first told name k.first h.first n k.is_first h.is_first in
    one_games told h.first d e ms ns t h.games (subst (λ f. AreGames told f e ns) same k.games)

-- ---- files that make a game
no_file_fault : (told : List ℕ → Option (List ℕ)) (name : List ℕ) (discount : Ratio) (before after : Counts) (r : GameFault) (id : FileId) (asked : List ℕ) → AreRight told name discount
    → IsAsked told name id asked → IsOneFault told id asked before after r → (Rose before.faults after.faults → ⊥) → r ≡ NoMemory
no_file_fault told name discount before after r FirstFile asked right h fault calm =
    let first = right.files.is_first in
    let here : IsOneFault told FirstFile name before after r = subst (λ a. IsOneFault told FirstFile a before after r) h fault in
    no_fault told FirstFile name first.bytes before after r right.first_told first.stands (λ e x. ok_not_err (sym first.says ∙ x)) calm here
no_file_fault told name discount before after r (State s) asked right h fault calm =
    let same : right.files.first ≡ Transitions h.d = one_first told name right.files.first (Transitions h.d) right.first_told right.files.is_first h.is_first in
    let games : AreGames told (Transitions h.d) right.d right.ns = subst (λ f. AreGames told f right.d right.ns) same right.files.games in
    let known : AreTold told (Transitions h.d) = subst (AreTold told) same right.rest_told in
    let stage : IsStage told (file_of h.d s) (game_in right.ns s) = games.2 s (omega (arith, h.there, games.1)) in
    let here : IsOneFault told (State s) (file_of h.d s) before after r = subst (λ a. IsOneFault told (State s) a before after r) h.named fault in
    no_fault told (State s) (file_of h.d s) stage.bytes before after r (known s h.there) stage.stands (λ e x. ok_not_err (sym stage.says ∙ x)) calm here
no_file_fault told name discount before after r Second asked right h fault calm = absurd h

no_refusal : (d : Dyn) (ns : List Nfg) (discount : Ratio) (r : GameFault) → ((f : BuildFault) → IsBuildFault d ns discount f → ⊥) → IsBuildRefusal d ns discount r → ⊥
no_refusal d ns discount (Shape fault) fits h = fits (BuildShape fault) h
no_refusal d ns discount (Beyond what number) fits h = fits (Wide what number) h
no_refusal d ns discount (BadInput file at) fits h = h
no_refusal d ns discount (TooLong file) fits h = h
no_refusal d ns discount (ReadFault file) fits h = h
no_refusal d ns discount NoMemory fits h = h

pub right_files : (told : List ℕ → Option (List ℕ)) (name : List ℕ) (discount : Ratio) (before after : Counts) (r : GameFault) → AreRight told name discount → IsNoGame told name discount before after r
    → (Rose before.faults after.faults → ⊥) → r ≡ NoMemory
right_files told name discount before after r right h calm =
    elim h [
      | inl files ↦ elim files [
        | inl memory ↦ memory
        | inr fault ↦ no_file_fault told name discount before after r fault.id fault.asked right fault.is_asked fault.fault calm
      ]
      | inr build ↦
          let same = one_reading told name right.d build.0 right.ns build.1 right.files right.first_told right.rest_told build.2 in
          let here : IsBuildRefusal right.d right.ns discount r = subst (λ ns. IsBuildRefusal right.d ns discount r) (sym same.1) (subst (λ d. IsBuildRefusal d build.1 discount r) (sym same.0) build.3) in
          absurd (no_refusal right.d right.ns discount r right.fits here)
    ]
