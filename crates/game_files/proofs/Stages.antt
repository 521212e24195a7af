-- stage games one after another, and the names that may be asked for
use Rattle.std.proofs.Common.{◌≡◌, ◌⊎◌, inl, inr, ⊎_elim, ℕ, zero, suc, ◌+◌, ◌<◌, ◌≤◌, ◌++◌, List, [], ◌∷◌, length, get_or, Option, Some, None, Ok, refl, sym, ap, subst, ◌∙◌, arith}
use Rattle.std.specs.Option.{IfSome}
use Rattle.std.proofs.lemmas.Bool.{cases_lt}
use Rattle.std.proofs.lemmas.List.{get_or_append_left, length-append}
use Rattle.std.proofs.Math.Seq.{get_or-append_seam}
use Rattle.nfg_text.specs.declared.nfg.Nfg.{Nfg}
use Rattle.dyn_text.specs.declared.transitions.Dyn.{Dyn}
use Rattle.game_files.specs.declared.first.First.TheVariants.{Transitions}
use Rattle.game_files.specs.Loads.{Stands}
use Rattle.game_files.specs.Files.{AreStages, IsFirst, IsStage, MayAskStates, file_of, first_of, game_in, no_game}

pub no_stages : (told : List ℕ → Option (List ℕ)) (d : Dyn) → AreStages told d []
no_stages told d s l = absurd (omega (arith, l))

pub more_stages : (told : List ℕ → Option (List ℕ)) (d : Dyn) (ns : List Nfg) (n : Nfg) → AreStages told d ns → IsStage told (file_of d (length ns)) n → AreStages told d (ns ++ n ∷ [])
more_stages told d ns n h k s l =
    ⊎_elim
    (λ (m : s < length ns). subst (IsStage told (file_of d s)) (sym (get_or_append_left ns (n ∷ []) no_game s m)) (h s m))
    (λ (m : length ns ≤ s).
    let e : length ns ≡ s = omega (arith, l, m, length-append ns (n ∷ [])) in
    let at : game_in (ns ++ n ∷ []) s ≡ n = ap (game_in (ns ++ n ∷ [])) (sym e) ∙ get_or-append_seam ns n [] no_game in
    subst (IsStage told (file_of d s)) (sym at) (subst (λ t. IsStage told (file_of d t) n) e k))
    (cases_lt s (length ns))

pub stages_before : (told : List ℕ → Option (List ℕ)) (d : Dyn) (ns : List Nfg) (s : ℕ) → AreStages told d ns → length ns ≡ s → (t : ℕ) → t < s → (n : Nfg) × IsStage told (file_of d t) n
stages_before told d ns s h e t l = (game_in ns t, h t (omega (arith, l, e)))

-- the files of states may be asked for
pub may_ask_state : (told : List ℕ → Option (List ℕ)) (may : List ℕ → Type 0) (name : List ℕ) (d : Dyn) (o : Option (List ℕ)) → told name ≡ o → ((n : List ℕ) → told name ≡ None → may n)
    → MayAskStates told may name → IsFirst told name (Transitions d) → (s : ℕ) → s < length d.states → may (file_of d s)
may_ask_state told may name d None e untold known first s l = untold (file_of d s) e
may_ask_state told may name d (Some b) e untold known first s l =
    let same : first.bytes ≡ b = subst (λ (o : Option (List ℕ)). IfSome o (λ x. first.bytes ≡ x)) e first.stands.same in
    known b d s e (subst (λ x. first_of x ≡ Ok (Transitions d)) same first.says) l
