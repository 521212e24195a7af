-- what was read is fit to be assembled
use Rattle.std.proofs.Common.{◌≡◌, ℕ, ◌<◌, ◌≤◌, Bool, true, false, if◌then◌else◌, List, [], ◌∷◌, length, get_or, Option, Ok, Err, Result, refl, sym, ap, subst, ◌∙◌, arith}
use Rattle.std.specs.List.{All}
use Rattle.std.proofs.lemmas.List.{get_or_default}
use Rattle.nfg_text.specs.declared.nfg.Nfg.{Nfg}
use Rattle.nfg_text.specs.declared.fault.NfgFault.{NfgFault}
use Rattle.nfg_text.specs.Grammar.{nfg_of}
use Rattle.nfg_text.specs.ReadGame.{IsReadGame}
use Rattle.nfg_text.proofs.Shorter.{bind_ok}
use Rattle.dyn_text.specs.declared.transitions.Dyn.{Dyn}
use Rattle.dyn_text.specs.Grammar.{dyn_of}
use Rattle.dyn_text.specs.Single.{single_of}
use Rattle.dyn_text.specs.Assembled.{AreTexts}
use Rattle.game_files.specs.declared.first.First.{First}
use Rattle.game_files.specs.declared.first.First.TheVariants.{Stage, Transitions}
use Rattle.game_files.specs.Files.{AreFiles, AreGames, file_of, first_of, game_in, is_transitions, no_game, stage_from, transitions_from}

abbrev said : First → Result First NfgFault
said f = Ok f

same_stage : (m n : Nfg) → said (Stage m) ≡ said (Stage n) → m ≡ n
same_stage m n e = cc

same_transitions : (d e : Dyn) → said (Transitions d) ≡ said (Transitions e) → d ≡ e
same_transitions d e h = cc

apart : (n : Nfg) (d : Dyn) → said (Stage n) ≡ said (Transitions d) → ⊥
apart n d e = absurd (cc)

stage_by : (b : Bool) (d : Result Dyn NfgFault) (g : Result Nfg NfgFault) (n : Nfg) → (if b then transitions_from d else stage_from g) ≡ Ok (Stage n) → g ≡ Ok n
stage_by true d g n h = let x = bind_ok d (λ y. Ok (Transitions y)) (Stage n) h in absurd (apart n x.0 (sym x.2))
stage_by false d g n h = let x = bind_ok g (λ y. Ok (Stage y)) (Stage n) h in x.1 ∙ ap (λ m. Ok m) (same_stage x.0 n x.2)

transitions_by : (b : Bool) (d : Result Dyn NfgFault) (g : Result Nfg NfgFault) (t : Dyn) → (if b then transitions_from d else stage_from g) ≡ Ok (Transitions t) → d ≡ Ok t
transitions_by true d g t h = let x = bind_ok d (λ y. Ok (Transitions y)) (Transitions t) h in x.1 ∙ ap (λ m. Ok m) (same_transitions x.0 t x.2)
transitions_by false d g t h = let x = bind_ok g (λ y. Ok (Stage y)) (Transitions t) h in absurd (apart x.0 t x.2)

says_stage : (bytes : List ℕ) (n : Nfg) → first_of bytes ≡ Ok (Stage n) → nfg_of bytes ≡ Ok n
unfolding first_of
says_stage bytes n h = stage_by (is_transitions bytes) (dyn_of bytes) (nfg_of bytes) n h

says_transitions : (bytes : List ℕ) (t : Dyn) → first_of bytes ≡ Ok (Transitions t) → dyn_of bytes ≡ Ok t
unfolding first_of
says_transitions bytes t h = transitions_by (is_transitions bytes) (dyn_of bytes) (nfg_of bytes) t h

-- what is known of what was read, and of one stage game
pub record TextLaws : Type 0 where
  pub game : (bytes : List ℕ) (n : Nfg) → nfg_of bytes ≡ Ok n → IsReadGame n
  pub states : (bytes : List ℕ) (d : Dyn) → dyn_of bytes ≡ Ok d → (1 ≤ length d.states) × (length d.states ≤ 64)
  pub alone : (n : Nfg) → IsReadGame n → AreTexts (single_of n) (n ∷ [])

fit : (told : List ℕ → Option (List ℕ)) (first : First) (d : Dyn) (ns : List Nfg) (bytes : List ℕ) → TextLaws → first_of bytes ≡ Ok first → AreGames told first d ns → AreTexts d ns
fit told (Stage n) d ns bytes laws says games =
    let alone : AreTexts (single_of n) (n ∷ []) = laws.alone n (laws.game bytes n (says_stage bytes n says)) in
    subst (λ e. AreTexts e ns) (sym games.0) (subst (AreTexts (single_of n)) (sym games.1) alone)
fit told (Transitions t) d ns bytes laws says games =
    let count = laws.states bytes t (says_transitions bytes t says) in
    let here : AreTexts t ns = record {
      one_each = games.1;
      some_state = omega (arith, games.1, count.0);
      few_states = omega (arith, games.1, count.1);
      read = λ s z l.
          let stage = games.2 s l in
          subst IsReadGame (get_or_default ns s no_game z l) (laws.game stage.bytes (game_in ns s) stage.says);
    } in
    subst (λ e. AreTexts e ns) (sym games.0) here

pub texts : (told : List ℕ → Option (List ℕ)) (name : List ℕ) (d : Dyn) (ns seen : List Nfg) → TextLaws → AreFiles told name d ns → seen ≡ ns → AreTexts d seen
texts told name d ns seen laws files same = subst (AreTexts d) (sym same) (fit told files.first d ns files.is_first.bytes laws files.is_first.says files.games)
