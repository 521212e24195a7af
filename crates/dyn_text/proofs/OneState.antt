-- The transitions of one state fit each game that was read.
use Rattle.std.proofs.Common.{◌≡◌, ℕ, zero, suc, ◌*◌, ◌/◌, ◌<◌, List, [], ◌∷◌, length, map, None, true, refl, ◌∙◌, arith, eqb}
use Rattle.std.specs.Prelude.{replicate, nat_le}
use Rattle.std.specs.List.{find}
use Rattle.std.proofs.lemmas.Bool.{eq-eqb}
use Rattle.std.proofs.lemmas.List.{length-map, length-replicate}
use Rattle.std.proofs.lemmas.List.Elements.{All-nil, All-cons}
use Rattle.pay_frac.specs.Ratio.{Ratio}
use Rattle.nfg_text.specs.declared.nfg.Nfg.{Nfg}
use Rattle.nfg_text.specs.Grammar.{counts_of, product_of}
use Rattle.nfg_text.specs.ReadGame.{IsReadGame}
use Rattle.game_model.specs.Parts.{HasNoFault, list_fault, shape_fault}
use Rattle.dyn_text.specs.Assembled.{AreTexts, shape_of_texts}
use Rattle.dyn_text.specs.Single.{single_of}

none_beyond : (n : ℕ) → find (λ t. nat_le 1 t) (replicate n 0) ≡ None
none_beyond zero = refl
none_beyond (suc n) = none_beyond n

half : (a b n : ℕ) → n ≡ 2 * (a * (b * 1)) → n / 2 ≡ a * (b * 1)
half a b n h = omega arith

lists_fit : (ms : List ℕ) (n m : ℕ) → length ms ≡ 2 → n ≡ 2 * product_of ms → m ≡ n → list_fault 2 1 0 ms m (replicate (n / 2) 0) ≡ None
lists_fit [] n m l h e = absurd (omega arith)
lists_fit (a ∷ []) n m l h e = absurd (omega arith)
lists_fit (a ∷ b ∷ []) n m l h e =
    let f : eqb m (a * (b * 1) * 2) ≡ true = eq-eqb m (a * (b * 1) * 2) (omega arith) in
    let k : length {A = ℕ} (replicate (n / 2) 0) ≡ a * (b * 1) = length-replicate (n / 2) 0 ∙ half a b n h in
    let g : eqb (length (replicate (n / 2) 0)) (a * (b * 1)) ≡ true = eq-eqb _ _ k in
    rw (f, g) (rw (none_beyond (n / 2)) refl)
lists_fit (a ∷ b ∷ c ∷ ms) n m l h e = absurd (omega arith)

one_fits : (n : Nfg) → IsReadGame n → (s : ℕ) → s < 1 → shape_fault (shape_of_texts (single_of n) (n ∷ [])) s ≡ None
one_fits n r zero lt = lists_fit (counts_of n.strategies) (length n.payoffs) (length (map (λ (q : Ratio). q.num) n.payoffs)) r.two_counts r.payoffs_fit (length-map n.payoffs (λ (q : Ratio). q.num))
one_fits n r (suc s) lt = absurd (omega arith)

pub single_fits : (n : Nfg) → IsReadGame n → AreTexts (single_of n) (n ∷ []) × HasNoFault (shape_of_texts (single_of n) (n ∷ []))
single_fits n r = (
  record { one_each = refl; some_state = omega arith; few_states = omega arith; read = All-cons IsReadGame n [] r (All-nil IsReadGame) },
  one_fits n r,
)
