-- a file that was read has 1 to 64 states
use Rattle.std.proofs.Common.{◌≡◌, ℕ, zero, suc, ◌+◌, ◌≤◌, List, [], ◌∷◌, ◌++◌, length, Option, Some, None, Result, Ok, Err, refl, sym, ap, subst, ◌∙◌, arith}
use Rattle.std.proofs.lemmas.List.{length-append}
use Rattle.std.specs.Prelude.{codes}
use Rattle.token_text.specs.Tokens.{Stream, stream_of}
use Rattle.nfg_text.specs.declared.fault.NfgFault.{NfgFault}
use Rattle.nfg_text.specs.Wanted.{◌>>=◌, behind, many_at, exact_at, quoted_at, open_at, end_at}
use Rattle.nfg_text.proofs.Shorter.{bind_ok}
use Rattle.dyn_text.specs.declared.transitions.Dyn.{Dyn}
use Rattle.dyn_text.specs.declared.transitions.DynState.{DynState}
use Rattle.dyn_text.specs.Grammar.{dyn_of, file_at, full_at, state_at, state_or_close_at, states_at, states_past}

abbrev kept : {A : Type 0} → A → Result A NfgFault
kept x = Ok x

abbrev read : {A : Type 0} → A → Stream → Result (A × Stream) NfgFault
read a t = Ok (a, t)

same_value : {A : Type 0} (x y : A) → kept x ≡ kept y → x ≡ y
same_value x y e = cc

one_read : {A : Type 0} (a c : A) (b d : Stream) → read a b ≡ read c d → a ≡ c
one_read a c b d e = ap (λ x. x.0) (same_value (a, b) (c, d) e)

few_behind : (room : ℕ) (o : Option DynState) (u : Stream) (xs : List DynState) (t : Stream) → ((ys : List DynState) (w : Stream) → many_at state_or_close_at states_past room u ≡ Ok (ys, w) → length ys ≤ room)
    → (elim o as (λ _. Result (List DynState × Stream) NfgFault) [
      | None ↦ Ok ([], u)
      | Some a ↦ many_at state_or_close_at states_past room u >>= λ more. Ok (a ∷ more.0, more.1)
    ]) ≡ Ok (xs, t) → length xs ≤ suc room
few_behind room None u xs t few k = omega (arith, ap length (one_read [] xs u t k))
few_behind room (Some a) u xs t few k =
    let c = bind_ok (many_at state_or_close_at states_past room u) (λ more. Ok (a ∷ more.0, more.1)) (xs, t) k in
    omega (arith, few c.0.0 c.0.1 c.1, ap length (one_read (a ∷ c.0.0) xs c.0.1 t c.2))

few_more : (room : ℕ) (s : Stream) (xs : List DynState) (t : Stream) → many_at state_or_close_at states_past room s ≡ Ok (xs, t) → length xs ≤ room
unfolding many_at
few_more zero s xs t h =
    let b = bind_ok (full_at s) (λ a. Ok ([], a)) (xs, t) h in
    omega (arith, ap length (one_read [] xs b.0 t b.2))
few_more (suc room) s xs t h =
    let b = bind_ok (state_or_close_at s) (λ x. elim x.0 as (λ _. Result (List DynState × Stream) NfgFault) [
      | None ↦ Ok ([], x.1)
      | Some a ↦ many_at state_or_close_at states_past room x.1 >>= λ more. Ok (a ∷ more.0, more.1)
    ]) (xs, t) h in
    few_behind room b.0.0 b.0.1 xs t (few_more room b.0.1) b.2

few_states : (s : Stream) (xs : List DynState) (t : Stream) → states_at s ≡ Ok (xs, t) → (1 ≤ length xs) × (length xs ≤ 64)
unfolding states_at
few_states s xs t h =
    let b = bind_ok (state_at s) (λ first. behind (first.0 ∷ []) (many_at state_or_close_at states_past 63 first.1)) (xs, t) h in
    let c = bind_ok (many_at state_or_close_at states_past 63 b.0.1) (λ more. Ok ((b.0.0 ∷ []) ++ more.0, more.1)) (xs, t) b.2 in
    let few : length c.0.0 ≤ 63 = few_more 63 b.0.1 c.0.0 c.0.1 c.1 in
    let same : suc (length c.0.0) ≡ length xs = ap length (one_read ((b.0.0 ∷ []) ++ c.0.0) xs c.0.1 t c.2) in
    (omega (arith, same), omega (arith, same, few))

abbrev made : List ℕ → List DynState → Result Dyn NfgFault
made title xs = Ok (record { title = title; states = xs })

same_states : (title : List ℕ) (xs : List DynState) (d : Dyn) → made title xs ≡ Ok d → xs ≡ d.states
same_states title xs d e = ap (λ (x : Dyn). x.states) (same_value (record { title = title; states = xs }) d e)

pub kept_states : (bytes : List ℕ) (d : Dyn) → dyn_of bytes ≡ Ok d → (1 ≤ length d.states) × (length d.states ≤ 64)
unfolding dyn_of file_at
kept_states bytes d h =
    let b1 = bind_ok (exact_at (codes "DYN") (stream_of bytes)) _ d h in
    let b2 = bind_ok (exact_at (codes "1") b1.0) _ d b1.2 in
    let b3 = bind_ok (quoted_at b2.0) _ d b2.2 in
    let b4 = bind_ok (open_at b3.0.1) _ d b3.2 in
    let b5 = bind_ok (states_at b4.0) _ d b4.2 in
    let b6 = bind_ok (end_at b5.0.1) _ d b5.2 in
    let few = few_states b4.0 b5.0.0 b5.0.1 b5.1 in
    subst (λ xs. (1 ≤ length xs) × (length xs ≤ 64)) (same_states b3.0.0 b5.0.0 d b6.2) few
