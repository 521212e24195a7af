-- Steps of the loops that read items one after another.
use Rattle.std.proofs.Common.{◌≡◌, ℕ, suc, List, [], ◌∷◌, ◌++◌, Option, Some, None, Result, Ok, Err, refl, sym, ◌∙◌, ap, subst, append_assoc}
use Rattle.std.proofs.lemmas.List.{append-nil}
use Rattle.token_text.specs.Tokens.{Stream}
use Rattle.nfg_text.specs.declared.fault.NfgFault.{NfgFault}
use Rattle.nfg_text.specs.declared.fault.NfgFault.TheVariants.{Bad, Limit, NoMemory}
use Rattle.nfg_text.specs.Wanted.{◌>>=◌, Fails, Reads, many_at, times_at, behind}

-- a fault stays one, whatever would follow
pub fails_bind : {A B : Type 0} (e : NfgFault) (has : Result A NfgFault) (f : A → Result B NfgFault) → Fails e has → Fails e (has >>= f)
fails_bind (Bad at) has f h = ap (λ r. r >>= f) h
fails_bind (Limit what number at) has f h = ap (λ r. r >>= f) h
fails_bind NoMemory has f h = tt

pub fails_same : {A : Type 0} (e : NfgFault) (all has : Result A NfgFault) → all ≡ has → Fails e has → Fails e all
fails_same (Bad at) all has p h = p ∙ h
fails_same (Limit what number at) all has p h = p ∙ h
fails_same NoMemory all has p h = tt

pub behind_none : {A : Type 0} (has : Result (List A × Stream) NfgFault) → has ≡ behind [] has
behind_none (Ok r) = refl
behind_none (Err e) = refl

behind_more : {A : Type 0} (before : List A) (a : A) (has : Result (List A × Stream) NfgFault) → behind before (has >>= λ more. Ok (a ∷ more.0, more.1)) ≡ behind (before ++ a ∷ []) has
behind_more before a (Ok r) = ap (λ l. Ok (l, r.1)) (sym (append_assoc before (a ∷ []) r.0))
behind_more before a (Err e) = refl

abbrev Item : Type 0 → Type 0
Item A = Stream → Result (Option A × Stream) NfgFault

abbrev Past : Type 0 → Type 0
Past A = Stream → Result (List A × Stream) NfgFault

-- one more item
pub many_more : {A : Type 0} (item : Item A) (past : Past A) (all : Result (List A × Stream) NfgFault) (n m : ℕ) (xs ys : List A) (a : A) (s t : Stream)
    → all ≡ behind xs (many_at item past n s) → n ≡ suc m → item s ≡ Ok (Some a, t) → ys ≡ xs ++ a ∷ [] → all ≡ behind ys (many_at item past m t)
unfolding many_at
many_more {A = A} item past all n m xs ys a s t e p q r =
    e ∙ ap (λ k. behind xs (many_at item past k s)) p
    ∙ ap (λ (x : Result (Option A × Stream) NfgFault). behind xs (x >>= λ x. elim x.0 as (λ _. Result (List A × Stream) NfgFault) [
      | None ↦ Ok ([], x.1)
      | Some a ↦ many_at item past m x.1 >>= λ more. Ok (a ∷ more.0, more.1)
    ])) q
    ∙ behind_more xs a (many_at item past m t) ∙ ap (λ l. behind l (many_at item past m t)) (sym r)

-- none follows
pub many_end : {A : Type 0} (item : Item A) (past : Past A) (all : Result (List A × Stream) NfgFault) (n m : ℕ) (xs : List A) (s t : Stream)
    → all ≡ behind xs (many_at item past n s) → n ≡ suc m → item s ≡ Ok (None, t) → all ≡ Ok (xs, t)
unfolding many_at
many_end {A = A} item past all n m xs s t e p q =
    e ∙ ap (λ k. behind xs (many_at item past k s)) p
    ∙ ap (λ (x : Result (Option A × Stream) NfgFault). behind xs (x >>= λ x. elim x.0 as (λ _. Result (List A × Stream) NfgFault) [
      | None ↦ Ok ([], x.1)
      | Some a ↦ many_at item past m x.1 >>= λ more. Ok (a ∷ more.0, more.1)
    ])) q
    ∙ ap (λ l. Ok (l, t)) (append-nil xs)

pub many_fails : {A : Type 0} (item : Item A) (past : Past A) (all : Result (List A × Stream) NfgFault) (n m : ℕ) (xs : List A) (s : Stream) (e : NfgFault)
    → all ≡ behind xs (many_at item past n s) → n ≡ suc m → Fails e (item s) → Fails e all
unfolding many_at
many_fails {A = A} item past all n m xs s e p q h =
    let step : Option A × Stream → Result (List A × Stream) NfgFault = λ x. elim x.0 as (λ _. Result (List A × Stream) NfgFault) [
      | None ↦ Ok ([], x.1)
      | Some a ↦ many_at item past m x.1 >>= λ more. Ok (a ∷ more.0, more.1)
    ] in
    fails_same e all (behind xs (item s >>= step)) (p ∙ ap (λ k. behind xs (many_at item past k s)) q)
    (fails_bind e (item s >>= step) (λ more. Ok (xs ++ more.0, more.1)) (fails_bind e (item s) step h))

-- ---- so many items
pub times_more : {A : Type 0} (item : Stream → Result (A × Stream) NfgFault) (all : Result (List A × Stream) NfgFault) (n m : ℕ) (xs ys : List A) (a : A) (s t : Stream)
    → all ≡ behind xs (times_at item n s) → n ≡ suc m → item s ≡ Ok (a, t) → ys ≡ xs ++ a ∷ [] → all ≡ behind ys (times_at item m t)
unfolding times_at
times_more {A = A} item all n m xs ys a s t e p q r =
    e ∙ ap (λ k. behind xs (times_at item k s)) p
    ∙ ap (λ (x : Result (A × Stream) NfgFault). behind xs (x >>= λ x. times_at item m x.1 >>= λ more. Ok (x.0 ∷ more.0, more.1))) q
    ∙ behind_more xs a (times_at item m t) ∙ ap (λ l. behind l (times_at item m t)) (sym r)

pub times_end : {A : Type 0} (item : Stream → Result (A × Stream) NfgFault) (all : Result (List A × Stream) NfgFault) (n : ℕ) (xs : List A) (s : Stream)
    → all ≡ behind xs (times_at item n s) → n ≡ 0 → all ≡ Ok (xs, s)
unfolding times_at
times_end item all n xs s e p = e ∙ ap (λ k. behind xs (times_at item k s)) p ∙ ap (λ l. Ok (l, s)) (append-nil xs)

pub times_fails : {A : Type 0} (item : Stream → Result (A × Stream) NfgFault) (all : Result (List A × Stream) NfgFault) (n m : ℕ) (xs : List A) (s : Stream) (e : NfgFault)
    → all ≡ behind xs (times_at item n s) → n ≡ suc m → Fails e (item s) → Fails e all
unfolding times_at
times_fails {A = A} item all n m xs s e p q h =
    let step : A × Stream → Result (List A × Stream) NfgFault = λ x. times_at item m x.1 >>= λ more. Ok (x.0 ∷ more.0, more.1) in
    fails_same e all (behind xs (item s >>= step)) (p ∙ ap (λ k. behind xs (times_at item k s)) q)
    (fails_bind e (item s >>= step) (λ more. Ok (xs ++ more.0, more.1)) (fails_bind e (item s) step h))

-- before the first item
pub times_start : {A : Type 0} (item : Stream → Result (A × Stream) NfgFault) (n m : ℕ) (xs : List A) (s : Stream) → m ≡ n → xs ≡ [] → times_at item n s ≡ behind xs (times_at item m s)
times_start item n m xs s p e = behind_none (times_at item n s) ∙ ap (λ xs. behind xs (times_at item n s)) (sym e) ∙ ap (λ k. behind xs (times_at item k s)) (sym p)

pub many_start : {A : Type 0} (item : Item A) (past : Past A) (n : ℕ) (xs : List A) (s : Stream) → xs ≡ [] → many_at item past n s ≡ behind xs (many_at item past n s)
many_start item past n xs s e = behind_none (many_at item past n s) ∙ ap (λ xs. behind xs (many_at item past n s)) (sym e)

-- no room is left
pub many_past : {A : Type 0} (item : Item A) (past : Past A) (all : Result (List A × Stream) NfgFault) (n : ℕ) (xs : List A) (s : Stream)
    → all ≡ behind xs (many_at item past n s) → n ≡ 0 → all ≡ behind xs (past s)
unfolding many_at
many_past item past all n xs s e p = e ∙ ap (λ k. behind xs (many_at item past k s)) p

pub reads_err : {X Y : Type 0} (view : X → Y) (r : Result X NfgFault) (e : NfgFault) (after : Stream) (has : Result (Y × Stream) NfgFault) → r ≡ Err e → Fails e has → Reads view r after has
reads_err view r e after has p h = subst (λ r. Reads view r after has) (sym p) h
