-- Steps of the loops that measure one item after another.
use Rattle.std.proofs.Common.{◌≡◌, ℕ, ◌+◌, ◌*◌, ◌/◌, ◌<◌, ◌≤◌, List, [], ◌∷◌, ◌++◌, length, drop, take, get_or, Result, Ok, Err, refl, sym, ◌∙◌, ap, subst, append_assoc}
use Rattle.std.proofs.Math.Nat.{div-lt_iff_lt-mul}
use Rattle.std.proofs.lemmas.List.{append-nil, drop_more, at_drop_all}
use Rattle.selfgen_check.specs.declared.text_fault.CorrTextFault.{CorrTextFault}
use Rattle.selfgen_check.specs.declared.text_fault.CorrTextFault.TheVariants.{Bad, Limit, Wide, NoMemory}
use Rattle.std.specs.Prelude.{ℤ}
use Rattle.game_model.specs.SelfGeneration.{Entry}
use Rattle.selfgen_check.specs.declared.written.Written.{Written}
use Rattle.selfgen_check.specs.Measures.{scaled, scaled_entry}
use Rattle.selfgen_check.specs.Shapes.{IsWritten}
use Rattle.selfgen_check.specs.TextFaults.{◌>>=◌, Fails, Gives, Shows, folded, each}

-- a fault stays one, whatever would follow
pub fails_bind : {A B : Type 0} (e : CorrTextFault) (said : Result A CorrTextFault) (f : A → Result B CorrTextFault) → Fails e said → Fails e (said >>= f)
fails_bind (Bad at) said f h = ap (λ r. r >>= f) h
fails_bind (Limit what number at) said f h = ap (λ r. r >>= f) h
fails_bind (Wide what number) said f h = ap (λ r. r >>= f) h
fails_bind NoMemory said f h = tt

pub fails_same : {A : Type 0} (e : CorrTextFault) (all said : Result A CorrTextFault) → all ≡ said → Fails e said → Fails e all
fails_same (Bad at) all said p h = p ∙ h
fails_same (Limit what number at) all said p h = p ∙ h
fails_same (Wide what number) all said p h = p ∙ h
fails_same NoMemory all said p h = tt

pub shows_err : {X Y : Type 0} (view : X → Y) (r : Result X CorrTextFault) (e : CorrTextFault) (said : Result Y CorrTextFault) → r ≡ Err e → Fails e said → Shows view r said
shows_err view r e said p h = subst (λ r. Shows view r said) (sym p) h

pub gives_err : {X : Type 0} (r : Result X CorrTextFault) (e : CorrTextFault) (said : Result X CorrTextFault) → r ≡ Err e → Fails e said → Gives r said
gives_err r e said p h = subst (λ r. Gives r said) (sym p) h

-- ---- a value that each item changes
folded_next : {A B : Type 0} (f : B → A → Result B CorrTextFault) (c : B) (xs : List A) (i : ℕ) (n x : A) → i < length xs → x ≡ get_or xs i n
    → folded f c (drop i xs) ≡ (f c x >>= λ d. folded f d (drop (i + 1) xs))
folded_next {A = A} f c xs i n x l e = ap (folded f c) (drop_more xs i n l) ∙ ap (λ (y : A). f c y >>= λ d. folded f d (drop (i + 1) xs)) (sym e)

pub folded_more : {A B : Type 0} (f : B → A → Result B CorrTextFault) (all : Result B CorrTextFault) (c d : B) (xs : List A) (i : ℕ) (n x : A) → i < length xs → x ≡ get_or xs i n
    → all ≡ folded f c (drop i xs) → f c x ≡ Ok d → all ≡ folded f d (drop (i + 1) xs)
folded_more {B = B} f all c d xs i n x l e h g = h ∙ folded_next f c xs i n x l e ∙ ap (λ (r : Result B CorrTextFault). r >>= λ d. folded f d (drop (i + 1) xs)) g

pub folded_fails : {A B : Type 0} (f : B → A → Result B CorrTextFault) (all : Result B CorrTextFault) (c : B) (xs : List A) (i : ℕ) (n x : A) (fault : CorrTextFault) → i < length xs → x ≡ get_or xs i n
    → all ≡ folded f c (drop i xs) → Fails fault (f c x) → Fails fault all
folded_fails f all c xs i n x fault l e h g =
    fails_same fault all (f c x >>= λ d. folded f d (drop (i + 1) xs)) (h ∙ folded_next f c xs i n x l e) (fails_bind fault (f c x) (λ d. folded f d (drop (i + 1) xs)) g)

pub folded_end : {A B : Type 0} (f : B → A → Result B CorrTextFault) (all : Result B CorrTextFault) (c : B) (xs : List A) (i : ℕ) → length xs ≤ i
    → all ≡ folded f c (drop i xs) → all ≡ Ok c
folded_end f all c xs i l h = h ∙ at_drop_all (folded f c) xs i l

-- ---- what each item gives
abbrev pub after : {B : Type 0} → List B → Result (List B) CorrTextFault → Result (List B) CorrTextFault
after ys said = said >>= λ zs. Ok (ys ++ zs)

after_none : {B : Type 0} (said : Result (List B) CorrTextFault) → said ≡ after [] said
after_none (Ok zs) = refl
after_none (Err e) = refl

after_more : {B : Type 0} (ys : List B) (y : B) (said : Result (List B) CorrTextFault) → after ys (said >>= λ zs. Ok (y ∷ zs)) ≡ after (ys ++ y ∷ []) said
after_more ys y (Ok zs) = ap (λ l. Ok l) (sym (append_assoc ys (y ∷ []) zs))
after_more ys y (Err e) = refl

each_next : {A B : Type 0} (f : A → Result B CorrTextFault) (xs : List A) (i : ℕ) (d x : A) → i < length xs → x ≡ get_or xs i d
    → each f (drop i xs) ≡ (f x >>= λ y. each f (drop (i + 1) xs) >>= λ ys. Ok (y ∷ ys))
each_next {A = A} f xs i d x l e = ap (each f) (drop_more xs i d l) ∙ ap (λ (z : A). f z >>= λ y. each f (drop (i + 1) xs) >>= λ ys. Ok (y ∷ ys)) (sym e)

pub each_start : {A B : Type 0} (f : A → Result B CorrTextFault) (xs : List A) (ys : List B) → ys ≡ [] → each f xs ≡ after ys (each f (drop 0 xs))
each_start f xs ys e = after_none (each f xs) ∙ ap (λ ys. after ys (each f xs)) (sym e)

pub each_more : {A B : Type 0} (f : A → Result B CorrTextFault) (all : Result (List B) CorrTextFault) (xs : List A) (ys zs : List B) (i : ℕ) (d x : A) (y : B) → i < length xs → x ≡ get_or xs i d
    → all ≡ after ys (each f (drop i xs)) → f x ≡ Ok y → zs ≡ ys ++ y ∷ [] → all ≡ after zs (each f (drop (i + 1) xs))
each_more {B = B} f all xs ys zs i d x y l e h g k =
    h ∙ ap (after ys) (each_next f xs i d x l e) ∙ ap (λ (r : Result B CorrTextFault). after ys (r >>= λ y. each f (drop (i + 1) xs) >>= λ ys. Ok (y ∷ ys))) g
    ∙ after_more ys y (each f (drop (i + 1) xs)) ∙ ap (λ l. after l (each f (drop (i + 1) xs))) (sym k)

pub each_fails : {A B : Type 0} (f : A → Result B CorrTextFault) (all : Result (List B) CorrTextFault) (xs : List A) (ys : List B) (i : ℕ) (d x : A) (fault : CorrTextFault) → i < length xs → x ≡ get_or xs i d
    → all ≡ after ys (each f (drop i xs)) → Fails fault (f x) → Fails fault all
each_fails {B = B} f all xs ys i d x fault l e h g =
    let here : Result (List B) CorrTextFault = f x >>= λ y. each f (drop (i + 1) xs) >>= λ ys. Ok (y ∷ ys) in
    fails_same fault all (after ys here) (h ∙ ap (after ys) (each_next f xs i d x l e))
    (fails_bind fault here (λ zs. Ok (ys ++ zs)) (fails_bind fault (f x) (λ y. each f (drop (i + 1) xs) >>= λ ys. Ok (y ∷ ys)) g))

-- a quotient of a number below a product
pub quotient_below : (k n p : ℕ) → k < n * p → 0 < p → k / p < n
quotient_below k n p l h = (div-lt_iff_lt-mul {k = p} {x = k} {y = n} h).1 l

pub each_end : {A B : Type 0} (f : A → Result B CorrTextFault) (all : Result (List B) CorrTextFault) (xs : List A) (ys : List B) (i : ℕ) → length xs ≤ i
    → all ≡ after ys (each f (drop i xs)) → all ≡ Ok ys
each_end f all xs ys i l h = h ∙ at_drop_all (λ l. after ys (each f l)) xs i l ∙ ap (λ l. Ok l) (append-nil ys)

-- ---- an entry
abbrev made : List ℤ → List ℕ → List (ℕ × ℕ) → List ℕ → Entry
made a x l u = record { point = a; profile = x; lottery = l; punish = u }

same_parts : (a b : List ℤ) (x y : List ℕ) (l k : List (ℕ × ℕ)) (u v : List ℕ) → a ≡ b → x ≡ y → l ≡ k → u ≡ v → made a x l u ≡ made b y k v
same_parts a b x y l k u v p q r s =
    ap (λ (a : List ℤ). made a x l u) p ∙ ap (λ (x : List ℕ). made b x l u) q ∙ ap (λ (l : List (ℕ × ℕ)). made b y l u) r ∙ ap (λ (u : List ℕ). made b y k u) s

pub entry_made : (m players : ℕ) (w : Written) (p : List ℤ) (ns : List ℕ) (l : List (ℕ × ℕ)) (us : List ℕ) (e : Entry) → IsWritten players w
    → each (scaled m) w.point ≡ Ok (take (length w.point) p) → ns ≡ w.profile → l ≡ w.lottery → us ≡ w.punish
    → e ≡ record { point = take (length ns) p; profile = ns; lottery = l; punish = us } → scaled_entry m w ≡ Ok e
entry_made m players w p ns l us e h read q r s is =
    let give : Result (List ℤ) CorrTextFault → Result Entry CorrTextFault = λ a. a >>= λ point. Ok (made point w.profile w.lottery w.punish) in
    let long : length w.point ≡ length ns = h.parts ∙ sym h.strategies ∙ ap length (sym q) in
    let part : take (length w.point) p ≡ take (length ns) p = ap (λ (n : ℕ). take n p) long in
    ap give read ∙ ap (λ (e : Entry). Ok e) (same_parts (take (length w.point) p) (take (length ns) p) w.profile ns w.lottery l w.punish us part (sym q) (sym r) (sym s) ∙ sym is)
