-- Texts have one fault at most.
use Rattle.std.proofs.Common.{◌≡◌, ℕ, suc, ◌<◌, ◌≤◌, ◌^◌, List, [], ◌∷◌, ◌++◌, Some, None, refl, sym, ap, subst, ◌∙◌, arith, inl, inr, ⊎_elim}
use Rattle.std.specs.Prelude.{◌⊎◌, ℤ}
use Rattle.std.specs.List.{All}
use Rattle.std.specs.Int.RustNames.{unsigned_abs}
use Rattle.std.proofs.lemmas.Bool.{cases_lt}
use Rattle.pay_frac.specs.Ratio.{Ratio}
use Rattle.nfg_text.specs.declared.nfg.Nfg.{Nfg}
use Rattle.nfg_text.specs.declared.what.What.{What}
use Rattle.nfg_text.specs.declared.what.What.TheVariants as what
use Rattle.game_model.specs.declared.parts.ShapeFault.{ShapeFault}
use Rattle.game_model.specs.Game.{DynamicGame, IsLeastCommonMultiple}
use Rattle.game_model.specs.Parts.{IsFirstFault, shape_fault}
use Rattle.dyn_text.specs.declared.transitions.Dyn.{Dyn}
use Rattle.dyn_text.specs.declared.fault.BuildFault.{BuildFault}
use Rattle.dyn_text.specs.declared.fault.BuildFault.TheVariants.{Shape, Wide, NoMemory}
use Rattle.dyn_text.specs.Assembled.{payoffs_in, denominators_in, units}
use Rattle.dyn_text.specs.BuildFaults.{shown, IsBuildFault, IsSmallPayoff, IsUnit, IsWide, IsWideDenominator, IsWidePayoff}
use Rattle.dyn_text.proofs.Multiples.{front_le, one_multiple, wide_excluded}
use Rattle.dyn_text.proofs.Texts.{first_excluded}

-- ---- two places of one list
heads : {X : Type 0} (x y : X) (xs ys : List X) → x ∷ xs ≡ y ∷ ys → x ≡ y
heads x y xs ys h = cc

tails : {X : Type 0} (x y : X) (xs ys : List X) → x ∷ xs ≡ y ∷ ys → xs ≡ ys
tails x y xs ys h = cc

abbrev Before : {X : Type 0} → List X → X → List X → Type 0
Before {X} f h g = (m : List X) × (g ≡ (f ++ h ∷ []) ++ m)

places : {X : Type 0} (f : List X) (h : X) (o : List X) (g : List X) (k : X) (p : List X) → f ++ h ∷ o ≡ g ++ k ∷ p → ((f ≡ g) × (h ≡ k)) ⊎ (Before f h g ⊎ Before g k f)
places [] h o [] k p e = inl (refl, heads h k o p e)
places [] h o (y ∷ g) k p e = inr (inl (g, ap (λ z. z ∷ g) (sym (heads h y o (g ++ k ∷ p) e))))
places (x ∷ f) h o [] k p e = inr (inr (f, ap (λ z. z ∷ f) (heads x k (f ++ h ∷ o) p e)))
places (x ∷ f) h o (y ∷ g) k p e =
    let s : x ≡ y = heads x y (f ++ h ∷ o) (g ++ k ∷ p) e in
    ⊎_elim
    (λ (b : (f ≡ g) × (h ≡ k)). inl (ap (λ z. z ∷ f) s ∙ ap (λ zs. y ∷ zs) b.0, b.1))
    (λ (b : Before f h g ⊎ Before g k f). inr (⊎_elim
    (λ (c : Before f h g). inl (c.0, ap (λ zs. y ∷ zs) c.1 ∙ ap (λ z. z ∷ ((f ++ h ∷ []) ++ c.0)) (sym s)))
    (λ (c : Before g k f). inr (c.0, ap (λ zs. x ∷ zs) c.1 ∙ ap (λ z. z ∷ ((g ++ k ∷ []) ++ c.0)) s))
    b))
    (places f h o g k p (tails x y (f ++ h ∷ o) (g ++ k ∷ p) e))

-- ---- the multiple that passes first
not_before : (dens : List ℕ) (a b : ℤ) (w : IsWideDenominator dens a) (v : IsWideDenominator dens b) → Before w.front w.here v.front → ⊥
not_before dens a b w v (m, e) =
    let l : w.multiple ≤ v.before = front_le (w.front ++ w.here ∷ []) m w.multiple v.before w.multiple_is (subst (λ l. IsLeastCommonMultiple l v.before) e v.before_is) in
    let p : 2 ^ 40 < w.multiple = w.passes in
    let q : v.before ≤ 2 ^ 40 = v.before_within in
    omega arith

one_denominator : (dens : List ℕ) (a b : ℤ) → IsWideDenominator dens a → IsWideDenominator dens b → a ≡ b
one_denominator dens a b w v =
    ⊎_elim
    (λ (s : (w.front ≡ v.front) × (w.here ≡ v.here)).
    let l : w.front ++ w.here ∷ [] ≡ v.front ++ v.here ∷ [] = ap (λ x. x ++ w.here ∷ []) s.0 ∙ ap (λ h. v.front ++ h ∷ []) s.1 in
    let m : w.multiple ≡ v.multiple = one_multiple (v.front ++ v.here ∷ []) w.multiple v.multiple (subst (λ x. IsLeastCommonMultiple x w.multiple) l w.multiple_is) v.multiple_is in
    w.number_is ∙ ap shown m ∙ sym v.number_is)
    (λ (s : Before w.front w.here v.front ⊎ Before v.front v.here w.front). absurd (⊎_elim (not_before dens a b w v) (not_before dens b a v w) s))
    (places w.front w.here w.others v.front v.here v.others (sym w.split ∙ v.split))

-- ---- the payoff that passes first
all_at : {A : Type 0} (P : A → Type 0) (f : List A) (h : A) (m : List A) → All P ((f ++ h ∷ []) ++ m) → P h
all_at P [] h m all = all 0 h (omega arith)
all_at P (x ∷ f) h m all = all_at P f h m (λ k d lt. all (suc k) d (omega arith))

no_payoff_before : (unit : ℕ) (ps : List Ratio) (a b : ℤ) (w : IsWidePayoff unit ps a) (v : IsWidePayoff unit ps b) → Before w.front w.here v.front → ⊥
no_payoff_before unit ps a b w v (m, e) =
    let l : IsSmallPayoff unit w.here = all_at (IsSmallPayoff unit) w.front w.here m (subst (All (IsSmallPayoff unit)) e v.before) in
    let p : 2 ^ 26 < unsigned_abs (units unit w.here) = w.passes in
    omega arith

one_payoff : (unit : ℕ) (ps : List Ratio) (a b : ℤ) → IsWidePayoff unit ps a → IsWidePayoff unit ps b → a ≡ b
one_payoff unit ps a b w v =
    ⊎_elim
    (λ (s : (w.front ≡ v.front) × (w.here ≡ v.here)). w.number_is ∙ ap (λ r. shown (unsigned_abs (units unit r))) s.1 ∙ sym v.number_is)
    (λ (s : Before w.front w.here v.front ⊎ Before v.front v.here w.front). absurd (⊎_elim (no_payoff_before unit ps a b w v) (no_payoff_before unit ps b a v w) s))
    (places w.front w.here w.others v.front v.here v.others (sym w.split ∙ v.split))

-- ---- the state with the first fault
some_none : {X : Type 0} {x : X} → Some x ≡ None → ⊥
some_none e = cc

some_same : {X : Type 0} (x y : X) → Some x ≡ Some y → x ≡ y
some_same x y e = cc

one_shape : (g : DynamicGame) (e f : ShapeFault) → IsFirstFault g e → IsFirstFault g f → e ≡ f
one_shape g e f a b =
    ⊎_elim
    (λ (lt : e.state < f.state). absurd (some_none (sym a.here ∙ b.none_before e.state lt)))
    (λ (ge : f.state ≤ e.state). ⊎_elim
    (λ (lt : f.state < e.state). absurd (some_none (sym b.here ∙ a.none_before f.state lt)))
    (λ (le : e.state ≤ f.state).
    let s : e.state ≡ f.state = omega arith in
    some_same e f (sym a.here ∙ ap (shape_fault g) s ∙ b.here))
    (cases_lt f.state e.state))
    (cases_lt e.state f.state)

-- ---- all together
pub data Passed (games : List Nfg) (r : Ratio) (w : What) (n : ℤ) : Type 0 where
  by_discount : w ≡ what.Discount → (1024 < unsigned_abs r.den) → n ≡ r.den → Passed games r w n
  by_denominator : w ≡ what.Denominator → unsigned_abs r.den ≤ 1024 → IsWideDenominator (denominators_in games) n → Passed games r w n
  by_payoff : w ≡ what.Payoff → unsigned_abs r.den ≤ 1024 → (unit : ℕ) → IsUnit games unit → IsWidePayoff unit (payoffs_in games) n → Passed games r w n

pub passed : (games : List Nfg) (r : Ratio) (w : What) (n : ℤ) → IsWide games r w n → Passed games r w n
passed games r what.Discount n h = by_discount refl h.0 h.1
passed games r what.Denominator n h = by_denominator refl h.0 h.1
passed games r what.Payoff n h = by_payoff refl h.0 h.1 h.2 h.3
passed games r what.Digits n h = absurd h
passed games r what.Players n h = absurd h
passed games r what.Strategies n h = absurd h
passed games r what.States n h = absurd h
passed games r what.Whole n h = absurd h
passed games r what.Opening n h = absurd h
passed games r what.Outcomes n h = absurd h
passed games r what.Weight n h = absurd h
passed games r what.Entries n h = absurd h
passed games r what.Common n h = absurd h
passed games r what.Point n h = absurd h
passed games r what.Directions n h = absurd h
passed games r what.Inner n h = absurd h
passed games r what.Start n h = absurd h
passed games r what.Solid n h = absurd h
passed games r what.Candidates n h = absurd h
passed games r what.Log n h = absurd h

abbrev Same : What → ℤ → What → ℤ → Type 0
Same v m w n = (v ≡ w) × (m ≡ n)

one_wide : (games : List Nfg) (r : Ratio) (v w : What) (m n : ℤ) → Passed games r v m → Passed games r w n → Same v m w n
one_wide games r v w m n (by_discount a b c) (by_discount d e f) = (a ∙ sym d, c ∙ sym f)
one_wide games r v w m n (by_discount a b c) (by_denominator d e f) = absurd (omega arith)
one_wide games r v w m n (by_discount a b c) (by_payoff d e u f g) = absurd (omega arith)
one_wide games r v w m n (by_denominator a b c) (by_discount d e f) = absurd (omega arith)
one_wide games r v w m n (by_denominator a b c) (by_denominator d e f) = (a ∙ sym d, one_denominator (denominators_in games) m n c f)
one_wide games r v w m n (by_denominator a b c) (by_payoff d e u f g) = absurd (wide_excluded (denominators_in games) u m f.least f.within c)
one_wide games r v w m n (by_payoff a b u c k) (by_discount d e f) = absurd (omega arith)
one_wide games r v w m n (by_payoff a b u c k) (by_denominator d e f) = absurd (wide_excluded (denominators_in games) u n c.least c.within f)
one_wide games r v w m n (by_payoff a b u c k) (by_payoff d e t f g) =
    let same : u ≡ t = one_multiple (denominators_in games) u t c.least f.least in
    (a ∙ sym d, one_payoff t (payoffs_in games) m n (subst (λ x. IsWidePayoff x (payoffs_in games) m) same k) g)

wide_same : (v w : What) (m n : ℤ) → Same v m w n → Wide v m ≡ Wide w n
wide_same v w m n s = ap (λ x. Wide x m) s.0 ∙ ap (λ x. Wide w x) s.1

pub one_fault : (d : Dyn) (games : List Nfg) (r : Ratio) (e f : BuildFault) → IsBuildFault d games r e → IsBuildFault d games r f → e ≡ f
one_fault d games r (Shape e) (Shape f) a b = ap (λ x. Shape x) (one_shape _ e f a b)
one_fault d games r (Shape e) (Wide w n) a b = absurd (first_excluded _ e b.0 a)
one_fault d games r (Shape e) NoMemory a b = absurd b
one_fault d games r (Wide v m) (Shape f) a b = absurd (first_excluded _ f a.0 b)
one_fault d games r (Wide v m) (Wide w n) a b = wide_same v w m n (one_wide games r v w m n (passed games r v m a.1) (passed games r w n b.1))
one_fault d games r (Wide v m) NoMemory a b = absurd b
one_fault d games r NoMemory f a b = absurd a
