use Rattle.std.proofs.Common.{◌≤◌, lit<, ◌<◌, ◌≡◌, ℕ, ◌^◌, ◌==◌, Bool, true, false, List, length, min, Some, None, refl, sym, ap, ◌∙◌, arith}
use Rattle.std.specs.Prelude.{IsTrue, ◌↔◌, nat_lt}
use Rattle.std.specs.Option.{option_map}
use Rattle.std.specs.Str.Parse.{AllDigits, digits_value}
use Rattle.std.proofs.lemmas.Bool.{true≢false}
use Rattle.std.proofs.lemmas.Bool.Decides.{nat_tests}
use Rattle.std.proofs.lemmas.Int.Digits.{digits_value-lt}
use Rattle.std.proofs.Math.Nat.{pow-le-pow_right}
use Rattle.pay_frac.specs.Number.{all_digits, whole_of}
use Rattle.pay_frac.proofs.Deciding.{true_digits, digits_true}
use Rattle.pay_frac.proofs.numbers.read_capped.Goals as goal

none_empty : (w : List ℕ) → (length w == 0) ≡ true → whole_of w ≡ None
none_empty w h =
    let e : nat_lt 0 (length w) ≡ false = grind (arith, nat_tests) in
    rw e refl

not_digits : (w : List ℕ) (b : Bool) → (IsTrue b ↔ AllDigits 10 w) → b ≡ false → all_digits w ≡ false
not_digits w b h e =
    let by : (v : Bool) → all_digits w ≡ v → all_digits w ≡ false =
    λ v. elim v as (λ v. all_digits w ≡ v → all_digits w ≡ false) [
      | true ↦ λ t. absurd (true≢false (sym (h.1 (digits_true w t)) ∙ e))
      | false ↦ λ t. t
    ] in
    by (all_digits w) refl

none_other : (w : List ℕ) → (length w == 0) ≡ false → all_digits w ≡ false → whole_of w ≡ None
none_other w h k =
    let e : nat_lt 0 (length w) ≡ true = grind (arith, nat_tests) in
    rw (e, k) refl

some_whole : (w : List ℕ) → (length w == 0) ≡ false → all_digits w ≡ true → whole_of w ≡ Some (digits_value 10 w)
some_whole w h k =
    let e : nat_lt 0 (length w) ≡ true = grind (arith, nat_tests) in
    rw (e, k) refl

pub returns-then-is_empty-clause-capped : goal.returns-then-is_empty-clause-capped
returns-then-is_empty-clause-capped c = ap (option_map (λ n. min n (10 ^ 36))) (sym (none_empty c.args.text.now (sym c.is_empty.ensures ∙ c.if-is_empty.true)))

pub returns-then-are_digits-clause-capped : goal.returns-then-are_digits-clause-capped
returns-then-are_digits-clause-capped c =
    let w = c.args.text.now in
    let d = true_digits w (c.are_digits.ensures.0 c.if-are_digits.true) in
    ap (λ x. Some x) c.capped_value.ensures ∙ ap (option_map (λ n. min n (10 ^ 36))) (sym (some_whole w (sym c.is_empty.ensures ∙ c.if-is_empty.false) d))

pub returns-else-are_digits-clause-capped : goal.returns-else-are_digits-clause-capped
returns-else-are_digits-clause-capped c =
    let w = c.args.text.now in
    let d = not_digits w c.are_digits.result c.are_digits.ensures c.if-are_digits.false in
    ap (option_map (λ n. min n (10 ^ 36))) (sym (none_other w (sym c.is_empty.ensures ∙ c.if-is_empty.false) d))

-- a number of at most 36 digits is not capped
small : (w : List ℕ) → AllDigits 10 w → length w ≤ 36 → digits_value 10 w < 10 ^ 36
small w h l =
    let m : 10 ^ length w ≤ 10 ^ 36 = pow-le-pow_right (lit< tt) l in
    omega (arith, digits_value-lt 10 w h)

pub returns-then-is_empty-clause-few : goal.returns-then-is_empty-clause-few
returns-then-is_empty-clause-few c = λ l. sym (none_empty c.args.text.now (sym c.is_empty.ensures ∙ c.if-is_empty.true))

pub returns-then-are_digits-clause-few : goal.returns-then-are_digits-clause-few
returns-then-are_digits-clause-few c =
    let w = c.args.text.now in
    let all = c.are_digits.ensures.0 c.if-are_digits.true in
    λ l.
    let below = small w all l in
    let same : c.capped_value.result ≡ digits_value 10 w = omega (arith, c.capped_value.ensures) in
    ap (λ x. Some x) same ∙ sym (some_whole w (sym c.is_empty.ensures ∙ c.if-is_empty.false) (true_digits w all))

pub returns-else-are_digits-clause-few : goal.returns-else-are_digits-clause-few
returns-else-are_digits-clause-few c =
    let w = c.args.text.now in
    let d = not_digits w c.are_digits.result c.are_digits.ensures c.if-are_digits.false in
    λ l. sym (none_other w (sym c.is_empty.ensures ∙ c.if-is_empty.false) d)
