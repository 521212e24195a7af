-- Behind the last word of a kind no further one is taken.
use Rattle.std.proofs.Common.{◌≡◌, ℕ, zero, suc, ◌+◌, ◌-◌, ◌<◌, None, sym, ap, ◌∙◌, arith}
use Rattle.report_lines.specs.declared.pattern.Kind.{Kind}
use Rattle.report_lines.specs.Forms.{Rest, at_most, one, or_else}

stuck : (kind : Kind) (n m : ℕ) (rest last : Rest) → last ≡ at_most kind n rest → one kind last ≡ None → at_most kind (m + n) rest ≡ last
stuck kind n zero rest last e f =
    let z : 0 + n ≡ n = omega arith in
    ap (λ (k : ℕ). at_most kind k rest) z ∙ sym e
stuck kind n (suc m) rest last e f =
    let h : at_most kind (m + n) rest ≡ last = stuck kind n m rest last e f in
    let z : suc m + n ≡ suc (m + n) = omega arith in
    ap (λ (k : ℕ). at_most kind k rest) z ∙ ap (λ (r : Rest). or_else r (one kind r)) h ∙ ap (λ (r : Rest). or_else last r) f

-- so none is taken up to any greater count
pub taken_all : (kind : Kind) (n count : ℕ) (rest last : Rest) → n < count → last ≡ at_most kind n rest → one kind last ≡ None → last ≡ at_most kind count rest
taken_all kind n count rest last l e f =
    let m : (count - n) + n ≡ count = omega arith in
    sym (stuck kind n (count - n) rest last e f) ∙ ap (λ (k : ℕ). at_most kind k rest) m
