use Rattle.std.proofs.Common.{◌≡◌, ◌<◌, length, sym, arith}
use Rattle.std.proofs.lemmas.Bool.{eqb-true, eqb-false}
use Rattle.pay_frac.proofs.Forms.{make_cut, given_whole, given_decimal, given_fraction, given_none, spelled_whole, spelled_decimal, spelled_fraction}
use Rattle.pay_frac.proofs.numbers.read_unsigned.Goals as goal

pub returns-then-is_empty-clause-given : goal.returns-then-is_empty-clause-given
returns-then-is_empty-clause-given c =
    let text = c.args.text.now in
    let front = c.split_at.result.0.now in
    let rest = c.split_at.result.1.now in
    let n = c.leading_digits.result in
    let cut = make_cut text front rest n c.leading_digits.ensures.bound c.leading_digits.ensures.digits c.leading_digits.ensures.ends c.split_at.ensures.front c.split_at.ensures.back in
    let none : length rest ≡ 0 = eqb-true (length rest) 0 (sym c.if-is_empty.ensures) in
    given_whole text front rest n c.read_whole.result cut none c.read_whole.ensures

pub returns-then-is_empty-clause-spelled : goal.returns-then-is_empty-clause-spelled
returns-then-is_empty-clause-spelled c =
    let text = c.args.text.now in
    let front = c.split_at.result.0.now in
    let rest = c.split_at.result.1.now in
    let n = c.leading_digits.result in
    let cut = make_cut text front rest n c.leading_digits.ensures.bound c.leading_digits.ensures.digits c.leading_digits.ensures.ends c.split_at.ensures.front c.split_at.ensures.back in
    let none : length rest ≡ 0 = eqb-true (length rest) 0 (sym c.if-is_empty.ensures) in
    spelled_whole text front rest n c.read_whole.result cut none c.read_whole.ensures

pub returns-in-46-clause-given : goal.returns-in-46-clause-given
returns-in-46-clause-given c =
    let text = c.args.text.now in
    let front = c.split_at.result.0.now in
    let rest = c.split_at.result.1.now in
    let n = c.leading_digits.result in
    let cut = make_cut text front rest n c.leading_digits.ensures.bound c.leading_digits.ensures.digits c.leading_digits.ensures.ends c.split_at.ensures.front c.split_at.ensures.back in
    let apart = eqb-false (length rest) 0 (sym c.if-is_empty.ensures) in
    let some : 0 < length rest = omega arith in
    given_decimal text front rest n c.read_decimal.result cut some c.in-46.is c.read_decimal.ensures

pub returns-in-46-clause-spelled : goal.returns-in-46-clause-spelled
returns-in-46-clause-spelled c =
    let text = c.args.text.now in
    let front = c.split_at.result.0.now in
    let rest = c.split_at.result.1.now in
    let n = c.leading_digits.result in
    let cut = make_cut text front rest n c.leading_digits.ensures.bound c.leading_digits.ensures.digits c.leading_digits.ensures.ends c.split_at.ensures.front c.split_at.ensures.back in
    let apart = eqb-false (length rest) 0 (sym c.if-is_empty.ensures) in
    let some : 0 < length rest = omega arith in
    spelled_decimal text front rest n c.read_decimal.result cut some c.in-46.is c.read_decimal.ensures

pub returns-in-47-clause-given : goal.returns-in-47-clause-given
returns-in-47-clause-given c =
    let text = c.args.text.now in
    let front = c.split_at.result.0.now in
    let rest = c.split_at.result.1.now in
    let n = c.leading_digits.result in
    let cut = make_cut text front rest n c.leading_digits.ensures.bound c.leading_digits.ensures.digits c.leading_digits.ensures.ends c.split_at.ensures.front c.split_at.ensures.back in
    let apart = eqb-false (length rest) 0 (sym c.if-is_empty.ensures) in
    let some : 0 < length rest = omega arith in
    given_fraction text front rest n c.read_fraction.result cut some c.in-47.is c.read_fraction.ensures

pub returns-in-47-clause-spelled : goal.returns-in-47-clause-spelled
returns-in-47-clause-spelled c =
    let text = c.args.text.now in
    let front = c.split_at.result.0.now in
    let rest = c.split_at.result.1.now in
    let n = c.leading_digits.result in
    let cut = make_cut text front rest n c.leading_digits.ensures.bound c.leading_digits.ensures.digits c.leading_digits.ensures.ends c.split_at.ensures.front c.split_at.ensures.back in
    let apart = eqb-false (length rest) 0 (sym c.if-is_empty.ensures) in
    let some : 0 < length rest = omega arith in
    spelled_fraction text front rest n c.read_fraction.result cut some c.in-47.is c.read_fraction.ensures

pub returns-in_default-clause-given : goal.returns-in_default-clause-given
returns-in_default-clause-given c = λ f form text_is.
    let text = c.args.text.now in
    let front = c.split_at.result.0.now in
    let rest = c.split_at.result.1.now in
    let n = c.leading_digits.result in
    let cut = make_cut text front rest n c.leading_digits.ensures.bound c.leading_digits.ensures.digits c.leading_digits.ensures.ends c.split_at.ensures.front c.split_at.ensures.back in
    let apart = eqb-false (length rest) 0 (sym c.if-is_empty.ensures) in
    let some : 0 < length rest = omega arith in
    absurd (given_none text front rest n cut some (omega arith) (omega arith) f form text_is)
