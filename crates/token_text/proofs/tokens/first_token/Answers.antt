use Rattle.std.proofs.Common.{◌≡◌, ◌+◌, ◌-◌, ◌<◌, length, get_or, drop, sym, ap, ◌∙◌, arith}
use Rattle.std.proofs.lemmas.Bool.Decides.{nat_tests}
use Rattle.token_text.specs.Tokens.{Token, Kind, kind_at, tokens_from}
use Rattle.token_text.proofs.Lexing.{next_none, next_some, end_next, end_rest, kind_is_no_end, token_next, token_rest}
use Rattle.token_text.proofs.tokens.first_token.Goals as goal

pub returns-then-is_empty-clause-token : goal.returns-then-is_empty-clause-token
returns-then-is_empty-clause-token c =
    let none : length c.behind_blanks-behind.result.now ≡ 0 = grind (arith, nat_tests) in
    end_next c.args.at (c.args.at + (length c.args.bytes.now - length c.behind_blanks-behind.result.now)) c.args.bytes.now
    (next_none c.args.at c.args.bytes.now c.behind_blanks-behind.result.now c.behind_blanks-behind.ensures.value none) (omega arith)

pub returns-then-is_empty-clause-end : goal.returns-then-is_empty-clause-end
returns-then-is_empty-clause-end c =
    let none : length c.behind_blanks-behind.result.now ≡ 0 = grind (arith, nat_tests) in
    λ e. next_none c.args.at c.args.bytes.now c.behind_blanks-behind.result.now c.behind_blanks-behind.ensures.value none

pub returns-then-is_empty-clause-rest : goal.returns-then-is_empty-clause-rest
returns-then-is_empty-clause-rest c =
    let none : length c.behind_blanks-behind.result.now ≡ 0 = grind (arith, nat_tests) in
    end_rest c.args.at (c.args.at + (length c.args.bytes.now - length c.behind_blanks-behind.result.now)) c.args.bytes.now c.behind_blanks-behind.result.now
    (next_none c.args.at c.args.bytes.now c.behind_blanks-behind.result.now c.behind_blanks-behind.ensures.value none) none (omega arith)

pub returns-clause-token : goal.returns-clause-token
returns-clause-token c =
    let bytes = c.args.bytes.now in
    let behind = c.behind_blanks-behind.result.now in
    let after = c.first_kind.result.1.now in
    let some : 0 < length behind = grind (arith, nat_tests) in
    let at = c.args.at + (length bytes - length behind) in
    let with : Kind → Token = λ k. record { at = at; kind = k } in
    ap with c.first_kind.ensures.kind
    ∙ token_next c.args.at bytes (with (kind_at (get_or behind 0 0) (drop 1 behind))) (tokens_from (length after) (at + (length behind - length after)) after)
    (next_some c.args.at bytes behind after c.behind_blanks-behind.ensures.value some c.first_kind.ensures.rest)

pub returns-clause-end : goal.returns-clause-end
returns-clause-end c =
    let behind = c.behind_blanks-behind.result.now in
    λ e. absurd (kind_is_no_end (get_or behind 0 0) (drop 1 behind) (sym c.first_kind.ensures.kind ∙ e))

pub returns-clause-rest : goal.returns-clause-rest
returns-clause-rest c =
    let bytes = c.args.bytes.now in
    let behind = c.behind_blanks-behind.result.now in
    let after = c.first_kind.result.1.now in
    let some : 0 < length behind = grind (arith, nat_tests) in
    let at = c.args.at + (length bytes - length behind) in
    let with : Kind → Token = λ k. record { at = at; kind = k } in
    let place : at + (length behind - length after) ≡ c.args.at + (length bytes - length after) = omega (arith, c.first_kind.ensures.shorter) in
    token_rest c.args.at (c.args.at + (length bytes - length after)) bytes after (with (kind_at (get_or behind 0 0) (drop 1 behind))) (tokens_from (length after) (at + (length behind - length after)) after)
    (next_some c.args.at bytes behind after c.behind_blanks-behind.ensures.value some c.first_kind.ensures.rest)
    (ap (λ n. tokens_from (length after) n after) place) (omega (arith, c.first_kind.ensures.shorter))
