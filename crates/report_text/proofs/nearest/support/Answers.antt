use Rattle.std.proofs.Common.{◌≡◌, ℕ, ◌≤◌, ◌++◌, List, [], ◌∷◌, get_or, drop, sym, ap, ◌∙◌, arith}
use Rattle.std.specs.Prelude.{decimal}
use Rattle.report_text.proofs.nearest.support.Goals as goal

pub returns-clause-read : goal.returns-clause-read
returns-clause-read c = λ s rest k b.
    let e3 : c.skip-3.new.self ≡ decimal s.profile ∷ (b.parts ++ rest) = c.skip-3.ensures ∙ ap (drop 1) (c.skip-2.ensures ∙ ap (drop 1) (c.skip.ensures ∙ ap (drop 1) b.words_are)) in
    let few : s.profile ≤ 4095 = omega (arith, k.profile) in
    let p : c.small-profile.result ≡ s.profile = c.small-profile.ensures.read s.profile (ap (λ (ws : List (List ℕ)). get_or ws 0 []) e3) (omega arith) few in
    let q = c.point-point.ensures.read s.point b.parts rest k.point b.are_parts (c.small-profile.ensures.rest ∙ ap (drop 1) e3) in
    (record { row = k.row_is; profile = sym p; point = q.0 }, q.1)
