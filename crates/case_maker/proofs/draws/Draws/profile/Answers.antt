use Rattle.std.proofs.Common.{◌≡◌, ◌++◌, ◌∷◌, [], ◌/◌, ◌%◌, ap, ◌∙◌, append_assoc, pos, rules, of_z, to_z, w64, SFits}
use Rattle.std.proofs.lemmas.Int.{to_z-of_z}
use Rattle.case_maker.specs.Generated.{draw}
use Rattle.case_maker.proofs.Drawn.{after_one, after_three, after_two}
use Rattle.case_maker.proofs.draws.Draws.profile.Goals as goal

pub returns-clause-last : goal.returns-clause-last
returns-clause-last c = after_three _ _ _ _ c.draw-first.ensures.last c.draw-second.ensures.last c.draw.ensures.last

pub returns-clause-payoffs : goal.returns-clause-payoffs
returns-clause-payoffs c =
    let old = c.args.payoffs.now.items in
    let x = c.args.self.now.last in
    let first : c.draw-first.result ≡ draw x 1 = c.draw-first.ensures.draw ∙ ap (λ n. n / 65536) (after_one _ _ c.draw-first.ensures.last) in
    let second : c.draw-second.result ≡ draw x 2 = c.draw-second.ensures.draw ∙ ap (λ n. n / 65536) (after_two _ _ _ c.draw-first.ensures.last c.draw-second.ensures.last) in
    let f : SFits w64 c.from.result = search rules in
    let g : SFits w64 c.from-2.result = search rules in
    let one : to_z w64 (of_z w64 c.from.result) ≡ pos (c.draw-first.result % 16) = to_z-of_z w64 c.from.result f ∙ c.from.ensures in
    let two : to_z w64 (of_z w64 c.from-2.result) ≡ pos (c.draw-second.result % 16) = to_z-of_z w64 c.from-2.result g ∙ c.from-2.ensures in
    let pushed : c.push-2.new.self.items ≡ (old ++ pos (c.draw-first.result % 16) ∷ []) ++ pos (c.draw-second.result % 16) ∷ [] =
    c.in_ok-push-2.ensures.items ∙ ap (λ n. c.push.new.self.items ++ n ∷ []) two
    ∙ ap (λ xs. xs ++ pos (c.draw-second.result % 16) ∷ []) (c.in_ok-push.ensures.items ∙ ap (λ n. old ++ n ∷ []) one) in
    pushed ∙ append_assoc old (pos (c.draw-first.result % 16) ∷ []) (pos (c.draw-second.result % 16) ∷ [])
    ∙ ap (λ n. old ++ pos (n % 16) ∷ pos (c.draw-second.result % 16) ∷ []) first ∙ ap (λ n. old ++ pos (draw x 1 % 16) ∷ pos (n % 16) ∷ []) second

pub returns-clause-next : goal.returns-clause-next
returns-clause-next c =
    let x = c.args.self.now.last in
    let third : c.draw.result ≡ draw x 3 = c.draw.ensures.draw ∙ ap (λ n. n / 65536) (after_three _ _ _ _ c.draw-first.ensures.last c.draw-second.ensures.last c.draw.ensures.last) in
    c.in_ok-push-3.ensures.items ∙ ap (λ n. c.args.next.now.items ++ n % c.args.count ∷ []) third
