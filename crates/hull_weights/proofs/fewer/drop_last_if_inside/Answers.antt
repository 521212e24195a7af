use Rattle.std.proofs.Common.{◌≡◌, List, [], ◌∷◌, ◌++◌, refl, sym, subst}
use Rattle.std.specs.Prelude.{ℤ, All}
use Rattle.std.proofs.lemmas.List.Elements.{All-cons}
use Rattle.hull_weights.specs.Hull.{IsInHull, IsSmallPoint}
use Rattle.hull_weights.specs.SameHull.{HaveSameHull}
use Rattle.hull_weights.proofs.Hulls.{without_last, last_first, all_front, last_of}
use Rattle.hull_weights.proofs.fewer.drop_last_if_inside.Goals as goal

pub returns-in_ok-insert-clause-hull : goal.returns-in_ok-insert-clause-hull
returns-in_ok-insert-clause-hull c =
    let rest : List (List ℤ) = c.pop.new.self.items in
    let before : c.args.kept.now.items ≡ rest ++ c.in-Some.last ∷ [] = c.in-Some.ensures.items in
    let after : c.insert.new.self.items ≡ c.in-Some.last ∷ rest = c.in_ok-insert.ensures.items in
    subst (λ xs. HaveSameHull xs c.args.kept.now.items) (sym after) (subst (λ ys. HaveSameHull (c.in-Some.last ∷ rest) ys) (sym before) (last_first rest c.in-Some.last))

pub returns-in_ok-insert-clause-small : goal.returns-in_ok-insert-clause-small
returns-in_ok-insert-clause-small c =
    let rest : List (List ℤ) = c.pop.new.self.items in
    let before : c.args.kept.now.items ≡ rest ++ c.in-Some.last ∷ [] = c.in-Some.ensures.items in
    let after : c.insert.new.self.items ≡ c.in-Some.last ∷ rest = c.in_ok-insert.ensures.items in
    let all : All IsSmallPoint (rest ++ c.in-Some.last ∷ []) = subst (All IsSmallPoint) before c.requires.small in
    subst (All IsSmallPoint) (sym after) (All-cons IsSmallPoint c.in-Some.last rest (last_of IsSmallPoint rest c.in-Some.last all) (all_front IsSmallPoint rest c.in-Some.last all))

pub returns-else-not-is_in_hull-clause-hull : goal.returns-else-not-is_in_hull-clause-hull
returns-else-not-is_in_hull-clause-hull c =
    let rest : List (List ℤ) = c.pop.new.self.items in
    let before : c.args.kept.now.items ≡ rest ++ c.in-Some.last ∷ [] = c.in-Some.ensures.items in
    let inside : IsInHull rest c.in-Some.last = subst (λ xs. IsInHull xs c.in-Some.last) c.deref.ensures.value (c.if-not-is_in_hull.ensures.0 refl) in
    subst (λ ys. HaveSameHull rest ys) (sym before) (without_last rest c.in-Some.last inside)
