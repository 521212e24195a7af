use Rattle.std.proofs.Common.{◌≡◌, ◌≤◌, ◌<◌, ◌^◌, ℕ, [], ◌∷◌, take, arith, sym, ◌∙◌, subst}
use Rattle.std.specs.Prelude.{ℤ, pos}
use Rattle.std.specs.Int.{w128}
use Rattle.std.specs.Int.RustNames.{FitsSigned, unsigned_abs}
use Rattle.std.proofs.lemmas.Int.{to_z-of_z}
use Rattle.std.proofs.lemmas.List.{get_or-take, length-take}
use Rattle.lp_cert.specs.Program.{entry}
use Rattle.level_table.specs.Problem.{IsProblem}
use Rattle.set_operator.specs.Boxes.{side_at}
use Rattle.set_operator.proofs.Fits.{by_place, take_small}
use Rattle.set_operator.proofs.Programs.{box_program}
use Rattle.set_operator.proofs.program.boxed.Goals as goal

first_ones : (a b d : ℤ) (f : ℕ → ℤ) (n : ℕ) → n ≤ 3 → a ≡ f 0 → b ≡ f 1 → d ≡ f 2 → (i : ℕ) → i < n → entry (take n (a ∷ b ∷ d ∷ [])) i ≡ f i
first_ones a b d f n few p q r i within = get_or-take n (a ∷ b ∷ d ∷ []) i (pos 0) within ∙ by_place a b d f p q r i (omega arith)

small_ones : (a b d : ℤ) (f : ℕ → ℤ) (n m : ℕ) → n ≤ 3 → a ≡ f 0 → b ≡ f 1 → d ≡ f 2 → ((i : ℕ) → i < n → unsigned_abs (f i) ≤ m) → (i : ℕ) → i < n → unsigned_abs (entry (a ∷ b ∷ d ∷ []) i) ≤ m
small_ones a b d f n m few p q r small i within = subst (λ z. unsigned_abs z ≤ m) (sym (by_place a b d f p q r i (omega arith))) (small i within)

pub reset-requires-clause-upper : goal.reset-requires-clause-upper
reset-requires-clause-upper c =
    let ok : IsProblem c.args.p.now = c.rules.ensures in
    let f1 : FitsSigned w128 c.upper_side.result = record { sfits = c.upper_side.type_inv } in
    let f2 : FitsSigned w128 c.upper_side-2.result = record { sfits = c.upper_side-2.type_inv } in
    let f3 : FitsSigned w128 c.upper_side-3.result = record { sfits = c.upper_side-3.type_inv } in
    let few : c.players-players.result ≤ 3 = omega (arith, c.players-players.ensures, ok.directions.at_most_three_players) in
    simp to_z-of_z (take_small (c.upper_side.result ∷ c.upper_side-2.result ∷ c.upper_side-3.result ∷ []) c.players-players.result (2 ^ 64) few
    (small_ones c.upper_side.result c.upper_side-2.result c.upper_side-3.result (λ i. (side_at c.args.found.now i).upper) c.players-players.result (2 ^ 64) few
    c.upper_side.ensures c.upper_side-2.ensures c.upper_side-3.ensures (λ i w. c.requires.upper i (omega (arith, c.players-players.ensures)))))

pub reset-requires-clause-lower : goal.reset-requires-clause-lower
reset-requires-clause-lower c =
    let ok : IsProblem c.args.p.now = c.rules.ensures in
    let f1 : FitsSigned w128 c.lower_side.result = record { sfits = c.lower_side.type_inv } in
    let f2 : FitsSigned w128 c.lower_side-2.result = record { sfits = c.lower_side-2.type_inv } in
    let f3 : FitsSigned w128 c.lower_side-3.result = record { sfits = c.lower_side-3.type_inv } in
    let few : c.players-players.result ≤ 3 = omega (arith, c.players-players.ensures, ok.directions.at_most_three_players) in
    simp to_z-of_z (take_small (c.lower_side.result ∷ c.lower_side-2.result ∷ c.lower_side-3.result ∷ []) c.players-players.result (2 ^ 64) few
    (small_ones c.lower_side.result c.lower_side-2.result c.lower_side-3.result (λ i. (side_at c.args.found.now i).lower) c.players-players.result (2 ^ 64) few
    c.lower_side.ensures c.lower_side-2.ensures c.lower_side-3.ensures (λ i w. c.requires.lower i (omega (arith, c.players-players.ensures)))))

pub returns : goal.returns
returns c =
    let ok : IsProblem c.args.p.now = c.rules.ensures in
    let n = c.players-players.result in
    let e : c.players-players.result ≡ c.args.p.now.game.players = c.players-players.ensures in
    let u1 : FitsSigned w128 c.upper_side.result = record { sfits = c.upper_side.type_inv } in
    let u2 : FitsSigned w128 c.upper_side-2.result = record { sfits = c.upper_side-2.type_inv } in
    let u3 : FitsSigned w128 c.upper_side-3.result = record { sfits = c.upper_side-3.type_inv } in
    let l1 : FitsSigned w128 c.lower_side.result = record { sfits = c.lower_side.type_inv } in
    let l2 : FitsSigned w128 c.lower_side-2.result = record { sfits = c.lower_side-2.type_inv } in
    let l3 : FitsSigned w128 c.lower_side-3.result = record { sfits = c.lower_side-3.type_inv } in
    let few : c.players-players.result ≤ 3 = omega (arith, c.players-players.ensures, ok.directions.at_most_three_players) in
    let us = c.upper_side.result ∷ c.upper_side-2.result ∷ c.upper_side-3.result ∷ [] in
    let ls = c.lower_side.result ∷ c.lower_side-2.result ∷ c.lower_side-3.result ∷ [] in
    let rows_are = simp to_z-of_z at c.reset.ensures.rows in
    let dimension_is = simp to_z-of_z at c.reset.ensures.dimension in
    λ t. box_program c.args.p.now t c.args.found.now (take n us) (take n ls) c.reset.new.self ok c.dimension-dimension.ensures.program
    dimension_is rows_are (omega (arith, length-take n us)) (omega (arith, length-take n ls))
    (λ i w. first_ones c.upper_side.result c.upper_side-2.result c.upper_side-3.result (λ j. (side_at c.args.found.now j).upper) n few
    c.upper_side.ensures c.upper_side-2.ensures c.upper_side-3.ensures i (omega arith))
    (λ i w. first_ones c.lower_side.result c.lower_side-2.result c.lower_side-3.result (λ j. (side_at c.args.found.now j).lower) n few
    c.lower_side.ensures c.lower_side-2.ensures c.lower_side-3.ensures i (omega arith))
