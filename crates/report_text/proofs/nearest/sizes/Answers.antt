use Rattle.std.proofs.Common.{◌≡◌, ℕ, ◌≤◌, List, [], ◌∷◌, get_or, drop, sym, ap, subst, ◌∙◌, arith}
use Rattle.std.specs.Prelude.{codes, decimal}
use Rattle.direction_set.specs.DirectionTable.{HasTable}
use Rattle.report_text.specs.declared.rules.Sizes.{Sizes}
use Rattle.report_text.proofs.Sizes.{directions_few}
use Rattle.report_text.proofs.nearest.sizes.Goals as goal

abbrev make : ℕ → ℕ → ℕ → Sizes
make p s k = record { players = p; states = s; directions = k }

pub returns-clause-read : goal.returns-clause-read
returns-clause-read c = λ z rest h e.
    let first = λ (ws : List (List ℕ)). get_or ws 0 [] in
    let d1 : c.skip.new.self ≡ decimal z.players ∷ codes "states" ∷ decimal z.states ∷ codes "directions" ∷ decimal z.directions ∷ rest = c.skip.ensures ∙ ap (drop 1) e in
    let p : c.small-players.result ≡ z.players = c.small-players.ensures.read z.players (ap first d1) h.some_players h.few_players in
    let d2 : c.small-players.new.self ≡ codes "states" ∷ decimal z.states ∷ codes "directions" ∷ decimal z.directions ∷ rest = c.small-players.ensures.rest ∙ ap (drop 1) d1 in
    let d3 : c.skip-2.new.self ≡ decimal z.states ∷ codes "directions" ∷ decimal z.directions ∷ rest = c.skip-2.ensures ∙ ap (drop 1) d2 in
    let s : c.small-states.result ≡ z.states = c.small-states.ensures.read z.states (ap first d3) h.some_state h.few_states in
    let d4 : c.small-states.new.self ≡ codes "directions" ∷ decimal z.directions ∷ rest = c.small-states.ensures.rest ∙ ap (drop 1) d3 in
    let d5 : c.skip-3.new.self ≡ decimal z.directions ∷ rest = c.skip-3.ensures ∙ ap (drop 1) d4 in
    let few : z.directions ≤ 32 = directions_few z.players z.directions h.table in
    let k : c.small.result ≡ z.directions = c.small.ensures.read z.directions (ap first d5) (omega arith) few in
    let d6 : c.small.new.self ≡ rest = c.small.ensures.rest ∙ ap (drop 1) d5 in
    let t : HasTable c.small-players.result c.small.result = subst (λ n. HasTable n c.small.result) (sym p) (subst (HasTable z.players) (sym k) h.table) in
    let n : c.table_size-directions.result ≡ z.directions = c.table_size-directions.ensures.same t ∙ k in (
      ap (λ (m : ℕ). make m c.small-states.result c.table_size-directions.result) p
          ∙ ap (λ (m : ℕ). make z.players m c.table_size-directions.result) s
          ∙ ap (λ (m : ℕ). make z.players z.states m) n,
      d6,
    )
