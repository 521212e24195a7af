-- What `Game::build` is given, and which fault it names.
use Rattle.std.specs.Prelude.{◌≡◌, ℕ, ◌*◌, ◌<◌, ◌≤◌, ◌^◌, List, [], length, map, slice_index, slice_index_or, pos, ◌≤ℤ◌, neg_ℤ, Option, Some, None, nat_le, ◌==◌, not, if◌then◌else◌, find}
use Rattle.game_model.specs.declared.parts.GameParts.{GameParts}
use Rattle.game_model.specs.declared.parts.ShapeFault.{ShapeFault}
use Rattle.game_model.specs.declared.parts.ShapeWhat.{ShapeWhat}
use Rattle.game_model.specs.declared.parts.ShapeWhat.TheVariants.{Players, Payoffs, Successors, Successor}
use Rattle.game_model.specs.Game.{DynamicGame, states, counts, profile_count, Divides}

-- the game of the parts, with b as its base
abbrev pub game_of : GameParts → ℕ → DynamicGame
game_of p b = record {
  players = p.players;
  strategies = map (λ v. v.items) p.strategies.items;
  payoffs = map (λ v. v.items) p.payoffs.items;
  next = map (λ v. v.items) p.next.items;
  denominator = p.denominator;
  discounts = p.discounts.items;
  q = p.q;
  base = b;
}

-- the parts as a game whose base nobody asks for
abbrev pub shape_of : GameParts → DynamicGame
shape_of p = game_of p 1

-- The parts keep the limits. Nothing is asked here of the lengths of a state's lists, nor of the successors: a fault names them.
pub record KeepLimits (g : DynamicGame) : Type 0 where
  pub two_players : 2 ≤ g.players
  pub three_players : g.players ≤ 3
  pub some_state : 1 ≤ states g
  pub few_states : states g ≤ 64
  pub payoffs_listed : length g.payoffs ≡ states g
  pub next_listed : length g.next ≡ states g
  pub some_strategy : (s i : ℕ) → s < states g → i < length (counts g s) → 1 ≤ slice_index (counts g s) i
  pub few_strategies : (s i : ℕ) → s < states g → i < length (counts g s) → slice_index (counts g s) i ≤ 16
  pub payoffs_small : (s k : ℕ) → s < states g → k < length (slice_index_or g.payoffs s []) → (neg_ℤ (pos (2 ^ 26)) ≤ℤ slice_index_or (slice_index_or g.payoffs s []) k (pos 0)) × (slice_index_or (slice_index_or g.payoffs s []) k (pos 0) ≤ℤ pos (2 ^ 26))
  pub denominator_positive : pos 1 ≤ℤ g.denominator
  pub denominator_small : g.denominator ≤ℤ pos (2 ^ 40)
  pub discounts_listed : length g.discounts ≡ g.players
  pub discounts_positive : (i : ℕ) → i < g.players → 0 < slice_index g.discounts i
  pub discounts_below : (i : ℕ) → i < g.players → slice_index g.discounts i < g.q
  pub q_small : g.q ≤ 1024
  pub lowest : (d : ℕ) → Divides d g.q → ((i : ℕ) → i < g.players → Divides d (slice_index g.discounts i)) → d ≤ 1

abbrev pub fault : ShapeWhat → ℕ → ℕ → ℕ → ShapeFault
fault what s found wanted = record { what = what; state = s; found = found; wanted = wanted }

-- the fault of a successor that is no state
abbrev pub fault_of_successor : ℕ → ℕ → Option ℕ → Option ShapeFault
fault_of_successor s n None = None
fault_of_successor s n (Some t) = Some (fault Successor s t n)

-- The first test that a state's lists fail, if they fail one: a count for each player, a payoff for each profile and player, a successor for each profile, each successor below n.
abbrev pub list_fault : ℕ → ℕ → ℕ → List ℕ → ℕ → List ℕ → Option ShapeFault
list_fault players n s sizes payoffs next =
    if not (length sizes == players) then Some (fault Players s (length sizes) players)
    else if not (payoffs == profile_count sizes * players) then Some (fault Payoffs s payoffs (profile_count sizes * players))
    else if not (length next == profile_count sizes) then Some (fault Successors s (length next) (profile_count sizes))
    else fault_of_successor s n (find (λ t. nat_le n t) next)

abbrev pub shape_fault : DynamicGame → ℕ → Option ShapeFault
shape_fault g s = list_fault g.players (states g) s (counts g s) (length (slice_index_or g.payoffs s [])) (slice_index_or g.next s [])

-- the fault of the first state that has one
pub record IsFirstFault (g : DynamicGame) (f : ShapeFault) : Type 0 where
  pub known : f.state < states g
  pub here : shape_fault g f.state ≡ Some f
  pub none_before : (s : ℕ) → s < f.state → shape_fault g s ≡ None

abbrev pub HasNoFault : DynamicGame → Type 0
HasNoFault g = (s : ℕ) → s < states g → shape_fault g s ≡ None
