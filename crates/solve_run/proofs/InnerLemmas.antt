-- The inner sets of a game, as the call that makes them tells of its own.
use Rattle.std.proofs.Common.{◌≡◌, ℕ, List, sym, subst}
use Rattle.game_model.specs.Game.{DynamicGame}
use Rattle.game_model.specs.SelfGeneration.{IsSelfGenerating}
use Rattle.selfgen_check.specs.Promises.{Promises, correspondence_of}
use Rattle.deviation_laws.specs.Plans.{NoPlanGains}
use Rattle.inner_sets.specs.Inner.{IsInnerSet}
use Rattle.solve_run.specs.Inner.{AreNumbers, IsInnerOf}

pub inner_told : (g h : DynamicGame) (n : ℕ) (c d : Promises) (numbers : List (List ℕ)) → h ≡ g → d ≡ c
    → IsInnerSet g n c → IsSelfGenerating h (correspondence_of h c) → NoPlanGains h (correspondence_of h c) → AreNumbers h c numbers → IsInnerOf g n d numbers
inner_told g h n c d numbers p q inner made gains numbered =
    subst (λ (x : Promises). IsInnerOf g n x numbers) (sym q)
    (record {
      inner = inner;
      self_generating = subst (λ (x : DynamicGame). IsSelfGenerating x (correspondence_of x c)) p made;
      no_plan_gains = subst (λ (x : DynamicGame). NoPlanGains x (correspondence_of x c)) p gains;
      numbered = subst (λ (x : DynamicGame). AreNumbers x c numbers) p numbered;
    })
