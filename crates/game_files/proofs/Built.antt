-- why texts make no game, as a refusal
use Rattle.std.proofs.Common.{◌≡◌, ◌⊎◌, inl, inr, ℕ, List, Option, sym, subst, ap, ◌∙◌}
use Rattle.pay_frac.specs.Ratio.{Ratio}
use Rattle.nfg_text.specs.declared.nfg.Nfg.{Nfg}
use Rattle.dyn_text.specs.declared.transitions.Dyn.{Dyn}
use Rattle.dyn_text.specs.declared.fault.BuildFault.{BuildFault}
use Rattle.dyn_text.specs.declared.fault.BuildFault.TheVariants.{Shape, Wide, NoMemory}
use Rattle.dyn_text.specs.BuildFaults.{IsBuildFault}
use Rattle.game_files.specs.declared.fault.GameFault.{GameFault}
use Rattle.game_files.specs.Loads.{Counts}
use Rattle.game_files.specs.Files.{AreFiles}
use Rattle.game_files.specs.Causes.{IsNoGame, build_refused}

told_build : (told : List ℕ → Option (List ℕ)) (name : List ℕ) (discount : Ratio) (before after : Counts) (d : Dyn) (ns : List Nfg) (e : BuildFault) → AreFiles told name d ns → IsBuildFault d ns discount e → IsNoGame told name discount before after (build_refused e)
told_build told name discount before after d ns (Shape fault) files h = inr (d, ns, files, h)
told_build told name discount before after d ns (Wide what number) files h = inr (d, ns, files, h)
told_build told name discount before after d ns NoMemory files h = absurd h

pub no_game : (told : List ℕ → Option (List ℕ)) (name : List ℕ) (discount : Ratio) (before after : Counts) (d : Dyn) (ns seen : List Nfg) (e : BuildFault) (r : GameFault) → AreFiles told name d ns → seen ≡ ns
    → (e ≡ NoMemory) ⊎ IsBuildFault d seen discount e → r ≡ build_refused e → IsNoGame told name discount before after r
no_game told name discount before after d ns seen e r files same h is =
    elim h [
      | inl memory ↦ inl (inl (is ∙ ap build_refused memory))
      | inr fault ↦ subst (IsNoGame told name discount before after) (sym is) (told_build told name discount before after d ns e files (subst (λ xs. IsBuildFault d xs discount e) same fault))
    ]
