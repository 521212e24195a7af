-- The prisoner's dilemma as a file gives it.
use Rattle.std.specs.Prelude.{[], ◌∷◌, codes, None, ℤ, pos}
use Rattle.pay_frac.specs.Ratio.{Ratio}
use Rattle.nfg_text.specs.declared.nfg.Nfg.{Nfg}
use Rattle.nfg_text.specs.declared.nfg.Strategies.TheVariants.{Counts}

abbrev pub whole : ℤ → Ratio
whole z = record { num = z; den = pos 1 }

abbrev pub prisoners_dilemma : Nfg
prisoners_dilemma = record {
  title = codes "PD";
  players = codes "1" ∷ codes "2" ∷ [];
  strategies = Counts (2 ∷ 2 ∷ []);
  comment = None;
  payoffs = whole (pos 2) ∷ whole (pos 2) ∷ whole (pos 3) ∷ whole (pos 0) ∷ whole (pos 0) ∷ whole (pos 3) ∷ whole (pos 1) ∷ whole (pos 1) ∷ [];
}
