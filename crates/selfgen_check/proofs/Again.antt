-- What is written reads as the same correspondence.
use Rattle.std.proofs.Common.{◌≡◌, ℕ, List, Result, Ok, Err, IfOk, ap, ◌∙◌}
use Rattle.game_model.specs.Game.{DynamicGame}
use Rattle.selfgen_check.specs.Canonical.{canonical}
use Rattle.selfgen_check.specs.Measures.{corr_of, measured}
use Rattle.selfgen_check.specs.Promises.{Promises}
use Rattle.selfgen_check.specs.Spelled.{IsWritable, fractions_of}
use Rattle.selfgen_check.specs.TextFaults.{◌>>=◌, lifted}
use Rattle.selfgen_check.proofs.Round.{written_back}

corr_again : (g : DynamicGame) (c : Promises) → IsWritable g c → corr_of g (canonical c) ≡ measured g (fractions_of c)
unfolding corr_of
corr_again g c h = ap (λ r. lifted r >>= measured g) (written_back g c h)

-- a text that was written, where memory sufficed
pub text_again : {E : Type 0} (r : Result (List ℕ) E) (g : DynamicGame) (c : Promises) → IfOk r (λ t. t ≡ canonical c) → IfOk r (λ t. IsWritable g c → corr_of g t ≡ measured g (fractions_of c))
text_again (Ok t) g c h = λ k. ap (corr_of g) h ∙ corr_again g c k
text_again (Err e) g c h = tt
