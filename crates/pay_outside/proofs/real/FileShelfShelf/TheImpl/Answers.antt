use Rattle.std.proofs.Common.{refl}
use Rattle.pay_outside.proofs.real.FileShelfShelf.TheImpl.Goals as goal

-- of what isn't told nothing is left to show, and every name may be asked for
pub load-tells : goal.load-tells
load-tells g c = record {
  within = c.ensures.within;
  exact = tt;
  failed = c.ensures.failed;
  too_long = c.ensures.too_long;
  over = λ _. tt;
  same_bytes = λ _. refl;
  same_names = λ _. (λ asked. asked, λ asked. asked);
  counted = tt;
  faults_grow = c.ensures.faults_grow;
  overlong_grow = c.ensures.overlong_grow;
}
