use Rattle.std.proofs.Common.{Result, Ok, Err, IfOk, OnErr, refl}
use Rattle.pay_outside.proofs.real.StdSinkSink.TheImpl.Goals as goal

-- what holds of each value holds of that of an Ok
IfOk-always : {T E : Type 0} {P : T → Type 0} (r : Result T E) → ((x : T) → P x) → IfOk r P
IfOk-always (Ok x) h = h x
IfOk-always (Err e) h = tt

-- what holds, holds at an Err
OnErr-always : {T E P : Type 0} (r : Result T E) → P → OnErr r P
OnErr-always (Ok x) h = tt
OnErr-always (Err e) h = h

-- of the bytes taken, which aren't told, nothing is left to show
pub put-tells : goal.put-tells
put-tells g c = record {
  count = c.ensures.count;
  progress = c.ensures.progress;
  empty = c.ensures.empty;
  took = IfOk-always c.result (λ _. refl);
  failed = OnErr-always c.result refl;
  cause = c.ensures.cause;
  faults_grow = c.ensures.faults_grow;
}
