use Rattle.std.proofs.Common.{refl}
use Rattle.demo_handover.specs.Given.{given_ts}
use Rattle.demo_handover.proofs.given.times.Goals as goal

pub returns-in-Early : goal.returns-in-Early
unfolding given_ts
returns-in-Early c = (rw c.in-Early.is, refl)

pub returns-in-Later2 : goal.returns-in-Later2
unfolding given_ts
returns-in-Later2 c = (rw c.in-Later2.is, refl)

pub returns-in-Later3 : goal.returns-in-Later3
unfolding given_ts
returns-in-Later3 c = (rw c.in-Later3.is, refl)

pub returns-in-Long : goal.returns-in-Long
unfolding given_ts
returns-in-Long c = (rw c.in-Long.is, refl)
