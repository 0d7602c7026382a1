use Rattle.std.proofs.Common.{refl}
use Rattle.demo_handover.specs.Given.{ends_of}
use Rattle.demo_handover.proofs.given.ends.Goals as goal

pub returns-in-Early : goal.returns-in-Early
unfolding ends_of
returns-in-Early c = (rw c.in-Early.is c.word_ends.ensures.0, c.word_ends.ensures.1)

pub returns-in-Later2 : goal.returns-in-Later2
unfolding ends_of
returns-in-Later2 c = (rw c.in-Later2.is c.word_ends-in-Later2.ensures.0, c.word_ends-in-Later2.ensures.1)

pub returns-in-Later3 : goal.returns-in-Later3
unfolding ends_of
returns-in-Later3 c = (rw c.in-Later3.is c.word_ends-in-Later3.ensures.0, c.word_ends-in-Later3.ensures.1)

pub returns-in-Long : goal.returns-in-Long
unfolding ends_of
returns-in-Long c = (rw c.in-Long.is, refl)
