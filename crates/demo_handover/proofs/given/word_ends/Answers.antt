use Rattle.std.proofs.Common.{refl}
use Rattle.demo_handover.specs.Given.{word_ends}
use Rattle.demo_handover.proofs.given.word_ends.Goals as goal

pub returns-in-Evt2 : goal.returns-in-Evt2
unfolding word_ends
returns-in-Evt2 c = (rw c.in-Evt2.is, refl)

pub returns-in-Evt21 : goal.returns-in-Evt21
unfolding word_ends
returns-in-Evt21 c = (rw c.in-Evt21.is, refl)

pub returns-in-Evt3 : goal.returns-in-Evt3
unfolding word_ends
returns-in-Evt3 c = (rw c.in-Evt3.is, refl)
