use Rattle.std.proofs.Common.{refl}
use Rattle.demo_handover.specs.Given.{given_ps}
use Rattle.demo_handover.proofs.given.polarities.Goals as goal

pub returns : goal.returns
unfolding given_ps
returns c = (refl, refl)
