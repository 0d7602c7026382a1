use Rattle.std.proofs.Common.{refl}
use Rattle.demo_handover.specs.Given.{given_xs}
use Rattle.demo_handover.proofs.given.columns.Goals as goal

pub returns : goal.returns
unfolding given_xs
returns c = (refl, refl)
