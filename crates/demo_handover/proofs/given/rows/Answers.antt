use Rattle.std.proofs.Common.{refl}
use Rattle.demo_handover.specs.Given.{given_ys}
use Rattle.demo_handover.proofs.given.rows.Goals as goal

pub returns : goal.returns
unfolding given_ys
returns c = (refl, refl)
