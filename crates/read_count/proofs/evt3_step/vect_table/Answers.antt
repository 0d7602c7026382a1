use Rattle.std.proofs.Common.{refl}
use Rattle.read_count.specs.Evt3Step.{vect_table}
use Rattle.read_count.proofs.evt3_step.vect_table.Goals as goal

pub returns : goal.returns
unfolding vect_table
returns c = refl
