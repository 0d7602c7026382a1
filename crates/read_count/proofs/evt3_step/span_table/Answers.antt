use Rattle.std.proofs.Common.{refl}
use Rattle.read_count.specs.Evt3Step.{span_table}
use Rattle.read_count.proofs.evt3_step.span_table.Goals as goal

pub returns : goal.returns
unfolding span_table
returns c = refl
