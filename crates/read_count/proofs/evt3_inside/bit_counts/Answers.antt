use Rattle.std.proofs.Common.{refl}
use Rattle.std.specs.Int.Count.{ones}
use Rattle.read_count.specs.Evt3Inside.{bit_counts}
use Rattle.read_count.proofs.evt3_inside.bit_counts.Goals as goal

pub returns : goal.returns
unfolding bit_counts ones
returns c = refl
