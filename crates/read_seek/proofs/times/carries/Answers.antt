use Rattle.read_seek.specs.Times.{carries-bit}
use Rattle.read_seek.proofs.times.carries.Goals as goal

pub returns : goal.returns
returns c = rw c.bits.ensures (carries-bit c.args.kind)
