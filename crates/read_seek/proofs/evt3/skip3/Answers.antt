use Rattle.std.proofs.Common.{arith}
use Rattle.read_seek.specs.Skip.{midway3}
use Rattle.read_seek.proofs.evt3.skip3.Goals as goal

pub returns-then-d : goal.returns-then-d
returns-then-d c =
    let a = c.args in
    midway3 a.t a.d a.bytes.now c.if-d.true (omega arith)
    c.stride-m.ensures c.put-decoder.result c.put-decoder.ensures
