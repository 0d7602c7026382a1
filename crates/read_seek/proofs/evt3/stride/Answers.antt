use Rattle.std.proofs.Common.{arith}
use Rattle.read_seek.specs.Loops.{passing_start}
use Rattle.read_seek.specs.Skip.{skip_start3, skip_other3, skip_time3, skip_small3, skip_on3}
use Rattle.read_seek.proofs.evt3.stride.Goals as goal

pub returns-then-t-d : goal.returns-then-t-d
returns-then-t-d c = rw c.of-c.ensures (passing_start 0 c.args.t c.args.d c.args.bytes.now c.requires.initialised c.requires.bounded)

pub loop-i-init : goal.loop-i-init
loop-i-init c = rw c.of-c.ensures (skip_start3 c.args.t c.args.d c.args.bytes.now c.requires.initialised c.requires.bounded (omega arith))

pub overflow_add-next : goal.overflow_add-next
overflow_add-next c =
    let a = c.args in
    omega (
      arith,
      skip_small3 a.t a.d a.bytes.now c.loop-i.invariant (omega arith) c.two_at-w.result c.two_at-w.ensures c.bits-kind.result c.bits-kind.ensures
          c.if-kind-eq8.true c.tick-next.result c.tick-next.ensures c.if-t-next.false,
    )

pub loop-i-preserved-else-t-next-2 : goal.loop-i-preserved-else-t-next-2
loop-i-preserved-else-t-next-2 c =
    let a = c.args in
    skip_on3 a.t a.d a.bytes.now c.loop-i.invariant (omega arith) c.two_at-w.result c.two_at-w.ensures c.bits-kind.result c.bits-kind.ensures
    c.if-kind-eq8.true c.tick-next.result c.tick-next.ensures c.if-t-next.false c.if-t-next-2.false

pub loop-i-preserved : goal.loop-i-preserved
loop-i-preserved c =
    let a = c.args in
    skip_other3 a.t a.d a.bytes.now c.loop-i.invariant (omega arith) c.two_at-w.result c.two_at-w.ensures c.bits-kind.result c.bits-kind.ensures
    c.if-kind-eq8.false

pub returns-then-t-next-2 : goal.returns-then-t-next-2
returns-then-t-next-2 c =
    let a = c.args in
    skip_time3 a.t a.d a.bytes.now c.loop-i.invariant (omega arith) c.two_at-w.result c.two_at-w.ensures c.bits-kind.result c.bits-kind.ensures
    c.if-kind-eq8.true c.tick-next.result c.tick-next.ensures c.if-t-next.false
