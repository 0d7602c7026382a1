use Rattle.std.proofs.Common.{◌∙◌, arith}
use Rattle.read_seek.specs.Loops.{passing_start, passing_end, passing_stop, passing_next}
use Rattle.read_seek.proofs.evt3.pass.Goals as goal

pub loop-i-init : goal.loop-i-init
loop-i-init c = let a = c.args in rw c.of-c.ensures (passing_start a.t0 a.t1 a.d a.bytes.now c.requires.initialised c.requires.bounded)

pub loop-i-preserved : goal.loop-i-preserved
loop-i-preserved c =
    let a = c.args in
    passing_next a.t0 a.t1 a.d a.bytes.now (omega arith) c.two_at-w.result c.two_at-w.ensures c.loop-i.invariant c.tick-next.result c.tick-next.ensures
    c.if-t1-next.false c.bits-kind.result c.bits-kind.ensures c.strays-stray.result (c.strays-stray.ensures ∙ rw c.carries.ensures)

pub returns-after-loop-i : goal.returns-after-loop-i
returns-after-loop-i c = let a = c.args in passing_end a.t0 a.t1 a.d a.bytes.now c.loop-i.invariant (omega arith)

pub returns-then-t1-next : goal.returns-then-t1-next
returns-then-t1-next c =
    let a = c.args in
    passing_stop a.t0 a.t1 a.d a.bytes.now (omega arith) c.two_at-w.result c.two_at-w.ensures c.loop-i.invariant c.tick-next.result c.tick-next.ensures
    c.if-t1-next.true
