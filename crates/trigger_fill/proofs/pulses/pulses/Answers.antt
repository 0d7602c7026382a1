use Rattle.std.proofs.Common.{arith}
use Rattle.trigger_fill.specs.Form.{known_at, size-pos, size_few}
use Rattle.trigger_fill.specs.Pulse.{place_next, pulse_room, pulse_next, pulse_end}
use Rattle.trigger_fill.specs.Reach.{pulse_reached}
use Rattle.trigger_fill.proofs.pulses.pulses.Goals as goal

pub overflow_add-p : goal.overflow_add-p
overflow_add-p g c = omega (arith, size_few (known_at c.FORM-size.ensures g.met.E.Format.known), c.loop-p.invariant.place.within)

pub put-n-requires-clause-room : goal.put-n-requires-clause-room
put-n-requires-clause-room g c =
    let room = rw (← c.reach-p.ensures.same) at c.requires.room in
    pulse_room g.met.E.Format.known room c.loop-p.invariant (rw c.FORM-size.ensures at c.loop-p-test.true) c.word-w.result c.word-w.ensures

pub reach-p-requires-in-loop-p : goal.reach-p-requires-in-loop-p
reach-p-requires-in-loop-p g c =
    let more = rw c.FORM-size.ensures at c.loop-p-test.true in
    rw (c.tick-next.ensures, c.FORM-size.ensures) (place_next g.met.E.Format.known c.loop-p.invariant.place more c.word-w.result c.word-w.ensures)

pub loop-p-smaller : goal.loop-p-smaller
loop-p-smaller g c =
    omega (arith, c.reach-p-in-loop-p.ensures.on, c.loop-p-test.true, size-pos (known_at c.FORM-size.ensures g.met.E.Format.known))

pub loop-p-preserved : goal.loop-p-preserved
loop-p-preserved g c =
    let room = rw (← c.reach-p.ensures.same) at c.requires.room in
    let more = rw c.FORM-size.ensures at c.loop-p-test.true in
    let next = pulse_next g.met.E.Format.known room c.loop-p.invariant more c.word-w.result c.word-w.ensures c.put-n.ensures c.tick-next.result
    c.tick-next.ensures in
    pulse_reached next (rw c.FORM-size.ensures at c.reach-p-in-loop-p.ensures)

pub returns : goal.returns
returns g c =
    let room = rw (← c.reach-p.ensures.same) at c.requires.room in
    rw c.reach-p.ensures.same at (pulse_end g.met.E.Format.known room c.loop-p.invariant (rw c.FORM-size.ensures at c.loop-p-test.false))
