use Rattle.std.proofs.Common.{refl, arith}
use Rattle.evt_types.specs.Ahead.{ahead}
use Rattle.read_seek.specs.Iteration.{Ends, seeking_start, seeking_end, seeking_stop, seeking_next}
use Rattle.read_seek.proofs.walk.walk.Goals.{else-loop-i-test, then-loop-i-test+then-t1-time}
use Rattle.read_seek.proofs.walk.walk.Goals as goal

pub loop-i-init : goal.loop-i-init
loop-i-init g c = seeking_start g.met.D.WordLoop.sound c.requires.bounded

pub pass-next-requires-clause-sane : goal.pass-next-requires-clause-sane
pass-next-requires-clause-sane g c = g.met.D.WordLoop.bounded_sane _ _ c.loop-i.invariant.inv

pub pass-next-requires-clause-whole : goal.pass-next-requires-clause-whole
pass-next-requires-clause-whole g c =
    let L = g.met.D.WordLoop in
    omega (arith, c.WORD_SIZE-size.ensures, L.size, L.sound.some, c.loop-i-test.true)

pub loop-i-preserved : goal.loop-i-preserved
loop-i-preserved g c =
    let L = g.met.D.WordLoop in
    let W = g.D.WordLoop in
    let step = c.pass-next.ensures in
    rw (c.WORD_SIZE-size.ensures, L.size)
    (seeking_next L.sound c.loop-i.invariant (omega (arith, c.WORD_SIZE-size.ensures, L.size, L.sound.some, c.loop-i-test.true))
    (ahead W.reader.size c.args.bytes.now c.loop-i.i) refl (W.state c.pass-next.result.0) step.0
    (rw c.time-time.ensures at c.if-t1-time.false) c.pass-next.result.1 step.1 c.strays-stray.result
    (rw c.time-time.ensures at c.strays-stray.ensures))

pub codec-requires : goal.codec-requires
codec-requires g c = g.met.D.WordLoop.bounded_sane _ _ c.loop-i.invariant.inv

pub returns : goal.returns
returns g c =
    let L = g.met.D.WordLoop in
    let W = g.D.WordLoop in
    let a = c.args in
    let l = c.loop-i in
    let done : Ends W.reader a.t0 a.t1 (W.state a.start) a.bytes.now (W.state l.s) l.stray l.i = elim c.loop-i-test.branch [
      | else-loop-i-test w ↦ seeking_end L.sound l.invariant (omega (arith, c.WORD_SIZE-size.ensures, L.size, L.sound.some))
      | then-loop-i-test+then-t1-time w ↦ seeking_stop L.sound l.invariant
          (omega (arith, c.WORD_SIZE-size.ensures, L.size, L.sound.some)) (ahead W.reader.size a.bytes.now l.i) refl
          (W.state w.pass-next.result.0) w.pass-next.ensures.0 (rw w.time-time.ensures at w.if-t1-time.true)
    ] in
    rw c.codec.ensures (done.0, L.codec_bounded _ l.s done.1)
