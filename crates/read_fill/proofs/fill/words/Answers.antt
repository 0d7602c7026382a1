use Rattle.std.proofs.Common.{refl, arith}
use Rattle.evt_codec.specs.Sound.{reader_bounded}
use Rattle.read_fill.specs.Iteration.{filling_start, filling_room, filling_next, filling_end}
use Rattle.read_fill.specs.Loops.{iteration, word_narrow}
use Rattle.read_fill.proofs.fill.words.Goals as goal

pub loop-i-init : goal.loop-i-init
loop-i-init g c =
    let L = g.met.D.WordLoop in
    filling_start L.sound.some L.sound.steps (reader_bounded g.D.WordLoop.reader c.args.bytes.now c.requires.bounded)

pub overflow_add-i : goal.overflow_add-i
overflow_add-i g c =
    let L = g.met.D.WordLoop in
    omega (arith, c.WORD_SIZE-size.ensures, L.size, L.small, c.loop-i.invariant.stand.within)

pub advance-next-requires : goal.advance-next-requires
advance-next-requires g c = g.met.D.WordLoop.bounded_sane _ _ c.loop-i.invariant.stand.inv

pub put-n-requires-clause-room : goal.put-n-requires-clause-room
put-n-requires-clause-room g c =
    let L = g.met.D.WordLoop in
    let step = c.advance-next.ensures in
    let u = c.loop-i.invariant in
    filling_room L.sound.some L.sound.steps c.requires.fit u
    (iteration L.sound (omega (arith, c.WORD_SIZE-size.ensures, L.size, L.sound.some, c.loop-i-test.true)) c.word_at-w.ensures step.0 step.1)
    (word_narrow L.sound u.stand.inv step.1)

pub loop-i-smaller : goal.loop-i-smaller
loop-i-smaller g c =
    let L = g.met.D.WordLoop in
    omega (arith, c.WORD_SIZE-size.ensures, L.size, L.sound.some, c.loop-i-test.true)

pub loop-i-preserved : goal.loop-i-preserved
loop-i-preserved g c =
    let L = g.met.D.WordLoop in
    let step = c.advance-next.ensures in
    let u = c.loop-i.invariant in
    rw (c.put-n.ensures.count, c.WORD_SIZE-size.ensures, L.size)
    (filling_next L.sound.some L.sound.steps c.requires.fit u
    (iteration L.sound (omega (arith, c.WORD_SIZE-size.ensures, L.size, L.sound.some, c.loop-i-test.true)) c.word_at-w.ensures step.0 step.1)
    (word_narrow L.sound u.stand.inv step.1) c.put-n.ensures.wrote)

pub codec-requires : goal.codec-requires
codec-requires g c = g.met.D.WordLoop.bounded_sane _ _ c.loop-i.invariant.stand.inv

pub returns-clause-filled : goal.returns-clause-filled
returns-clause-filled g c =
    let L = g.met.D.WordLoop in
    let e = filling_end L.sound.some L.sound.steps c.requires.fit c.loop-i.invariant
    (omega (arith, c.WORD_SIZE-size.ensures, L.size, L.sound.some, c.loop-i-test.false)) in
    rw (c.codec.ensures, e.0, e.1) refl

pub returns-clause-wrote : goal.returns-clause-wrote
returns-clause-wrote g c =
    let L = g.met.D.WordLoop in
    (filling_end L.sound.some L.sound.steps c.requires.fit c.loop-i.invariant
    (omega (arith, c.WORD_SIZE-size.ensures, L.size, L.sound.some, c.loop-i-test.false))).2
