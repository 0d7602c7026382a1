use Rattle.std.proofs.Common.{sym, ◌∙◌, arith}
use Rattle.evt_codec.specs.Sound.{reader_bounded}
use Rattle.read_select.specs.Iteration.{iteration, inv_next}
use Rattle.read_select.specs.Fill.{Full, fills_start, fills_on, fills_stop, full, full_wrote, fills_end, fills_next, room-here, number_fits}
use Rattle.read_select.proofs.passes.fill.Given.{Over}
use Rattle.read_select.proofs.passes.fill.Goals.{else-loop-i-test, then-loop-i-test+then-stopped}
use Rattle.read_select.proofs.passes.fill.Goals as goal

pub loop-i-init : goal.loop-i-init
loop-i-init g c =
    let r = c.requires.ready in
    fills_start g.met.D.WordLoop.sound (reader_bounded g.D.WordLoop.reader c.args.bytes.now r.bounded) r.long r.low

pub put_all-n-requires : goal.put_all-n-requires
put_all-n-requires g c =
    let L = g.met.D.WordLoop in
    room-here L.sound c.loop-i.invariant
    (iteration (omega (arith, c.WORD_SIZE-size.ensures, L.size, L.sound.some)) c.word_at-w.ensures c.advance-next.ensures.0 c.advance-next.ensures.1)
    c.requires.fit c.cut-r.result c.cut-r.ensures c.masked-kept.ensures

pub after-k-requires : goal.after-k-requires
after-k-requires g c =
    let L = g.met.D.WordLoop in
    number_fits L.sound c.loop-i.invariant
    (iteration (omega (arith, c.WORD_SIZE-size.ensures, L.size, L.sound.some)) c.word_at-w.ensures c.advance-next.ensures.0 c.advance-next.ensures.1)
    c.requires.fit c.cut-r.result c.cut-r.ensures c.masked-kept.ensures c.put_all-n.result c.put_all-n.ensures.count

pub loop-i-preserved : goal.loop-i-preserved
loop-i-preserved g c =
    let L = g.met.D.WordLoop in
    fills_on L.sound (rw (c.started.ensures, c.time.ensures) at (sym c.stopped.ensures ∙ c.if-stopped.false)) (rw (c.WORD_SIZE-size.ensures, L.size)
    (fills_next L.sound c.loop-i.invariant
    (iteration (omega (arith, c.WORD_SIZE-size.ensures, L.size, L.sound.some)) c.word_at-w.ensures c.advance-next.ensures.0 c.advance-next.ensures.1)
    c.requires.fit c.cut-r.result c.cut-r.ensures c.masked-kept.ensures c.put_all-n.result c.put_all-n.ensures.count c.after-k.ensures
    c.put_all-n.ensures.wrote))

pub codec-requires : goal.codec-requires
codec-requires g c =
    let L = g.met.D.WordLoop in
    let sane : g.D.WordLoop.sane c.loop-i-test.s = elim c.loop-i-test.branch [
      | else-loop-i-test w ↦ rw w.s-is (L.bounded_sane _ _ c.loop-i.invariant.at.inv)
      | then-loop-i-test+then-stopped w ↦ rw w.s-is
          (L.bounded_sane _ _ (inv_next L.sound c.loop-i.invariant.at
          (iteration (omega (arith, c.WORD_SIZE-size.ensures, L.size, L.sound.some)) w.word_at-w.ensures w.advance-next.ensures.0 w.advance-next.ensures.1)))
    ] in
    sane

-- where the loop ends
done : (g : Over) (c : goal.After-codec g)
    → let a = c.args in
    let W = g.D.WordLoop in
    let l = c.loop-i-test in
    Full W.reader a.win a.number (W.state a.start) a.bytes.now a.xs.now a.ys.now a.ts.now a.ps.now l.xs l.ys l.ts l.ps (W.state l.s) l.k l.n l.i
done g c =
    let L = g.met.D.WordLoop in
    elim c.loop-i-test.branch [
      | else-loop-i-test w ↦ rw (w.xs-is, w.ys-is, w.ts-is, w.ps-is, w.s-is, w.k-is, w.n-is, w.i-is)
          (fills_end L.sound c.loop-i.invariant (omega (arith, c.WORD_SIZE-size.ensures, L.size, L.sound.some)))
      | then-loop-i-test+then-stopped w ↦ rw (w.xs-is, w.ys-is, w.ts-is, w.ps-is, w.s-is, w.k-is, w.n-is, w.i-is, c.WORD_SIZE-size.ensures, L.size)
          (fills_stop L.sound (rw (w.started.ensures, w.time.ensures) at (sym w.stopped.ensures ∙ w.if-stopped.true)) (fills_next L.sound c.loop-i.invariant
          (iteration (omega (arith, c.WORD_SIZE-size.ensures, L.size, L.sound.some)) w.word_at-w.ensures w.advance-next.ensures.0 w.advance-next.ensures.1)
          c.requires.fit w.cut-r.result w.cut-r.ensures w.masked-kept.ensures w.put_all-n.result w.put_all-n.ensures.count w.after-k.ensures
          w.put_all-n.ensures.wrote))
    ]

pub returns-clause-filled : goal.returns-clause-filled
returns-clause-filled g c =
    let L = g.met.D.WordLoop in
    rw (c.codec.ensures, c.WORD_SIZE-size.ensures, L.size) (full L.sound (done g c))

pub returns-clause-wrote : goal.returns-clause-wrote
returns-clause-wrote g c = full_wrote g.met.D.WordLoop.sound c.requires.fit (done g c)
