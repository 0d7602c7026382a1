use Rattle.std.proofs.Common.{sym, ◌∙◌, arith}
use Rattle.evt_codec.specs.Sound.{reader_bounded}
use Rattle.read_select.specs.Iteration.{iteration, inv_next}
use Rattle.read_select.specs.Count.{Counted, counts_start, counts_on, counts_stop, counted, counts_end, notable-here, counts_next}
use Rattle.read_select.proofs.passes.survey.Goals.{else-loop-i-test, then-loop-i-test+then-stopped}
use Rattle.read_select.proofs.passes.survey.Goals as goal

pub loop-i-init : goal.loop-i-init
loop-i-init g c =
    let r = c.requires in
    counts_start g.met.D.WordLoop.sound (reader_bounded g.D.WordLoop.reader c.args.bytes.now r.bounded) r.long r.low

pub note-t-requires : goal.note-t-requires
note-t-requires g c =
    let L = g.met.D.WordLoop in
    notable-here L.sound c.loop-i.invariant
    (iteration (omega (arith, c.WORD_SIZE-size.ensures, L.size, L.sound.some)) c.word_at-w.ensures c.advance-next.ensures.0 c.advance-next.ensures.1)
    c.cut-r.result c.cut-r.ensures

pub loop-i-preserved : goal.loop-i-preserved
loop-i-preserved g c =
    let L = g.met.D.WordLoop in
    counts_on L.sound (rw (c.started.ensures, c.time.ensures) at (sym c.stopped.ensures ∙ c.if-stopped.false))
    (rw (c.note-t.ensures, c.WORD_SIZE-size.ensures, L.size)
    (counts_next L.sound c.loop-i.invariant
    (iteration (omega (arith, c.WORD_SIZE-size.ensures, L.size, L.sound.some)) c.word_at-w.ensures c.advance-next.ensures.0 c.advance-next.ensures.1)
    c.cut-r.result c.cut-r.ensures))

pub codec-requires : goal.codec-requires
codec-requires g c =
    let L = g.met.D.WordLoop in
    let sane : g.D.WordLoop.sane c.loop-i-test.s = elim c.loop-i-test.branch [
      | else-loop-i-test w ↦ rw w.s-is (L.bounded_sane _ _ c.loop-i.invariant.at.inv)
      | then-loop-i-test+then-stopped w ↦ rw w.s-is
          (L.bounded_sane _ _ (inv_next L.sound c.loop-i.invariant.at
          (iteration (omega (arith, c.WORD_SIZE-size.ensures, L.size, L.sound.some)) w.word_at-w.ensures w.advance-next.ensures.0 w.advance-next.ensures.1)))
    ] in
    sane

pub returns : goal.returns
returns g c =
    let L = g.met.D.WordLoop in
    let W = g.D.WordLoop in
    let l = c.loop-i-test in
    let done : Counted W.reader c.args.win c.args.number (W.state c.args.start) c.args.bytes.now (W.state l.s) l.t l.i = elim l.branch [
      | else-loop-i-test w ↦ rw (w.s-is, w.t-is, w.i-is)
          (counts_end L.sound c.loop-i.invariant (omega (arith, c.WORD_SIZE-size.ensures, L.size, L.sound.some)))
      | then-loop-i-test+then-stopped w ↦ rw (w.s-is, w.t-is, w.i-is, c.WORD_SIZE-size.ensures, L.size)
          (counts_stop L.sound (rw (w.started.ensures, w.time.ensures) at (sym w.stopped.ensures ∙ w.if-stopped.true)) (rw w.note-t.ensures
          (counts_next L.sound c.loop-i.invariant
          (iteration (omega (arith, c.WORD_SIZE-size.ensures, L.size, L.sound.some)) w.word_at-w.ensures w.advance-next.ensures.0 w.advance-next.ensures.1)
          w.cut-r.result w.cut-r.ensures)))
    ] in
    rw (c.codec.ensures, c.WORD_SIZE-size.ensures, L.size) (counted L.sound done)
