use Rattle.std.proofs.Common.{refl, false, arith, length, ◌+◌, ◌≤◌}
use Rattle.evt_types.specs.Ahead.{ahead}
use Rattle.read_seek.specs.Iteration.{Seeking, seeking_start}
use Rattle.read_seek.specs.Skip.{skip_start2, skip_other2, skip_time2, skip_small2, skip_on2}
use Rattle.read_seek.proofs.strides.strides.Goals.{
  else-loop-i-test,
  then-loop-i-test+then-kind-eq8+then-t-next,
  then-loop-i-test+then-kind-eq8+else-t-next+then-t-next-2,
}
use Rattle.read_seek.proofs.strides.strides.Goals as goal

pub returns-then-t-d : goal.returns-then-t-d
returns-then-t-d g c =
    let O = g.E.HoldsEvt2.over in
    rw c.codec.ensures (g.met.E.HoldsEvt2.found c.args.t c.args.d c.args.d c.args.bytes.now 0 (seeking_start O.sound c.requires.bounded))

pub loop-i-init : goal.loop-i-init
loop-i-init g c = skip_start2 g.E.HoldsEvt2.over c.args.t c.args.d c.args.bytes.now c.requires.bounded (omega arith)

pub overflow_add-next : goal.overflow_add-next
overflow_add-next g c =
    let O = g.E.HoldsEvt2.over in
    let a = c.args in
    let w = ahead O.reader.size a.bytes.now c.loop-i.i in
    let whole : c.loop-i.i + O.reader.size ≤ length a.bytes.now =
    omega (arith, c.WORD_SIZE-size.ensures, g.met.E.HoldsEvt2.size, O.sound.some, c.loop-i-test.true) in
    omega (
      arith,
      skip_small2 O a.t a.d a.bytes.now c.loop-i.invariant whole w refl c.bits-kind.result
          (rw c.half_at-w.ensures at c.bits-kind.ensures) c.if-kind-eq8.true c.advance.result.next (rw c.half_at-w.ensures at c.advance.ensures.0)
          c.if-t-next.false,
    )

pub loop-i-preserved-else-t-next-2 : goal.loop-i-preserved-else-t-next-2
loop-i-preserved-else-t-next-2 g c =
    let O = g.E.HoldsEvt2.over in
    let a = c.args in
    let w = ahead O.reader.size a.bytes.now c.loop-i.i in
    let whole : c.loop-i.i + O.reader.size ≤ length a.bytes.now =
    omega (arith, c.WORD_SIZE-size.ensures, g.met.E.HoldsEvt2.size, O.sound.some, c.loop-i-test.true) in
    rw (c.WORD_SIZE-size.ensures, g.met.E.HoldsEvt2.size)
    (skip_on2 O a.t a.d a.bytes.now c.loop-i.invariant whole w refl
    c.bits-kind.result (rw c.half_at-w.ensures at c.bits-kind.ensures) c.if-kind-eq8.true c.advance.result.next (rw c.half_at-w.ensures at c.advance.ensures.0)
    c.if-t-next.false c.if-t-next-2.false)

pub loop-i-preserved : goal.loop-i-preserved
loop-i-preserved g c =
    let O = g.E.HoldsEvt2.over in
    let a = c.args in
    let w = ahead O.reader.size a.bytes.now c.loop-i.i in
    let whole : c.loop-i.i + O.reader.size ≤ length a.bytes.now =
    omega (arith, c.WORD_SIZE-size.ensures, g.met.E.HoldsEvt2.size, O.sound.some, c.loop-i-test.true) in
    rw (c.WORD_SIZE-size.ensures, g.met.E.HoldsEvt2.size)
    (skip_other2 O a.t a.d a.bytes.now c.loop-i.invariant whole w refl
    c.bits-kind.result (rw c.half_at-w.ensures at c.bits-kind.ensures) c.if-kind-eq8.false)

pub returns : goal.returns
returns g c =
    let O = g.E.HoldsEvt2.over in
    let a = c.args in
    let p = c.loop-i.invariant in
    let l = c.loop-i-test in
    let W = ahead O.reader.size a.bytes.now c.loop-i.i in
    let mark : Seeking O.reader 0 a.t (O.of a.d) a.bytes.now (O.of l.s) false l.at = elim l.branch [
      | else-loop-i-test w ↦ rw (w.s-is, w.at-is) p.marked
      | then-loop-i-test+then-kind-eq8+then-t-next w ↦ rw (w.s-is, w.at-is) p.marked
      | then-loop-i-test+then-kind-eq8+else-t-next+then-t-next-2 w ↦ rw (w.s-is, w.at-is, c.WORD_SIZE-size.ensures, g.met.E.HoldsEvt2.size)
          (skip_time2 O a.t a.d a.bytes.now p (omega (arith, c.WORD_SIZE-size.ensures, g.met.E.HoldsEvt2.size, O.sound.some)) W refl
          w.bits-kind.result (rw w.half_at-w.ensures at w.bits-kind.ensures) w.if-kind-eq8.true w.advance.result.next
          (rw w.half_at-w.ensures at w.advance.ensures.0) w.if-t-next.false)
    ] in
    rw c.codec-2.ensures (g.met.E.HoldsEvt2.found a.t a.d l.s a.bytes.now l.at mark)
