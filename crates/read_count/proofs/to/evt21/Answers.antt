use Rattle.std.proofs.Common.{arith}
use Rattle.evt21_decoder.specs.Range.{bounded_step21}
use Rattle.evt_codec.specs.{declared.codec.Codec.TheVariants.Evt21, Sound.sound21, Sound.bounded_words}
use Rattle.read_fill.specs.Loops.{word_narrow}
use Rattle.read_count.specs.Passing.{passing_start, passing_stop, passing_next, passing_end}
use Rattle.read_count.specs.Loops.{Word21, iteration21, counted21}
use Rattle.read_count.proofs.to.evt21.Goals as goal
use Rattle.read_count.proofs.to.evt21.Goals.{else-loop-i-test, then-loop-i-test+then-most-n}

pub loop-i-init : goal.loop-i-init
loop-i-init c = rw c.evt2-s.ensures (passing_start (omega arith) bounded_step21 (bounded_words (Evt21 c.args.d) c.args.bytes.now c.requires))

pub count_inside-m-requires : goal.count_inside-m-requires
count_inside-m-requires c = let small = word_narrow sound21 c.loop-i.invariant.inv c.advance-step.ensures.1 in (small.x<, small.mask<)

pub loop-i-preserved : goal.loop-i-preserved
loop-i-preserved c =
    let l = c.loop-i in
    let b = l.invariant.inv in
    let a : Word21 c.args.width c.args.height c.column_bound-bound.result c.args.bytes.now l.s l.i c.eight_at-w.result c.advance-step.result
    c.count_inside-m.result =
    record {
      more = c.loop-i-test.true;
      is_word = c.eight_at-w.ensures;
      is_step = c.advance-step.ensures;
      is_bound = c.column_bound-bound.ensures;
      is_count = c.count_inside-m.ensures;
    } in
    passing_next (omega arith) bounded_step21 l.invariant (iteration21 a b) (counted21 a b) c.if-most-n.false

pub returns : goal.returns
returns c =
    let l = c.loop-i in
    elim c.loop-i-test.branch [
      | else-loop-i-test w ↦ rw c.of_evt2-decoder.ensures (rw c.evt2-s.ensures at (passing_end (omega arith) bounded_step21 l.invariant (omega arith)))
      | then-loop-i-test+then-most-n w ↦
          let a : Word21 c.args.width c.args.height c.column_bound-bound.result c.args.bytes.now l.s l.i w.eight_at-w.result w.advance-step.result
          w.count_inside-m.result =
          record {
            more = w.loop-i-test.true;
            is_word = w.eight_at-w.ensures;
            is_step = w.advance-step.ensures;
            is_bound = c.column_bound-bound.ensures;
            is_count = w.count_inside-m.ensures;
          } in
          let b = l.invariant.inv in
          let stop = passing_stop (omega arith) bounded_step21 l.invariant (iteration21 a b) (counted21 a b) w.if-most-n.true in
          rw c.of_evt2-decoder.ensures (rw c.evt2-s.ensures at stop)
    ]
