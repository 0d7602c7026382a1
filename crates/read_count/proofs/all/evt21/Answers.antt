use Rattle.std.proofs.Common.{arith}
use Rattle.evt21_decoder.specs.Evt21.{of2}
use Rattle.evt21_decoder.specs.Range.{bounded_step21}
use Rattle.evt_codec.specs.{declared.codec.Codec.TheVariants.Evt21, Sound.sound21, Sound.bounded_words}
use Rattle.read_fill.specs.{Laws.inside_few, Loops.word_narrow}
use Rattle.read_count.specs.Counting.{counting_start, counting_few, counting_next, counting_end}
use Rattle.read_count.specs.Loops.{Word21, iteration21, counted21}
use Rattle.read_count.proofs.all.evt21.Goals as goal

pub loop-i-init : goal.loop-i-init
loop-i-init c = rw c.evt2-s.ensures (counting_start (omega arith) bounded_step21 (bounded_words (Evt21 c.args.d) c.args.bytes.now c.requires))

pub count_inside-m-requires : goal.count_inside-m-requires
count_inside-m-requires c = let small = word_narrow sound21 c.loop-i.invariant.stand.inv c.advance-step.ensures.1 in (small.x<, small.mask<)

pub overflow_add-n : goal.overflow_add-n
overflow_add-n c =
    let l = c.loop-i in
    let b = l.invariant.stand.inv in
    let a : Word21 c.args.width c.args.height c.column_bound-bound.result c.args.bytes.now l.s l.i c.eight_at-w.result c.advance-step.result
    c.count_inside-m.result =
    record {
      more = c.loop-i-test.true;
      is_word = c.eight_at-w.ensures;
      is_step = c.advance-step.ensures;
      is_bound = c.column_bound-bound.ensures;
      is_count = c.count_inside-m.ensures;
    } in
    omega (
      arith,
      counted21 a b,
      counting_few (omega arith) bounded_step21 l.invariant (iteration21 a b),
      inside_few c.args.width c.args.height (Evt21 (of2 c.evt2-s.result)) c.args.bytes.now,
    )

pub loop-i-preserved : goal.loop-i-preserved
loop-i-preserved c =
    let l = c.loop-i in
    let b = l.invariant.stand.inv in
    let a : Word21 c.args.width c.args.height c.column_bound-bound.result c.args.bytes.now l.s l.i c.eight_at-w.result c.advance-step.result
    c.count_inside-m.result =
    record {
      more = c.loop-i-test.true;
      is_word = c.eight_at-w.ensures;
      is_step = c.advance-step.ensures;
      is_bound = c.column_bound-bound.ensures;
      is_count = c.count_inside-m.ensures;
    } in
    counting_next (omega arith) bounded_step21 l.invariant (iteration21 a b) c.count_inside-m.result (counted21 a b) c.later-top.result c.later-top.ensures

pub returns : goal.returns
returns c =
    let q = rw c.evt2-s.ensures at (counting_end (omega arith) bounded_step21 c.loop-i.invariant (omega arith)) in
    (q.0, q.1, rw c.of_evt2-decoder.ensures q.2)
