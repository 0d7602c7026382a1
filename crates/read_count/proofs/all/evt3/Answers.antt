use Rattle.std.proofs.Common.{ap, ◌∙◌, arith}
use Rattle.evt_codec.specs.declared.codec.Codec.TheVariants.{Evt3}
use Rattle.evt3_decoder.specs.Evt3.{slimmed}
use Rattle.read_fill.specs.Laws.{inside_few}
use Rattle.read_count.specs.Counting.{counting_start}
use Rattle.read_count.specs.Evt3Step.{decoder_of}
use Rattle.read_count.specs.Loops.{started3, word3_few, word3-next}
use Rattle.read_count.proofs.all.evt3.Goals as goal
use Rattle.evt3_decoder.proofs.RangeLaws.{bounded_step3}

pub loop-i-init : goal.loop-i-init
loop-i-init c = record {
  counting =
      counting_start (omega arith) bounded_step3 (started3 c.args.bytes.now (ap slimmed (c.counting-s.ensures ∙ c.widen.ensures.0)) c.requires);
  word = c.two_at-w.ensures;
}

pub overflow_add-n : goal.overflow_add-n
overflow_add-n c =
    let inv = c.loop-i.invariant in
    omega (
      arith,
      word3_few (record {
        more = c.loop-i-test.true;
        is_word = inv.word;
        agrees = c.table_step-g.ensures;
        is_bound = c.column_bound-bound.ensures;
        is_count = c.count_inside-m.ensures;
      }) inv.counting,
      inside_few c.args.width c.args.height (Evt3 (slimmed (decoder_of c.counting-s.result))) c.args.bytes.now,
      c.requires.loops,
    )

pub loop-i-preserved : goal.loop-i-preserved
loop-i-preserved c =
    let inv = c.loop-i.invariant in
    record {
      counting = word3-next (record {
        more = c.loop-i-test.true;
        is_word = inv.word;
        agrees = c.table_step-g.ensures;
        is_bound = c.column_bound-bound.ensures;
        is_count = c.count_inside-m.ensures;
      }) inv.counting c.later-top.ensures;
      word = c.two_at-w-in-loop-i.ensures;
    }
