use Rattle.std.proofs.Common.{arith}
use Rattle.read_count.specs.Evt3Step.{span-at, vect_at, span_small}
use Rattle.read_count.proofs.evt3_step.CountingDecoder.started_step.Goals as goal

pub overflow_add-self : goal.overflow_add-self
overflow_add-self c = omega (arith, span-at c.args.spans.now c.bits-kind.result (omega arith) c.requires.spans, span_small c.bits-kind.result)

pub returns : goal.returns
returns c =
    let kind = c.bits-kind in
    rw (
      c.choose-6.ensures,
      c.choose-5.ensures,
      c.choose-4.ensures,
      c.choose-3.ensures,
      c.choose-2.ensures,
      c.choose.ensures,
      c.saturate-moved.ensures,
      span-at c.args.spans.now kind.result (omega arith) c.requires.spans,
      vect_at c.args.vects.now kind.result (omega arith) c.requires.vects,
      c.bits.ensures,
      c.bits-x.ensures,
      kind.ensures,
    )
