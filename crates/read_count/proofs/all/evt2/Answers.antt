use Rattle.std.proofs.Common.{◌+◌, sym, ◌∙◌, arith}
use Rattle.evt_codec.specs.declared.codec.Codec.TheVariants.{Evt2}
use Rattle.evt_codec.specs.Sound.{bounded_words}
use Rattle.read_fill.specs.Laws.{inside_few}
use Rattle.read_count.specs.Counting.{counting_start, counting_end}
use Rattle.read_count.specs.Loops.{Word2, event_few, event-next, other_next}
use Rattle.read_count.proofs.all.evt2.Goals as goal
use Rattle.read_count.proofs.all.evt2.Goals.{then-is_event_inside, else-is_event_inside}
use Rattle.evt2_decoder.proofs.RangeLaws.{bounded_step2}

pub loop-i-init : goal.loop-i-init
loop-i-init c = record {
  counting = counting_start (omega arith) bounded_step2 (bounded_words (Evt2 c.args.d) c.args.bytes.now c.requires);
  bound = c.key_bound-bound.ensures;
  word = c.four_at-w.ensures;
}

pub overflow_add-n : goal.overflow_add-n
overflow_add-n c =
    let inv = c.loop-i.invariant in
    omega (
      arith,
      event_few (record { more = c.loop-i-test.true; is_word = inv.word; is_bound = inv.bound }) inv.counting
          (sym c.is_event_inside.ensures ∙ c.if-is_event_inside.true),
      inside_few c.args.width c.args.height (Evt2 c.args.d) c.args.bytes.now,
    )

pub loop-i-preserved : goal.loop-i-preserved
loop-i-preserved c =
    let l = c.loop-i in
    let inv = l.invariant in
    let a : Word2 c.args.width c.args.height c.args.bytes.now l.s l.bound l.i l.w =
    record { more = c.loop-i-test.true; is_word = inv.word; is_bound = inv.bound } in
    let e = sym c.is_event_inside.ensures in
    elim c.if-is_event_inside.branch [
      | then-is_event_inside w ↦ record {
        counting =
            rw (w.s-is, w.n-is, w.top-is)
            (event-next a inv.counting (e ∙ w.if-is_event_inside.true) (l.s.time_high + w.bits.result) (rw w.bits.ensures) w.later-top.ensures);
        bound = rw (w.s-is, w.bound-is) inv.bound;
        word = c.four_at-w-in-loop-i.ensures;
      }
      | else-is_event_inside w ↦ record {
        counting = rw (w.s-is, w.n-is, w.top-is) (other_next a inv.counting (e ∙ w.if-is_event_inside.false) w.advance-step.ensures.0);
        bound = rw (w.s-is, w.bound-is) w.key_bound-bound-else-is_event_inside.ensures;
        word = c.four_at-w-in-loop-i.ensures;
      }
    ]

pub returns : goal.returns
returns c = counting_end (omega arith) bounded_step2 c.loop-i.invariant.counting (omega arith)
