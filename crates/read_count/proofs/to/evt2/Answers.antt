use Rattle.std.proofs.Common.{◌+◌, sym, ◌∙◌, arith}
use Rattle.evt_codec.specs.declared.codec.Codec.TheVariants.{Evt2}
use Rattle.evt_codec.specs.Sound.{bounded_words}
use Rattle.read_count.specs.Passing.{passing_start, passing_end}
use Rattle.read_count.specs.Loops.{Word2, event_stop, event_pass, other_pass}
use Rattle.read_count.proofs.to.evt2.Goals as goal
use Rattle.read_count.proofs.to.evt2.Goals.{then-is_event_inside+else-most-n, else-is_event_inside}
use Rattle.evt2_decoder.proofs.RangeLaws.{bounded_step2}

pub loop-i-init : goal.loop-i-init
loop-i-init c = record {
  passing = passing_start (omega arith) bounded_step2 (bounded_words (Evt2 c.args.d) c.args.bytes.now c.requires);
  bound = c.key_bound-bound.ensures;
  word = c.four_at-w.ensures;
}

pub loop-i-preserved : goal.loop-i-preserved
loop-i-preserved c =
    let l = c.loop-i in
    let inv = l.invariant in
    let a : Word2 c.args.width c.args.height c.args.bytes.now l.s l.bound l.i l.w =
    record { more = c.loop-i-test.true; is_word = inv.word; is_bound = inv.bound } in
    let e = sym c.is_event_inside.ensures in
    elim c.if-is_event_inside.branch [
      | then-is_event_inside+else-most-n w ↦ record {
        passing =
            rw (w.s-is, w.n-is) (event_pass a inv.passing (e ∙ w.if-is_event_inside.true) (l.s.time_high + w.bits.result) (rw w.bits.ensures) (omega arith));
        bound = rw (w.s-is, w.bound-is) inv.bound;
        word = c.four_at-w-in-loop-i.ensures;
      }
      | else-is_event_inside w ↦ record {
        passing = rw (w.s-is, w.n-is) (other_pass a inv.passing (e ∙ w.if-is_event_inside.false) w.advance-step.ensures.0);
        bound = rw (w.s-is, w.bound-is) w.key_bound-bound-else-is_event_inside.ensures;
        word = c.four_at-w-in-loop-i.ensures;
      }
    ]

pub returns-after-loop-i : goal.returns-after-loop-i
returns-after-loop-i c = passing_end (omega arith) bounded_step2 c.loop-i.invariant.passing (omega arith)

pub returns-then-most-n : goal.returns-then-most-n
returns-then-most-n c =
    let inv = c.loop-i.invariant in
    event_stop (record { more = c.loop-i-test.true; is_word = inv.word; is_bound = inv.bound }) inv.passing
    (sym c.is_event_inside.ensures ∙ c.if-is_event_inside.true) c.if-most-n.true
