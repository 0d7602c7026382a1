use Rattle.std.proofs.Common.{sym, ap, ◌∙◌, arith}
use Rattle.laws_stream.specs.Words.{value-two, value_four}
use Rattle.evt_types.specs.Ahead.{ahead-some}
use Rattle.evt_codec.specs.{Codec.word_size, Triggers.trigger_whole}
use Rattle.evt_codec.specs.declared.codec.Codec.TheVariants.{Evt2, Evt21, Evt3}
use Rattle.evt_codec.proofs.codec.Codec.trigger.Goals as goal

pub returns-in-Evt2 : goal.returns-in-Evt2
returns-in-Evt2 c =
    let l = c.args.bytes.now in
    let size = ap word_size c.in-Evt2.is in
    rw (
      c.in-Evt2.is,
      trigger_whole (Evt2 c.in-Evt2.d) l (omega (arith, size, c.word_size.ensures, c.if-bytes-word_size.false)),
      ← (c.word32.ensures ∙ sym (value_four l 0 (omega (arith, size, c.word_size.ensures, c.if-bytes-word_size.false)))),
    ) c.trigger.ensures

pub returns-in-Evt21 : goal.returns-in-Evt21
returns-in-Evt21 c =
    let l = c.args.bytes.now in
    let size = ap word_size c.in-Evt21.is in
    rw (
      c.in-Evt21.is,
      trigger_whole (Evt21 c.in-Evt21.d) l (omega (arith, size, c.word_size.ensures, c.if-bytes-word_size.false)),
      ← (c.eight_at.ensures ∙ ahead-some 8 l 0 (omega (arith, size, c.word_size.ensures, c.if-bytes-word_size.false))),
    ) c.trigger-in-Evt21.ensures

pub returns-in-Evt3 : goal.returns-in-Evt3
returns-in-Evt3 c =
    let l = c.args.bytes.now in
    let size = ap word_size c.in-Evt3.is in
    rw (
      c.in-Evt3.is,
      trigger_whole (Evt3 c.in-Evt3.d) l (omega (arith, size, c.word_size.ensures, c.if-bytes-word_size.false)),
      ← (c.word16.ensures ∙ sym (value-two l 0 (omega (arith, size, c.word_size.ensures, c.if-bytes-word_size.false)))),
    ) c.trigger-in-Evt3.ensures
