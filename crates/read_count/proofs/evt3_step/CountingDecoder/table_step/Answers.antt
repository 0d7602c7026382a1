use Rattle.std.proofs.Common.{refl, sym, ◌∙◌, inl, inr}
use Rattle.evt3_decoder.specs.Evt3.{slimmed}
use Rattle.read_count.specs.Evt3Step.{decoder_of, started_agrees, quiet_agrees}
use Rattle.read_count.proofs.evt3_step.CountingDecoder.table_step.Goals as goal
use Rattle.read_count.proofs.evt3_step.CountingDecoder.table_step.Goals.{else-self-via-then-self+else-bits-ne8, else-self-via-else-self}

pub returns-then-bits-ne8 : goal.returns-then-bits-ne8
returns-then-bits-ne8 c =
    rw c.started_step.ensures
    (started_agrees c.args.self c.args.word c.requires.slim.column c.if-self.true (λ e. c.if-bits-ne8.true (c.bits.ensures ∙ e)))

pub returns : goal.returns
returns c =
    quiet_agrees (slimmed (decoder_of c.args.self)) c.args.word
    (elim c.else-self.branch [
      | else-self-via-then-self+else-bits-ne8 w ↦ inr (sym w.bits.ensures ∙ w.if-bits-ne8.false)
      | else-self-via-else-self w ↦ inl w.if-self.false
    ])
    (record { next = c.counting.result; x = 0; mask = 0 })
    (c.counting.ensures ∙ rw c.wide.ensures at c.advance-step.ensures.0) refl refl
