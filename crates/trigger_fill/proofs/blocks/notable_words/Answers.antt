use Rattle.std.proofs.Common.{rules, ◌∙◌}
use Rattle.std.specs.Slice.Iter.{chunks_exact_rest}
use Rattle.trigger_fill.specs.Form.{size-pos}
use Rattle.trigger_fill.specs.Find.{chunk_word, tallying_next, tallying_end}
use Rattle.trigger_fill.proofs.blocks.notable_words.Goals as goal

pub loop-word-preserved : goal.loop-word-preserved
loop-word-preserved g c =
    let i = c.loop-word.invariant in
    let step = c.in-Some.ensures.steps in
    let long = step.1.1 ∙ i.2 in (
      rw step.0 i.0,
      tt,
      step.0 ∙ i.2,
      tallying_next (size-pos g.met.E.Format.known) i.3 c.in-Some.word.now (chunks_exact_rest c.next.new.self) step.1.0 long _
          (chunk_word g.E.Format.FORM.size c.in-Some.word.now long) _ (search rules),
    )

pub returns : goal.returns
returns g c = tallying_end (size-pos g.met.E.Format.known) c.loop-word.invariant.3 (rw (← c.loop-word.invariant.2) c.in-None.ensures.steps.1.0)
