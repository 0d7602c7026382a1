-- The loop: `Tallying`.
use Rattle.std.proofs.Common.{◌≡◌}
use Rattle.std.specs.Slice.Iter.{chunks_exact_rest, chunks_exact_size}
use Rattle.trigger_fill.specs.Calm.{notable}
use Rattle.trigger_fill.specs.Find.{Tallying}
use Rattle.trigger_fill.proofs.blocks.notable_words.Given as goal

abbrev pub invariant-loop-word : goal.invariant-loop-word
invariant-loop-word g l =
    (goal.iterator-loop-word g).can_next l.word-iterator × (goal.iterator-loop-word g).is_finite l.word-iterator
    × (chunks_exact_size l.word-iterator ≡ g.E.Format.FORM.size)
    × Tallying (notable l.late g.E.Format.FORM) g.E.Format.FORM.size l.block l.count (chunks_exact_rest l.word-iterator)
