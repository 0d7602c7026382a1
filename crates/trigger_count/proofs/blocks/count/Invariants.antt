-- The loop: `Counting`.
use Rattle.std.proofs.Common.{◌*◌, ◌≡◌, length, drop}
use Rattle.std.specs.Slice.Iter.{chunks_exact_rest, chunks_exact_size}
use Rattle.trigger_count.specs.Blocks.{Counting}
use Rattle.trigger_count.proofs.blocks.count.Given as goal

abbrev pub invariant-loop-block : goal.invariant-loop-block
invariant-loop-block l =
    (goal.iterator-loop-block).can_next l.block-iterator × (goal.iterator-loop-block).is_finite l.block-iterator
    × (chunks_exact_size l.block-iterator ≡ 64)
    × (chunks_exact_rest l.block-iterator ≡ drop (length l.yielded * 64) l.bytes)
    × Counting l.size l.bytes l.n (length l.yielded * 64)
