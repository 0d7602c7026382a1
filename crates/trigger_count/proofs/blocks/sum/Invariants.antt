-- The loop: `Tallying`.
use Rattle.std.proofs.Common.{length}
use Rattle.trigger_count.specs.Blocks.{Tallying}
use Rattle.trigger_count.proofs.blocks.sum.Given as goal

abbrev pub invariant-loop-byte : goal.invariant-loop-byte
invariant-loop-byte l = Tallying l.flags l.bytes l.n (length l.yielded)
