-- The loop: `Filling`.
use Rattle.trigger_count.specs.Table.{Filling}
use Rattle.trigger_count.proofs.blocks.last_bytes.Given as goal

abbrev pub invariant-loop-j : goal.invariant-loop-j
invariant-loop-j l = Filling l.size l.flag-items l.j
