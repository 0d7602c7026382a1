use Rattle.c_index.specs.Making.{Stage}
use Rattle.c_index.proofs.opening.make_records.Given as goal

abbrev pub invariant-loop-entries : goal.invariant-loop-entries
invariant-loop-entries l = Stage l.recording l.fn.first l.initial.entries-items l.entries-index l.builder l.entries-items
