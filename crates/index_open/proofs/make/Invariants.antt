use Rattle.index_build.specs.Stage.{Stage}
use Rattle.index_open.proofs.make.Given as goal

-- the records before the next one are made
abbrev pub invariant-loop-record : goal.invariant-loop-record
invariant-loop-record l = Stage l.recording l.fn.first l.initial.record-items l.record-index l.builder l.record-items
