use Rattle.read_seek.specs.Back.{Baseless}
use Rattle.read_seek.proofs.back.base.Given as goal

abbrev pub invariant-loop-k : goal.invariant-loop-k
invariant-loop-k l = Baseless l.front l.by l.k
