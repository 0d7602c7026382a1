use Rattle.read_seek.specs.Back.{Rowless}
use Rattle.read_seek.proofs.back.row.Given as goal

abbrev pub invariant-loop-k : goal.invariant-loop-k
invariant-loop-k l = Rowless l.front l.k
