use Rattle.write_text.specs.Stored.{Copying}
use Rattle.write_text.proofs.put_text.Given as goal

abbrev pub invariant-loop-i : goal.invariant-loop-i
invariant-loop-i l = Copying l.s l.at l.initial.out l.i l.out
