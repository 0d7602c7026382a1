use Rattle.evt3_run_words.specs.Loops.{Single}
use Rattle.evt3_run_words.proofs.put_singles.Given as goal

abbrev pub invariant-loop-j : goal.invariant-loop-j
invariant-loop-j l = Single l.p l.xs l.i l.end l.initial.out l.at l.out l.a l.j
