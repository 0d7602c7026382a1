use Rattle.evt3_run_ends.specs.Flags.{Packing}
use Rattle.evt3_run_ends.proofs.flags.gather.Given as goal

abbrev pub invariant-loop-j : goal.invariant-loop-j
invariant-loop-j l = Packing l.flags l.mask l.j
