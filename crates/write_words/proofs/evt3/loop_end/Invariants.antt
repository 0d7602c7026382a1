use Rattle.write_words.specs.Across3.{InLoop}
use Rattle.write_words.proofs.evt3.loop_end.Given as goal

abbrev pub invariant-loop-end : goal.invariant-loop-end
invariant-loop-end l = InLoop l.ts l.i l.end
