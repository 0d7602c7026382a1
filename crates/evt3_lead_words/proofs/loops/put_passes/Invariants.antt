use Rattle.std.proofs.Common.{◌-◌}
use Rattle.evt3_lead_words.specs.Loops.{Passing}
use Rattle.evt3_lead_words.proofs.loops.put_passes.Given as goal

abbrev pub invariant-loop : goal.invariant-loop
invariant-loop l = Passing l.n l.end l.at l.initial.out l.out l.a l.sent (l.n - l.counter)
