use Rattle.std.proofs.Common.{◌-◌}
use Rattle.evt3_run_words.specs.Masks.{Digiting}
use Rattle.evt3_run_words.proofs.put_digits.Given as goal

abbrev pub invariant-loop : goal.invariant-loop
invariant-loop l = Digiting l.k l.mask l.initial.out l.at l.out l.a l.m (l.k - l.counter)
