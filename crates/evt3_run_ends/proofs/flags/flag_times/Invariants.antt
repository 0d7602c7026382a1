use Rattle.std.proofs.Common.{◌+◌, bit_or}
use Rattle.evt3_run_ends.specs.Flags.{time_ends, flag_at, Filling}
use Rattle.evt3_run_ends.proofs.flags.flag_times.Given as goal

abbrev pub invariant-loop-j : goal.invariant-loop-j
invariant-loop-j l = Filling (λ k. bit_or (flag_at l.initial.flags k) (time_ends l.events.ts.now (l.i + k))) l.initial.flags l.flags l.j
