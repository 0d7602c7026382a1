use Rattle.std.proofs.Common.{◌+◌}
use Rattle.evt3_run_ends.specs.Flags.{place_ends, Filling}
use Rattle.evt3_run_ends.proofs.flags.flag_places.Given as goal

abbrev pub invariant-loop-j : goal.invariant-loop-j
invariant-loop-j l = Filling (λ k. place_ends l.events.xs.now l.events.ys.now l.events.ps.now (l.i + k)) l.initial.flags l.flags l.j
