use Rattle.std.proofs.Common.{◌-◌, ◌*◌, ◌^◌}
use Rattle.evt3_run_words.specs.Masks.{Masking}
use Rattle.evt3_run_words.proofs.put_masks.Given as goal

abbrev pub invariant-loop : goal.invariant-loop
invariant-loop l = Masking l.xs l.i l.fn.end l.base l.k (2 ^ 16) l.initial.out l.at l.out l.a l.c l.b (l.k - 5 * l.counter)
