use Rattle.std.proofs.Common.{◌^◌}
use Rattle.evt3_run_words.specs.Masks.{Scanning}
use Rattle.evt3_run_words.proofs.next_masks.Given as goal

abbrev pub invariant-loop-next : goal.invariant-loop-next
invariant-loop-next l = Scanning l.xs l.from l.end l.base (2 ^ 16) l.mask l.next
