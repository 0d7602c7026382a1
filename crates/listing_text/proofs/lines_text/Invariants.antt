use Rattle.std.proofs.Common.{◌+◌, ◌-◌}
use Rattle.listing_text.specs.Laws.{Listing}
use Rattle.listing_text.proofs.lines_text.Given as goal

abbrev pub invariant-loop-i : goal.invariant-loop-i
invariant-loop-i l = Listing l.xs l.ys l.ts l.ps l.from l.n l.initial.out l.at l.i (l.from + l.n - l.i) l.out
