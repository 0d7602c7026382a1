use Rattle.std.proofs.Common.{◌≡◌, ◌-◌, ◌<◌, ◌^◌}
use Rattle.std.specs.Int.Bits.{bit_and}
use Rattle.evt_types.specs.Columns.{Going}
use Rattle.read_columns.specs.Inside.{inside_of, events_at}
use Rattle.read_columns.proofs.spread.Given as goal

-- The events of the bits that are left are still to be written; `rest` is without the lowest bit, `more` without the lowest two.
abbrev pub invariant-loop-more : goal.invariant-loop-more
invariant-loop-more l = record {
  small : l.mask < 2 ^ 32;
  some : 0 < l.mask;
  rest : l.rest ≡ bit_and l.mask (l.mask - 1);
  more : l.more ≡ bit_and l.rest (l.rest - 1);
  going : Going (inside_of l.width l.height l.v) l.at l.initial.xs l.initial.ys l.initial.ts l.initial.ps (events_at l.v l.mask) l.n l.xs l.ys l.ts l.ps;
}

abbrev pub decreases-loop-more : goal.decreases-loop-more
decreases-loop-more l = l.mask
