use Rattle.std.proofs.Common.{◌<◌, ◌^◌}
use Rattle.evt_types.specs.Columns.{Going}
use Rattle.read_columns.specs.Inside.{inside_of, inside_at}
use Rattle.read_columns.proofs.put.Given as goal

-- The events inside of the bits that are left are still to be written.
abbrev pub invariant-loop-mask : goal.invariant-loop-mask
invariant-loop-mask l = record {
  small : l.mask < 2 ^ 32;
  going : Going (inside_of l.width l.height l.v) l.at l.initial.xs l.initial.ys l.initial.ts l.initial.ps
      (inside_at l.width l.height l.v l.mask) l.n l.xs l.ys l.ts l.ps;
}

abbrev pub decreases-loop-mask : goal.decreases-loop-mask
decreases-loop-mask l = l.mask
