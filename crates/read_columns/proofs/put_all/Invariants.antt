use Rattle.std.proofs.Common.{◌<◌, ◌^◌}
use Rattle.evt_types.specs.Event.{events_of}
use Rattle.evt_types.specs.Columns.{Going}
use Rattle.read_columns.specs.Inside.{events_at}
use Rattle.read_columns.proofs.put_all.Given as goal

-- The events of the bits that are left are still to be written.
abbrev pub invariant-loop-mask : goal.invariant-loop-mask
invariant-loop-mask l = record {
  small : l.mask < 2 ^ 32;
  going : Going (events_of l.v) l.at l.initial.xs l.initial.ys l.initial.ts l.initial.ps (events_at l.v l.mask) l.n l.xs l.ys l.ts l.ps;
}

abbrev pub decreases-loop-mask : goal.decreases-loop-mask
decreases-loop-mask l = l.mask
