use Rattle.std.proofs.Common.{◌-◌}
use Rattle.index_records.specs.Search.{Searches}
use Rattle.index_records.proofs.choose.Given as goal

abbrev pub invariant-loop-lo : goal.invariant-loop-lo
invariant-loop-lo g l = Searches l.asked (g.R.Records.listed l.records) l.lo l.hi

abbrev pub decreases-loop-lo : goal.decreases-loop-lo
decreases-loop-lo g l = l.hi - l.lo
