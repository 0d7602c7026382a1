use Rattle.index_records.specs.Due.{Judged}
use Rattle.index_records.proofs.are_in_range.Given as goal

abbrev pub invariant-loop-i : goal.invariant-loop-i
invariant-loop-i g l = Judged l.source (g.R.Records.listed l.records) l.i l.due
