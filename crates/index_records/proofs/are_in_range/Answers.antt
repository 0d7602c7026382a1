use Rattle.std.proofs.Common.{◌≡◌, ap, ◌∙◌, arith, Bool, List, nat_lt}
use Rattle.index_build.specs.declared.{Checkpoint.Checkpoint, RawSliceSource.RawSliceSource}
use Rattle.index_records.specs.Due.{admits_of, judged_stops, judged_all, judged_records}
use Rattle.index_records.specs.InRange.{index_in_range}
use Rattle.index_records.proofs.Judged.{admits_is, judged_in_range}
use Rattle.index_records.proofs.are_in_range.Goals as goal

-- what the loop judges comes to the rule
ruled : (s : RawSliceSource) (l : List Checkpoint) (r : Bool) → r ≡ judged_records s l → r ≡ index_in_range s l
ruled s l r e = e ∙ judged_in_range s (admits_of s) (admits_is s) l

pub returns-then-not-admits : goal.returns-then-not-admits
returns-then-not-admits g c =
    let l = g.R.Records.listed c.args.records.now in
    let admits = c.admits.ensures.tested ∙ ap (admits_of c.args.source c.loop-i.due) c.record-c.ensures in
    let judged = judged_stops c.args.source l c.loop-i.i c.loop-i.due c.loop-i.invariant (omega arith) c.admits.result admits c.if-not-admits.true in
    record { judged = judged; in_range = ruled c.args.source l _ judged }

pub returns : goal.returns
returns g c =
    let l = g.R.Records.listed c.args.records.now in
    let judged = ap (nat_lt 0) c.count-n.ensures ∙ judged_all c.args.source l c.loop-i.i c.loop-i.due c.loop-i.invariant (omega arith) in
    record { judged = judged; in_range = ruled c.args.source l _ judged }
