use Rattle.std.proofs.Common.{sym, ap, ◌∙◌, arith}
use Rattle.index_build.specs.Nth.{nth}
use Rattle.index_records.specs.Choose.{passes_of}
use Rattle.index_records.specs.Search.{searches_up, searches_down, searches_end, chosen_none}
use Rattle.index_records.proofs.choose.Goals as goal

pub returns-then-n-eq0 : goal.returns-then-n-eq0
returns-then-n-eq0 g c = c.blank.ensures ∙ chosen_none c.args.asked (g.R.Records.listed c.args.records.now) (omega arith)

pub loop-lo-preserved-then-passes : goal.loop-lo-preserved-then-passes
loop-lo-preserved-then-passes g c =
    searches_up c.args.asked (g.R.Records.listed c.args.records.now) c.loop-lo.lo c.loop-lo.hi c.loop-lo.invariant (omega arith)
    (sym (ap (passes_of c.args.asked) c.record.ensures) ∙ sym c.passes.ensures ∙ c.if-passes.true)

pub loop-lo-preserved : goal.loop-lo-preserved
loop-lo-preserved g c =
    searches_down c.args.asked (g.R.Records.listed c.args.records.now) c.loop-lo.lo c.loop-lo.hi c.loop-lo.invariant (omega arith)
    (sym (ap (passes_of c.args.asked) c.record.ensures) ∙ sym c.passes.ensures ∙ c.if-passes.false)

pub returns : goal.returns
returns g c =
    c.record-2.ensures ∙ ap (nth (g.R.Records.listed c.args.records.now)) c.saturating_sub.ensures
    ∙ searches_end c.args.asked (g.R.Records.listed c.args.records.now) c.loop-lo.lo c.loop-lo.hi c.loop-lo.invariant (omega arith)
