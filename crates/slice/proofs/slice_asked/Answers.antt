use Rattle.index_records.specs.Search.{chosen}
use Rattle.slice_rules.specs.Laws.{Began, startable}
use Rattle.slice.proofs.slice_asked.Goals as goal

pub slice_from-requires : goal.slice_from-requires
slice_from-requires g c =
    let a = c.args in
    let l = g.R.Records.listed a.records.now in
    let began : Began a.source l a.asked c.in_range-ok.result c.choose-start.result
    = record { judged = c.in_range-ok.ensures; chose = chosen a.asked.choice l c.choose-start.result c.choose-start.ensures } in
    startable a.source l a.asked c.in_range-ok.result c.choose-start.result began

pub returns : goal.returns
returns g c =
    let a = c.args in
    let l = g.R.Records.listed a.records.now in
    record {
      ok = c.in_range-ok.result;
      start = c.choose-start.result;
      began = record { judged = c.in_range-ok.ensures; chose = chosen a.asked.choice l c.choose-start.result c.choose-start.ensures };
      slices = c.slice_from.ensures;
    }
