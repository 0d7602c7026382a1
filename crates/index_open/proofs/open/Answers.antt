use Rattle.std.proofs.Common.{length, sym, ◌∙◌}
use Rattle.index_build.specs.Index.{open_raw_outcome}
use Rattle.index_build.specs.Open.{opens_built}
use Rattle.index_open.proofs.open.Goals as goal
use Rattle.index_build.proofs.OpenLaws.{accepted_raw, builds}

pub make-requires : goal.make-requires
make-requires c =
    let a = c.args in
    let room = length a.records.now in
    let outcome = open_raw_outcome a.recording.now a.options room in
    (builds a.recording.now room outcome (accepted_raw a.recording.now a.options room) c.in_ok-first.first (sym c.in_ok-first.was ∙ c.prepare.ensures)).begun

pub returns : goal.returns
returns c =
    let a = c.args in
    let room = length a.records.now in
    let outcome = open_raw_outcome a.recording.now a.options room in
    let built = builds a.recording.now room outcome (accepted_raw a.recording.now a.options room) c.in_ok-first.first (sym c.in_ok-first.was ∙ c.prepare.ensures) in
    opens_built a.recording.now room outcome c.in_ok-first.first built c.make.result a.records.now c.make.new.records c.make.ensures.is_answer c.make.ensures.laid
