use Rattle.std.proofs.Common.{ap, ◌∙◌, length}
use Rattle.index_build.specs.declared.OpenOptions.{OpenOptions}
use Rattle.index_build.specs.Build.{prepared_by}
use Rattle.index_build.specs.Index.{open_raw_outcome}
use Rattle.index_build.proofs.OpenLaws.{accepted_raw}
use Rattle.c_index.specs.{Making.begins, Opening.open_options_of}
use Rattle.prophesee_raw_c.proofs.opening.prophesee_open.Goals as goal

pub open_records-requires : goal.open_records-requires
open_records-requires c =
    let l = c.args.recording.now in
    let room = length c.args.records.now in
    let o = c.from-o.result in
    begins l room (open_raw_outcome l o room) (accepted_raw l o room) _ c.prepare-prepared.ensures

pub returns : goal.returns
returns c =
    let a = c.args in
    let l = a.recording.now in
    let room = length a.records.now in
    let o = open_options_of a.options in
    c.open_records.ensures (open_raw_outcome l o room) (accepted_raw l o room)
    (c.prepare-prepared.ensures ∙ ap (λ (x : OpenOptions). prepared_by (open_raw_outcome l x room)) c.from-o.ensures)
