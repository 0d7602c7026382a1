use Rattle.std.proofs.Common.{length}
use Rattle.c_index.specs.{Making.begins, Making.accepted_coded, Opening.open_words_outcome_c}
use Rattle.prophesee_raw_c.proofs.opening.prophesee_open_words.Goals as goal

pub open_records-requires : goal.open_records-requires
open_records-requires c =
    let a = c.args in
    let l = a.words.now in
    let room = length a.records.now in
    begins l room (open_words_outcome_c l a.encoding a.options room) (accepted_coded l a.encoding a.options room) _
    c.prepare_coded-prepared.ensures

pub returns : goal.returns
returns c =
    let a = c.args in
    let l = a.words.now in
    let room = length a.records.now in
    c.open_records.ensures (open_words_outcome_c l a.encoding a.options room) (accepted_coded l a.encoding a.options room)
    c.prepare_coded-prepared.ensures
