use Rattle.std.proofs.Common.{length, sym, ◌∙◌}
use Rattle.std.proofs.lemmas.Result.{err_from_is_err_and}
use Rattle.slice_rules.specs.From.{passed_from}
use Rattle.slice_rules.specs.Laws.{rest_from, ready_from, starts, from_not, from_at}
use Rattle.slice.proofs.slice_from.Goals as goal

pub deliver-delivered-requires : goal.deliver-delivered-requires
deliver-delivered-requires c =
    let a = c.args in
    let begun = starts (length a.recording.now) a.source a.ok a.start.byte_offset c.in_ok-at.at (sym c.in_ok-at.was ∙ c.start_of.ensures) in
    rw (rest_from a.recording.now a.start.byte_offset c.in_ok-at.at begun.place)
    (ready_from a.recording.now a.source a.ok a.start begun.fits begun.spaced begun.ranged c.requires)

pub returns-in_err-at : goal.returns-in_err-at
returns-in_err-at c =
    let a = c.args in
    let p = err_from_is_err_and c.from_residual.result c.from_residual.ensures.1 in
    rw (p.1, p.2)
    (from_not a.recording.now a.source a.ok (passed_from a.recording.now a.window a.start) a.start.byte_offset _
    (sym c.in_err-at.was ∙ c.start_of.ensures))

pub returns : goal.returns
returns c =
    let a = c.args in
    let begun = starts (length a.recording.now) a.source a.ok a.start.byte_offset c.in_ok-at.at (sym c.in_ok-at.was ∙ c.start_of.ensures) in
    let delivered = rw (rest_from a.recording.now a.start.byte_offset c.in_ok-at.at begun.place) at c.deliver-delivered.ensures in
    from_at a.recording.now a.source a.ok (passed_from a.recording.now a.window a.start) a.start.byte_offset c.in_ok-at.at (sym c.in_ok-at.was ∙ c.start_of.ensures)
    c.deliver-delivered.result c.answer_of.result delivered c.answer_of.ensures
