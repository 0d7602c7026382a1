use Rattle.std.proofs.Common.{sym, ◌∙◌, arith, length-drop}
use Rattle.std.proofs.lemmas.Result.{err_from_is_err_and}
use Rattle.laws_stream.specs.Part.{rest_of}
use Rattle.header.proofs.HeaderLaws.{of_accepted}
use Rattle.trigger_rules.specs.Laws.{raw_refused, raw_read}
use Rattle.read_triggers.proofs.read_raw_triggers.Goals as goal

pub returns-in_err-header : goal.returns-in_err-header
returns-in_err-header c =
    let p = err_from_is_err_and c.from_residual.result c.from_residual.ensures.1 in
    rw (p.1, p.2) (raw_refused c.args.recording.now c.args.options _ c.parse_header.ensures.answer _ c.in_err-header.was)

pub slice_bounds-read_body_triggers-start : goal.slice_bounds-read_body_triggers-start
slice_bounds-read_body_triggers-start c = omega (arith, (of_accepted _ _ _ (sym c.parse_header.ensures.answer ∙ c.in_ok-header.was)).within)

pub slice_bounds-read_body_triggers-count : goal.slice_bounds-read_body_triggers-count
slice_bounds-read_body_triggers-count c = omega (arith, (of_accepted _ _ _ (sym c.parse_header.ensures.answer ∙ c.in_ok-header.was)).within)

pub read_body_triggers-requires : goal.read_body_triggers-requires
read_body_triggers-requires c =
    rw (rest_of c.args.recording.now, length-drop)
    (omega (arith, (of_accepted _ _ _ (sym c.parse_header.ensures.answer ∙ c.in_ok-header.was)).short))

pub returns : goal.returns
returns c =
    raw_read c.args.recording.now c.args.options c.parse_header.result c.parse_header.ensures.answer _ c.in_ok-header.was
    (rw (rest_of c.args.recording.now) at c.read_body_triggers.ensures)
