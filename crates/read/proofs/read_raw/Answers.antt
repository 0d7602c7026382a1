use Rattle.std.proofs.Common.{sym, ◌∙◌, arith, length-drop}
use Rattle.std.proofs.lemmas.Result.{err_from_is_err_and}
use Rattle.laws_stream.specs.Part.{rest_of}
use Rattle.header.proofs.HeaderLaws.{of_accepted}
use Rattle.read_rules.specs.Laws.{raw_refused}
use Rattle.read.proofs.read_raw.Goals as goal
use Rattle.read_rules.proofs.ReadLaws.{raw_read}

pub returns-in_err-header : goal.returns-in_err-header
returns-in_err-header c =
    let p = err_from_is_err_and c.from_residual.result c.from_residual.ensures.1 in
    rw (p.1, p.2) (raw_refused c.args.recording.now c.args.options _ c.parse_header.ensures.answer _ c.in_err-header.was)

pub slice_bounds-body-start : goal.slice_bounds-body-start
slice_bounds-body-start c = omega (arith, (of_accepted _ _ _ (sym c.parse_header.ensures.answer ∙ c.in_ok-header.was)).within)

pub slice_bounds-body-count : goal.slice_bounds-body-count
slice_bounds-body-count c = omega (arith, (of_accepted _ _ _ (sym c.parse_header.ensures.answer ∙ c.in_ok-header.was)).within)

pub read_body-requires : goal.read_body-requires
read_body-requires c =
    rw (rest_of c.args.recording.now, length-drop)
    (omega (arith, (of_accepted _ _ _ (sym c.parse_header.ensures.answer ∙ c.in_ok-header.was)).short))

pub returns : goal.returns
returns c =
    raw_read c.args.recording.now c.args.options c.parse_header.result c.parse_header.ensures.answer _ c.in_ok-header.was
    (rw (rest_of c.args.recording.now) at c.read_body.ensures)
