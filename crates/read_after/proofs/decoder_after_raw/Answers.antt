use Rattle.std.proofs.Common.{sym, ◌∙◌, arith}
use Rattle.std.proofs.lemmas.Result.{err_from_is_err_and}
use Rattle.laws_stream.specs.Part.{rest_of}
use Rattle.read_after.specs.After.{raw_refused, raw_after}
use Rattle.read_after.proofs.decoder_after_raw.Goals as goal
use Rattle.header.proofs.HeaderLaws.{of_accepted}

pub returns-in_err-header : goal.returns-in_err-header
returns-in_err-header c =
    let p = err_from_is_err_and c.from_residual.result c.from_residual.ensures.1 in
    rw (p.1, p.2) (raw_refused _ _ c.parse_header.ensures.answer _ c.in_err-header.was)

pub slice_bounds-decoder_after-start : goal.slice_bounds-decoder_after-start
slice_bounds-decoder_after-start c = omega (arith, (of_accepted _ _ _ (sym c.parse_header.ensures.answer ∙ c.in_ok-header.was)).within)

pub slice_bounds-decoder_after-count : goal.slice_bounds-decoder_after-count
slice_bounds-decoder_after-count c = omega (arith, (of_accepted _ _ _ (sym c.parse_header.ensures.answer ∙ c.in_ok-header.was)).within)

pub returns : goal.returns
returns c =
    raw_after c.args.recording.now _ c.parse_header.ensures.answer _ c.in_ok-header.was _ c.new.ensures
    (rw (rest_of c.args.recording.now) at c.decoder_after.ensures)
