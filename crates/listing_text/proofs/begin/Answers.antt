use Rattle.listing_lines.specs.Listing.{too_long}
use Rattle.listing_text.specs.Laws.{begins_long, begins_read}
use Rattle.listing_text.proofs.begin.Goals as goal

pub returns-then-recording-gt65536 : goal.returns-then-recording-gt65536
unfolding too_long
returns-then-recording-gt65536 c = begins_long c.args.recording.now _ c.if-recording-gt65536.true c.put_text-written.ensures

pub returns : goal.returns
returns c =
    begins_read c.args.recording.now _ c.read_raw-answer.result c.if-recording-gt65536.false c.requires
    c.read_raw-answer.ensures c.head_text-written.ensures _ c.count_of.ensures
