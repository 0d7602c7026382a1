use Rattle.listing_lines.specs.Lines.{stored_reading}
use Rattle.listing_lines.proofs.read_line.Goals as goal

pub returns : goal.returns
returns c =
    stored_reading c.args.r _ c.from.ensures c.put_text-a.ensures c.field-b.ensures c.field-c.ensures c.field-d.ensures c.field.ensures
