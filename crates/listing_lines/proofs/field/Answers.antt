use Rattle.listing_lines.specs.Lines.{stored_field}
use Rattle.listing_lines.proofs.field.Goals as goal

pub returns : goal.returns
returns c = stored_field _ _ c.put_decimal-e.ensures c.put8.ensures
