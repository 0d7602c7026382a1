use Rattle.listing_lines.specs.Lines.{stored_event}
use Rattle.listing_lines.proofs.event_at.Goals as goal

pub returns : goal.returns
returns c = stored_event _ _ _ _ c.field-a.ensures c.field-b.ensures c.field-c.ensures c.field.ensures
