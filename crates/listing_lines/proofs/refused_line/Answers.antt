use Rattle.listing_lines.specs.Lines.{stored_refused}
use Rattle.listing_lines.proofs.refused_line.Goals as goal

pub returns : goal.returns
returns c = stored_refused c.args.r _ c.from.ensures c.put_text-a.ensures c.field.ensures
