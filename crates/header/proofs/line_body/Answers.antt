use Rattle.std.proofs.Common.{◌∙◌, ap}
use Rattle.header_text.specs.Text.{not_percent, from, trim_of}
use Rattle.header.specs.Lines.{body_of}
use Rattle.header.proofs.line_body.Goals as goal

pub returns : goal.returns
unfolding body_of
returns c = c.trim-2.ensures ∙ ap trim_of (c.tail_from.ensures ∙ ap (from not_percent) c.trim.ensures)
