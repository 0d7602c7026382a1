use Rattle.std.proofs.Common.{◌∙◌, ap}
use Rattle.header_text.specs.Text.{same}
use Rattle.header.specs.Lines.{end_name, is_end}
use Rattle.header.proofs.is_end.Goals as goal

pub returns : goal.returns
unfolding is_end
returns c = c.is_word.ensures ∙ ap (same end_name) c.line_body.ensures
