use Rattle.std.proofs.Common.{◌∙◌, ap}
use Rattle.header_text.specs.Text.{trim_start, trim_end, trim_of}
use Rattle.header_text.proofs.text.trim.Goals as goal

pub returns : goal.returns
unfolding trim_of trim_start
returns c = c.trim_end.ensures ∙ ap trim_end c.tail_from.ensures
