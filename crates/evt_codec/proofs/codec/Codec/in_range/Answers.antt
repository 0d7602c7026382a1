use mathlib.Core.Path.{sym, ap, ◌∙◌}
use Rattle.evt_codec.specs.Codec.{in_range_c}
use Rattle.evt_codec.proofs.codec.Codec.in_range.Goals as goal

pub returns-in-Evt2 : goal.returns-in-Evt2
returns-in-Evt2 c = c.in_range.ensures ∙ sym (ap in_range_c c.in-Evt2.is)

pub returns-in-Evt21 : goal.returns-in-Evt21
returns-in-Evt21 c = c.in_range-in-Evt21.ensures ∙ sym (ap in_range_c c.in-Evt21.is)

pub returns-in-Evt3 : goal.returns-in-Evt3
returns-in-Evt3 c = c.in_range-in-Evt3.ensures ∙ sym (ap in_range_c c.in-Evt3.is)
