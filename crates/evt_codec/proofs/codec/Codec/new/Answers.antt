use mathlib.Core.Path.{sym, ap, ◌∙◌}
use Rattle.evt_codec.specs.Codec.{fresh_c}
use Rattle.evt_codec.specs.declared.codec.Codec.TheVariants.{Evt2, Evt21, Evt3}
use Rattle.evt_codec.proofs.codec.Codec.new.Goals as goal

pub returns-in-Evt2 : goal.returns-in-Evt2
returns-in-Evt2 c = ap Evt2 c.new.ensures ∙ sym (ap fresh_c c.in-Evt2.is)

pub returns-in-Evt21 : goal.returns-in-Evt21
returns-in-Evt21 c = ap Evt21 c.new-in-Evt21.ensures ∙ sym (ap fresh_c c.in-Evt21.is)

pub returns-in-Evt3 : goal.returns-in-Evt3
returns-in-Evt3 c = ap Evt3 c.new-in-Evt3.ensures ∙ sym (ap fresh_c c.in-Evt3.is)
