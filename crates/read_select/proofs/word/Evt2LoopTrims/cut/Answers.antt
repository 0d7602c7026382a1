use Rattle.read_window.specs.Trim.{picked_none}
use Rattle.read_select.proofs.word.Evt2LoopTrims.cut.Goals as goal

pub returns-then-v-eq0 : goal.returns-then-v-eq0
returns-then-v-eq0 c = picked_none c.args.v c.args.win c.args.k c.if-v-eq0.true
