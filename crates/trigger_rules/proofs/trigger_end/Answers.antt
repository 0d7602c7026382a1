use Rattle.trigger_rules.specs.Laws.{ends-all}
use Rattle.trigger_rules.proofs.trigger_end.Goals as goal

pub returns-in-None : goal.returns-in-None
returns-in-None c =
    rw c.in-None.is (ends-all c.args.size c.args.body.now c.requires c.args.encoding)
