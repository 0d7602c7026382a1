use Rattle.std.proofs.Common.{arith}
use Rattle.read_deliver.specs.Plan.{few_number}
use Rattle.read_deliver.proofs.plan.plan_number.Goals as goal
use Rattle.read_deliver.proofs.PlanLaws.{planned_number}

pub overflow_add-next : goal.overflow_add-next
overflow_add-next c =
    let a = c.args in
    omega (arith, few_number a.window a.number a.codec a.bytes.now c.requires.ready c.requires.numbered c.count_to-p.result c.count_to-p.ensures.0)

pub returns : goal.returns
returns c =
    let a = c.args in
    planned_number a.window a.number a.codec a.bytes.now c.requires.ready c.requires.numbered c.count_to-p.result
    c.count_to-p.ensures.0 c.count_to-p.ensures.1
