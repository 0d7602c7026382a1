use Rattle.std.proofs.Common.{◌≡◌, ◌+◌, ◌-◌, arith}
use Rattle.evt3_lead_words.specs.Loops.{passing_end}
use Rattle.evt3_lead_words.proofs.loops.put_passes.Goals as goal
use Rattle.evt3_lead_words.proofs.LoopsLaws.{passing_iteration, passing_room}

pub put_pass-a-requires : goal.put_pass-a-requires
put_pass-a-requires c =
    let l = c.loop in (omega (arith, l.invariant.near), passing_room l.invariant (omega arith) c.requires.2)

pub loop-preserved : goal.loop-preserved
loop-preserved c =
    let pass = c.put_pass-a in
    let l = c.loop in
    let left : c.args.n - (l.counter + 1) ≡ c.args.n - l.counter - 1 = omega arith in
    rw left (passing_iteration l.invariant (omega arith) pass.result _ pass.ensures.ends pass.ensures.stores)

pub returns : goal.returns
returns c = let all = passing_end c.loop.invariant (omega arith) in record { ends = all.0; stores = all.1 }
