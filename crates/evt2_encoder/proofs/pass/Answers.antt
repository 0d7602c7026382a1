use Rattle.std.proofs.Common.{refl, ◌+◌, arith}
use Rattle.evt2_encoder.specs.Pass2.{under_iteration2, under_next2, under_same2, under_end2}
use Rattle.evt2_encoder.proofs.pass.Goals as goal
use Rattle.evt2_encoder.proofs.pass.Goals.{then-i-events, else-i-events}

pub put_at-at-requires : goal.put_at-at-requires
put_at-at-requires c =
    let s = c.requires in
    under_next2 c.args.events.sized c.loop-i.invariant (omega arith) s.0 s.2 s.1 c.time-t.result c.time-t.ensures

pub put_at-at-requires-in-loop-i : goal.put_at-at-requires-in-loop-i
put_at-at-requires-in-loop-i c =
    let s = c.requires in
    let t = c.time-t in
    let next = c.time-next in
    let put = c.put_at-at in
    let u = under_iteration2 c.args.events.sized c.loop-i.invariant (omega arith) s.2 t.result t.ensures put.result _ put.ensures.ends put.ensures.stores in
    under_next2 c.args.events.sized u c.loop-i-test.true s.0 s.2 s.1 next.result next.ensures

pub loop-i-preserved : goal.loop-i-preserved
loop-i-preserved c =
    let s = c.requires in
    let l = c.loop-i in
    let t = c.time-t in
    let next = c.time-next in
    let put = c.put_at-at in
    let put2 = c.put_at-at-in-loop-i in
    let u = under_iteration2 c.args.events.sized l.invariant (omega arith) s.2 t.result t.ensures put.result _ put.ensures.ends put.ensures.stores in
    let u2 = under_iteration2 c.args.events.sized u c.loop-i-test.true s.2 next.result next.ensures put2.result _ put2.ensures.ends put2.ensures.stores in
    under_same2 c.args.events.sized u2 (l.i + 2) refl refl refl (omega arith)

pub put_at-at-requires-then-i-events : goal.put_at-at-requires-then-i-events
put_at-at-requires-then-i-events c =
    let s = c.requires in
    let t = c.time-t-then-i-events in
    under_next2 c.args.events.sized c.loop-i.invariant c.if-i-events.true s.0 s.2 s.1 t.result t.ensures

pub returns : goal.returns
returns c =
    let s = c.requires in
    let sized = c.args.events.sized in
    let l = c.loop-i in
    let after = c.state_after-after in
    elim c.if-i-events.branch [
      | then-i-events w ↦
          let t = w.time-t-then-i-events in
          let put = w.put_at-at-then-i-events in
          let u = under_iteration2 sized l.invariant w.if-i-events.true s.2 t.result t.ensures put.result _ put.ensures.ends put.ensures.stores in
          let all = under_end2 sized (under_same2 sized u (l.i + 1) w.out-is w.high-is w.at-is refl) (omega arith) after.result after.ensures in
          record { passed = all.0; stores = all.1 }
      | else-i-events w ↦
          let all = under_end2 sized (under_same2 sized l.invariant l.i w.out-is w.high-is w.at-is refl) w.if-i-events.false after.result after.ensures in
          record { passed = all.0; stores = all.1 }
    ]
