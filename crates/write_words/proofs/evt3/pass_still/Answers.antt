use Rattle.std.proofs.Common.{refl, arith, get_or}
use Rattle.write_words.specs.Pass3.{under_start3, under_part3, under_rising3, under_room3, under_iteration3, under_end3}
use Rattle.write_words.proofs.evt3.pass_still.Goals as goal

pub loop-i-init : goal.loop-i-init
loop-i-init c =
    let p = c.requires in
    under_start3 c.args.events.sized p.0 p.1 p.2 _ _ _ c.sent_number-high.ensures c.sent_number-low.ensures c.sent_number-row.ensures

pub put_run-at-requires : goal.put_run-at-requires
put_run-at-requires c =
    let p = c.requires in
    let l = c.loop-i in
    let h = c.loop-i-test.true in
    let t = c.time-t in
    let end = c.run_at-run.result.end in
    let is_end = c.run_at-run.ensures.is_end_lem in
    let y = get_or c.args.events.ys.now l.i 0 in
    let z = get_or c.args.events.ps.now l.i 0 in
    let y< = c.type_inv.ys l.i in (
      under_part3 c.args.events.sized p.0 p.1 p.2 l.invariant end t.result y z h is_end t.ensures refl refl (omega arith) (omega arith),
      omega arith,
      under_rising3 c.args.events.sized p.0 p.1 p.2 l.invariant end h is_end,
      under_room3 c.args.events.sized p.0 p.1 p.2 l.invariant end t.result y z h is_end t.ensures refl refl (omega arith) (omega arith) p.3,
    )

pub loop-i-preserved : goal.loop-i-preserved
loop-i-preserved c =
    let p = c.requires in
    let l = c.loop-i in
    let t = c.time-t in
    let run = c.run_at-run in
    let put = c.put_run-at in
    let y = get_or c.args.events.ys.now l.i 0 in
    let y< = c.type_inv.ys l.i in
    under_iteration3 c.args.events.sized p.0 p.1 p.2 l.invariant run.result.end t.result y (get_or c.args.events.ps.now l.i 0)
    c.loop-i-test.true run.ensures.is_end_lem t.ensures refl refl
    (omega arith) (omega arith) run.result.mask run.ensures.marked put.result _ put.ensures.ends put.ensures.stores

pub returns : goal.returns
returns c =
    let p = c.requires in
    let after = c.state_after-after in
    let all = under_end3 c.args.events.sized p.0 p.1 p.2 c.loop-i.invariant c.loop-i-test.false after.result after.ensures in
    record { passed = all.0; stores = all.1 }
