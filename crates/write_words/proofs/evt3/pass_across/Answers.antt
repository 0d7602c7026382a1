use Rattle.write_words.specs.Across3.{enter_asks, part-asks, across_iteration, across_end}
use Rattle.write_words.proofs.evt3.pass_across.Goals as goal

pub enter-led-requires : goal.enter-led-requires
enter-led-requires c =
    let p = c.requires in enter_asks c.args.events.sized c.loop-i.invariant p.0 p.1 p.2 c.loop-i-test.true c.time.ensures

pub pass_still-put-requires : goal.pass_still-put-requires
pass_still-put-requires c =
    let p = c.requires in
    let led = c.enter-led.ensures in
    let asks = part-asks c.args.events.sized c.loop-i.invariant p.0 p.1 p.2 c.loop-i-test.true c.time.ensures led.stores c.loop_end-end.ensures
    c.args.events.whole in
    rw led.entered (asks.1, asks.3, asks.4, asks.5)

pub loop-i-preserved : goal.loop-i-preserved
loop-i-preserved c =
    let p = c.requires in
    let led = c.enter-led.ensures in
    let put = c.pass_still-put.ensures in
    across_iteration c.args.events.sized c.loop-i.invariant p.0 p.1 p.2 c.loop-i-test.true c.time.ensures led.stores c.loop_end-end.ensures
    (rw led.entered at put.passed) (rw led.entered at put.stores)

pub returns : goal.returns
returns c =
    let all = across_end c.args.events.sized c.loop-i.invariant c.loop-i-test.false in record { passed = all.0; stores = all.1 }
