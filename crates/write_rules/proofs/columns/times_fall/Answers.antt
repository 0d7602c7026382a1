use Rattle.std.proofs.Common.{sym, ◌∙◌, rules, get_or, pos, SFits, w64, to_z-of_z}
use Rattle.write_rules.specs.Checks.{falls_yes, falls_no, falls-end}
use Rattle.write_rules.proofs.columns.times_fall.Goals as goal

pub returns-then-t-last : goal.returns-then-t-last
returns-then-t-last c =
    let l = c.loop-t in
    let ts = c.args.ts.now in
    let fits : SFits w64 (get_or ts l.t-index (pos 0)) = search rules in
    let from = c.ranges.from in
    let early = simp to_z-of_z at c.if-t-last.true in
    let start = simp to_z-of_z at l.invariant in
    sym (falls_yes ts _ l.t-index c.loop-t-test.true early) ∙ start

pub loop-t-preserved : goal.loop-t-preserved
loop-t-preserved c =
    let l = c.loop-t in
    let ts = c.args.ts.now in
    let fits : SFits w64 (get_or ts l.t-index (pos 0)) = search rules in
    let early = simp to_z-of_z at c.if-t-last.false in
    simp to_z-of_z (sym (falls_no ts _ l.t-index c.loop-t-test.true early) ∙ l.invariant)

pub returns : goal.returns
returns c =
    let l = c.loop-t in
    let from = c.ranges.from in
    let start = simp to_z-of_z at l.invariant in
    sym (falls-end c.args.ts.now _ l.t-index c.loop-t-test.false) ∙ start
