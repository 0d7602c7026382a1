use Rattle.std.proofs.Common.{◌≡◌, ◌+◌, ◌-◌, ◌<◌, arith, rules, get_or, pos, w64, SFits}
use Rattle.std.proofs.lemmas.Int.{to_z-of_z}
use Rattle.listing_text.specs.Laws.{listing-next, listing-end}
use Rattle.listing_text.proofs.lines_text.Goals as goal

pub loop-i-preserved : goal.loop-i-preserved
loop-i-preserved c =
    let fits : SFits w64 (get_or c.args.ts.now c.loop-i.i (pos 0)) = search rules in
    let time = simp to_z-of_z at c.natural_time-t.ensures in
    let l = c.loop-i.invariant in
    let some : 0 < c.args.from + c.args.n - c.loop-i.i = omega arith in
    let fewer : c.args.from + c.args.n - c.loop-i.i - 1 ≡ c.args.from + c.args.n - (c.loop-i.i + 1) = omega arith in
    rw (← fewer) (listing-next _ _ some (rw time at c.event_at-at.ensures) l)

pub returns : goal.returns
returns c = listing-end (omega arith) c.loop-i.invariant
