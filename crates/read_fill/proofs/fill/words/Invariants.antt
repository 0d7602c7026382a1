use Rattle.std.proofs.Common.{length, ◌-◌}
use Rattle.read_fill.specs.Iteration.{Filling}
use Rattle.read_fill.proofs.fill.words.Given as goal

abbrev pub invariant-loop-i : goal.invariant-loop-i
invariant-loop-i g l =
    let W = g.D.WordLoop in
    Filling W.reader.size W.reader.machine W.reader.Bounded l.width l.height (W.state l.fn.start) l.bytes
    l.initial.xs l.initial.ys l.initial.ts l.initial.ps l.xs l.ys l.ts l.ps (W.state l.s) l.n l.i

abbrev pub decreases-loop-i : goal.decreases-loop-i
decreases-loop-i g l = length l.bytes - l.i
