use Rattle.std.proofs.Common.{length, ◌-◌}
use Rattle.trigger_fill.specs.Form.{pulses_from}
use Rattle.trigger_fill.specs.Pulse.{Pulse}
use Rattle.trigger_fill.proofs.pulses.pulses.Given as goal

abbrev pub invariant-loop-p : goal.invariant-loop-p
invariant-loop-p g l =
    Pulse g.E.Format.FORM l.bytes (pulses_from g.E.Format.FORM l.initial.p.times l.initial.p.at l.bytes) l.initial.ts l.initial.ids l.initial.values
    l.ts l.ids l.values l.p.times l.n l.p.at

abbrev pub decreases-loop-p : goal.decreases-loop-p
decreases-loop-p g l = length l.bytes - l.p.at
