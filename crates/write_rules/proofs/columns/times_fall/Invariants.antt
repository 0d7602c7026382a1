use Rattle.std.proofs.Common.{◌≡◌, drop}
use Rattle.write_rules.specs.Range.{falls}
use Rattle.write_rules.proofs.columns.times_fall.Given as goal

abbrev pub invariant-loop-t : goal.invariant-loop-t
invariant-loop-t l = falls l.last (drop l.t-index l.ts) ≡ falls l.from l.ts
