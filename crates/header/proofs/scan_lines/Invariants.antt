use Rattle.std.proofs.Common.{◌-◌, ◌≤◌, ◌≡◌, length, drop}
use Rattle.header.specs.Notes.{said_of, scan_of}
use Rattle.header.proofs.LineLaws as laws
use Rattle.header.proofs.scan_lines.Given as goal

abbrev pub invariant-loop-at : goal.invariant-loop-at
invariant-loop-at l = (l.at ≤ length l.s) × (laws.resume l.at (said_of l.seen) (drop l.at l.s) ≡ scan_of l.s)

abbrev pub decreases-loop-at : goal.decreases-loop-at
decreases-loop-at l = length l.s - l.at
