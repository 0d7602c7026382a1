use Rattle.std.proofs.Common.{◌≡◌, ◌+◌, drop}
use Rattle.header_text.specs.Number.{digits_from, digits_at}
use Rattle.header_text.proofs.number.digits.Given as goal

abbrev pub invariant-loop-i : goal.invariant-loop-i
invariant-loop-i l = digits_from (l.place + l.i) l.n (drop l.i l.s) ≡ digits_at l.place l.s
