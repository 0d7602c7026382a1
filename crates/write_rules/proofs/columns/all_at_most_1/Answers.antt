use Rattle.std.proofs.Common.{◌≡◌, refl, rules}
use Rattle.std.specs.List.{fold}
use Rattle.std.specs.Int.Bits.{bit_or}
use Rattle.write_rules.specs.Checks.{gathered}
use Rattle.write_rules.proofs.columns.all_at_most_1.Goals as goal

pub returns : goal.returns
returns c = let all : c.fold.result ≡ fold bit_or 0 c.args.ps.now = search rules in rw all (gathered 1 1 c.args.ps.now refl)
