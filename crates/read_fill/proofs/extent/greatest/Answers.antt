use Rattle.std.proofs.Common.{◌≡◌, ◌∙◌, arith, max, rules}
use Rattle.std.specs.List.{fold}
use Rattle.read_fill.proofs.TopLaws.{fold_max}
use Rattle.read_fill.proofs.extent.greatest.Goals as goal

pub returns : goal.returns
returns c = let all : c.fold.result ≡ fold max 0 c.args.column.now = search rules in all ∙ fold_max 0 c.args.column.now ∙ omega arith
