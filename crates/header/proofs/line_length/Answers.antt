use Rattle.std.proofs.Common.{rules}
use Rattle.header.proofs.LineLaws as laws
use Rattle.header.proofs.line_length.Goals as goal

pub returns : goal.returns
returns c = search (rules, laws.line_is c.args.s.now _ c.until.ensures.first)
