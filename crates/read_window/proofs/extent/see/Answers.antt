use Rattle.std.proofs.Common.{sym}
use Rattle.read_window.specs.Extent.{extent_quiet, extent_top}
use Rattle.read_window.proofs.extent.see.Goals as goal

pub returns-then-mask-eq0 : goal.returns-then-mask-eq0
returns-then-mask-eq0 c = extent_quiet c.args.e c.args.v c.if-mask-eq0.true

pub returns : goal.returns
returns c =
    rw (
      c.max.ensures,
      c.max-2.ensures,
      c.max-3.ensures,
      c.saturate-x.ensures,
    ) (sym (extent_top c.args.v c.if-mask-eq0.false c.requires.mask< c.args.e))
