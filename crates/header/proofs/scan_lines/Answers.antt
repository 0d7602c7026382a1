use Rattle.std.proofs.Common.{sym, ◌∙◌, arith, length-take-le}
use Rattle.header_text.proofs.TextLaws.{tail-part}
use Rattle.header.proofs.LineLaws as laws
use Rattle.header.proofs.scan_lines.Goals as goal

pub loop-at-init : goal.loop-at-init
loop-at-init c = (omega arith, laws.scan_start _)

pub returns-then-s-at-ne37 : goal.returns-then-s-at-ne37
returns-then-s-at-ne37 c = laws.scan_stop _ _ _ c.loop-at.invariant.1 c.loop-at-test.true c.if-s-at-ne37.true

pub slice_bounds-line-end : goal.slice_bounds-line-end
slice_bounds-line-end c =
    sym (length-take-le _ _ (laws.line_at c.args.s.now _ c.loop-at-test.true _ (tail-part _ _ c.loop-at.invariant.0) _
    c.line_length-n.ensures).within)

pub overflow_add-at : goal.overflow_add-at
overflow_add-at c =
    let l = laws.line_at c.args.s.now _ c.loop-at-test.true _ (tail-part _ _ c.loop-at.invariant.0) _
    c.line_length-n.ensures in
    omega (arith, l)

pub returns-then-is_end : goal.returns-then-is_end
returns-then-is_end c =
    let inv = c.loop-at.invariant in
    laws.scan_last _ _ _ inv.1 c.loop-at-test.true _ (tail-part _ _ inv.0) _ c.line_length-n.ensures _
    c.if-s-at-ne37.false c.read_line-seen.ensures (sym c.is_end.ensures ∙ c.if-is_end.true)

pub loop-at-smaller : goal.loop-at-smaller
loop-at-smaller c =
    let l = laws.line_at c.args.s.now _ c.loop-at-test.true _ (tail-part _ _ c.loop-at.invariant.0) _
    c.line_length-n.ensures in
    omega (arith, l)

pub loop-at-preserved : goal.loop-at-preserved
loop-at-preserved c =
    let inv = c.loop-at.invariant in
    let rest = tail-part _ _ inv.0 in
    let line = c.line_length-n.ensures in (
      omega (arith, laws.line_at c.args.s.now _ c.loop-at-test.true _ rest _ line),
      laws.scan_next _ _ _ inv.1 c.loop-at-test.true _ rest _ line _ c.if-s-at-ne37.false c.read_line-seen.ensures
          (sym c.is_end.ensures ∙ c.if-is_end.false),
    )

pub returns : goal.returns
returns c = laws.scan_end _ _ _ c.loop-at.invariant.1 c.loop-at-test.false
