use Rattle.std.proofs.Common.{rules, sym, ◌∙◌, true, false, length-take-le}
use Rattle.std.specs.Prelude.{None}
use Rattle.header.proofs.AnswerLaws as laws
use Rattle.header.proofs.parse_header.Goals as goal

pub slice_bounds-is_ascii-end : goal.slice_bounds-is_ascii-end
slice_bounds-is_ascii-end c =
    sym (length-take-le _ _ (laws.scan_within _ None c.if-recording-gt-MOST_BYTES.false _ _ c.scan_lines-scan.ensures))

pub returns-then-recording-gt-MOST_BYTES : goal.returns-then-recording-gt-MOST_BYTES
returns-then-recording-gt-MOST_BYTES c = laws.parsed _ _ _ (laws.answer_long _ _ c.if-recording-gt-MOST_BYTES.true)

pub returns-then-not-is_ascii : goal.returns-then-not-is_ascii
returns-then-not-is_ascii c =
    laws.parsed _ _ _ (laws.answer-high _ _ c.if-recording-gt-MOST_BYTES.false _ _
    c.scan_lines-scan.ensures (laws.not-ascii _ (search rules)))

pub returns-in_default : goal.returns-in_default
returns-in_default c =
    laws.parsed _ _ _ (laws.answer_none _ _ c.if-recording-gt-MOST_BYTES.false _ _ c.scan_lines-scan.ensures (laws.ascii _ (search rules))
    (sym c.name_encoding.ensures ∙ c.in_default.is))

pub returns-then-has_zero : goal.returns-then-has_zero
returns-then-has_zero c =
    laws.parsed _ _ _ (laws.answer_sized _ _ c.if-recording-gt-MOST_BYTES.false _ _ c.scan_lines-scan.ensures
    (laws.ascii _ (search rules)) _ (sym c.name_encoding.ensures ∙ c.in-Some.is) _
    (c.or-sensor_size.ensures ∙ laws.or-holds _ _) true (sym c.has_zero.ensures ∙ c.if-has_zero.true))

pub returns : goal.returns
returns c =
    laws.parsed _ _ _ (laws.answer_sized _ _ c.if-recording-gt-MOST_BYTES.false _ _ c.scan_lines-scan.ensures
    (laws.ascii _ (search rules)) _ (sym c.name_encoding.ensures ∙ c.in-Some.is) _
    (c.or-sensor_size.ensures ∙ laws.or-holds _ _) false (sym c.has_zero.ensures ∙ c.if-has_zero.false))
