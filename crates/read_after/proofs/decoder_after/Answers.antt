use Rattle.std.proofs.Common.{sym, ap, ◌∙◌}
use Rattle.read_count.specs.declared.CountedAll.{CountedAll}
use Rattle.read_fill.specs.Laws.{bounded_range}
use Rattle.read_after.specs.After.{after_long, after_unfit, after-words}
use Rattle.read_after.proofs.decoder_after.Goals as goal

pub returns-then-words-gt-MOST_BYTES : goal.returns-then-words-gt-MOST_BYTES
returns-then-words-gt-MOST_BYTES c = after_long _ _ c.if-words-gt-MOST_BYTES.true

pub count_all-counted-requires : goal.count_all-counted-requires
count_all-counted-requires c =
    let in_range = c.in_range.ensures in
    bounded_range c.args.codec _ (sym in_range.0 ∙ c.if-in_range.true) in_range.1 c.if-words-gt-MOST_BYTES.false

pub returns-then-in_range : goal.returns-then-in_range
returns-then-in_range c =
    after-words _ _ c.if-words-gt-MOST_BYTES.false (sym c.in_range.ensures.0 ∙ c.if-in_range.true) _
    (ap (λ (n : CountedAll). n.codec) c.count_all-counted.ensures)

pub returns : goal.returns
returns c = after_unfit _ _ c.if-words-gt-MOST_BYTES.false (sym c.in_range.ensures.0 ∙ c.if-in_range.false)
