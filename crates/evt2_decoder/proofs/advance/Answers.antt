use Rattle.std.proofs.Common.{arith, refl}
use Rattle.evt2_decoder.specs.Evt2.{time_word_lem, event-word, early_word, other_word}
use Rattle.evt2_decoder.proofs.advance.Goals as goal

pub returns-in-8 : goal.returns-in-8
returns-in-8 c =
    let e = time_word_lem c.args.decoder c.args.word c.bits-kind.result c.bits-kind.ensures c.in-8.is in
    rw (e.0, e.1, c.after-c.ensures, c.bits-raw.ensures) (refl, c.none-v.ensures)

pub returns-then-d : goal.returns-then-d
returns-then-d c =
    let e = event-word c.args.decoder c.args.word c.bits-kind.result c.bits-kind.ensures (omega arith) c.if-d.true in
    rw (e.0, e.1, c.bits-then-d-2.ensures, c.bits-then-d.ensures, c.bits.ensures, c.bits-kind.ensures) (refl, refl)

pub returns-else-d : goal.returns-else-d
returns-else-d c =
    let e = early_word c.args.decoder c.args.word _ c.bits-kind.ensures (omega arith) c.if-d.false in
    rw (e.0, e.1) (refl, c.none-v.ensures)

pub returns-in-2-to-7 : goal.returns-in-2-to-7
returns-in-2-to-7 c =
    let e = other_word c.args.decoder c.args.word _ c.bits-kind.ensures (omega arith) (omega arith) in
    rw (e.0, e.1) (refl, c.none-v.ensures)
