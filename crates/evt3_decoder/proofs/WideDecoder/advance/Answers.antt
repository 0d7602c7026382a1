use Rattle.std.proofs.Common.{arith}
use mathlib.Core.Path.{◌≡◌, refl}
use mathlib.Core.Logic.{⊎_elim}
use Rattle.evt3_decoder.specs.Evt3.{slimmed, started_word, started_other, first_word, early_word}
use Rattle.evt3_decoder.proofs.WideDecoder.advance.Goals as goal

pub returns-in-0 : goal.returns-in-0
returns-in-0 c =
    let e = started_word (slimmed c.args.self) c.args.word c.bits-kind.result c.bits-kind.ensures 0 c.in-0.is
    c.if-d.true in
    rw (e.0, e.1, c.bits-x.ensures) (refl, c.none-v.ensures)

pub returns-in-2 : goal.returns-in-2
returns-in-2 c =
    let e = started_word (slimmed c.args.self) c.args.word c.bits-kind.result c.bits-kind.ensures 2
    c.in-2.is c.if-d.true in
    rw (e.0, e.1, c.one-v.ensures, c.bits-x.ensures, c.bits-p.ensures)
    (refl, refl)

pub returns-in-3 : goal.returns-in-3
returns-in-3 c =
    let e = started_word (slimmed c.args.self) c.args.word c.bits-kind.result c.bits-kind.ensures 3 c.in-3.is
    c.if-d.true in
    rw (e.0, e.1, c.bits-x.ensures, c.bits-p.ensures) (refl, c.none-v.ensures)

pub returns-in-4 : goal.returns-in-4
returns-in-4 c =
    let e = started_word (slimmed c.args.self) c.args.word c.bits-kind.result
    c.bits-kind.ensures 4 c.in-4.is c.if-d.true in
    rw (e.0, e.1, c.saturating_add.ensures, c.many-v.ensures, c.bits-low.ensures) (refl, refl)

pub returns-in-5 : goal.returns-in-5
returns-in-5 c =
    let e = started_word (slimmed c.args.self) c.args.word c.bits-kind.result c.bits-kind.ensures 5
    c.in-5.is c.if-d.true in
    rw (e.0, e.1, c.saturating_add-in-5.ensures, c.many-v-in-5.ensures, c.bits.ensures) (refl, refl)

pub returns-in-6 : goal.returns-in-6
returns-in-6 c =
    let e = started_word (slimmed c.args.self) c.args.word c.bits-kind.result
    c.bits-kind.ensures 6 c.in-6.is c.if-d.true in
    rw (e.0, e.1, c.bits-low.ensures) (refl, c.none-v.ensures)

pub returns-in-8 : goal.returns-in-8
returns-in-8 c =
    let e = started_word (slimmed c.args.self) c.args.word c.bits-kind.result
    c.bits-kind.ensures 8 c.in-8.is c.if-d.true in
    rw (e.0, e.1, c.after-c.ensures, c.bits-low.ensures) (rw (← c.if-d.true) refl, c.none-v.ensures)

pub returns-then-d : goal.returns-then-d
returns-then-d c =
    ⊎_elim (λ (k : c.bits-kind.result ≡ 1). let e =
    started_word (slimmed c.args.self)
    c.args.word
    c.bits-kind.result c.bits-kind.ensures 1 k
    c.if-d.true in
    rw (e.0, e.1) (refl, c.none-v.ensures))
    (λ (k : c.bits-kind.result ≡ 7). let e =
    started_word (slimmed c.args.self)
    c.args.word
    c.bits-kind.result c.bits-kind.ensures 7 k
    c.if-d.true in
    rw (e.0, e.1) (refl, c.none-v.ensures)) c.in-1-1.keys8

pub returns-then-kind-lt16 : goal.returns-then-kind-lt16
returns-then-kind-lt16 c =
    let rest = c.in_default-1.rest.0 in
    let e = started_other (slimmed c.args.self) c.args.word c.bits-kind.result c.bits-kind.ensures
    c.if-d.true rest.0.0.0.0.0.0.1 rest.0.0.0.0.0.1 rest.0.0.0.0.1 rest.0.0.0.1
    rest.0.0.1 rest.0.1 rest.1 in
    rw (e.0, e.1) (refl, c.none-v.ensures)

pub returns-in-8-kind : goal.returns-in-8-kind
returns-in-8-kind c =
    let e = first_word (slimmed c.args.self) c.args.word c.bits-kind.result
    c.bits-kind.ensures c.in-8-kind.is c.if-d.false in
    rw (e.0, e.1, c.bits-low.ensures) (refl, c.none-v.ensures)

pub returns-in_default-kind : goal.returns-in_default-kind
returns-in_default-kind c =
    let e = early_word (slimmed c.args.self) c.args.word c.bits-kind.result c.bits-kind.ensures (omega arith)
    c.if-d.false in
    rw (e.0, e.1) (refl, c.none-v.ensures)
