use Rattle.std.proofs.Common.{◌≡◌, ◌≤◌, length, take, ap, ◌∙◌, arith, length-take}
use Rattle.std.proofs.lemmas.Result.{err_from_is_err_and}
use Rattle.std.specs.Prelude.{Err}
use Rattle.evt_types.specs.Trigger.{shortest3}
use Rattle.evt_codec.specs.Triggers.{triggers_from}
use Rattle.read_fill.specs.Laws.{bounded_fresh}
use Rattle.read_rules.specs.Read.{body_events}
use Rattle.trigger_rules.specs.{Read.body_triggers, Laws.body-short, Laws.no_triggers, Laws.body_refused, Laws.body_read}
use Rattle.read_triggers.proofs.read_body_triggers.Goals as goal

pub fill-requires-clause-bounded : goal.fill-requires-clause-bounded
fill-requires-clause-bounded c =
    let part = take c.trigger_end-end.result c.args.body.now in
    let short : length part ≤ 1073741824 = omega (arith, length-take c.trigger_end-end.result c.args.body.now, c.requires) in
    rw c.new-codec.ensures (bounded_fresh c.args.encoding (length part) short)

pub returns-then-places-n : goal.returns-then-places-n
returns-then-places-n c =
    let a = c.args in
    let left = body_triggers a.encoding a.size a.limit a.body.now in
    let part : triggers_from c.new-codec.result (take c.trigger_end-end.result a.body.now) ≡ left = rw c.new-codec.ensures c.trigger_end-end.ensures.1 in
    let counted : c.count-n.result ≡ length left = c.count-n.ensures ∙ ap length part in
    body-short a.encoding a.size (body_events a.encoding a.size a.limit a.body.now) left c.shortest-room.result c.count-n.result c.shortest-room.ensures
    counted (rw c.shortest3-places.ensures at c.if-places-n.true) _ (ap Err c.refused_short.ensures)

pub returns-in_err-reading : goal.returns-in_err-reading
returns-in_err-reading c =
    let a = c.args in
    let p = err_from_is_err_and c.from_residual.result c.from_residual.ensures.1 in
    rw (p.1, p.2) (body_refused _ (body_triggers a.encoding a.size a.limit a.body.now) _ (rw c.in_err-reading.was at c.read_body.ensures))

pub returns-else-n-gt0 : goal.returns-else-n-gt0
returns-else-n-gt0 c =
    let a = c.args in
    let left = body_triggers a.encoding a.size a.limit a.body.now in
    let part : triggers_from c.new-codec.result (take c.trigger_end-end.result a.body.now) ≡ left = rw c.new-codec.ensures c.trigger_end-end.ensures.1 in
    let counted : c.count-n.result ≡ length left = c.count-n.ensures ∙ ap length part in
    let few : length left ≤ shortest3 a.times.now a.ids.now a.values.now =
    omega (arith, counted, c.shortest3-places.ensures, c.if-places-n.false) in
    body_read _ left c.in_ok-reading.reading c.count-n.result (rw c.in_ok-reading.was at c.read_body.ensures) few counted
    (no_triggers left (omega (arith, counted, c.if-n-gt0.false)))

pub returns-then-n-gt0 : goal.returns-then-n-gt0
returns-then-n-gt0 c =
    let a = c.args in
    let left = body_triggers a.encoding a.size a.limit a.body.now in
    let part : triggers_from c.new-codec.result (take c.trigger_end-end.result a.body.now) ≡ left = rw c.new-codec.ensures c.trigger_end-end.ensures.1 in
    let counted : c.count-n.result ≡ length left = c.count-n.ensures ∙ ap length part in
    let few : length left ≤ shortest3 a.times.now a.ids.now a.values.now =
    omega (arith, counted, c.shortest3-places.ensures, c.if-places-n.false) in
    body_read _ left c.in_ok-reading.reading c.count-n.result (rw c.in_ok-reading.was at c.read_body.ensures) few counted
    (rw part at c.fill.ensures.1)
