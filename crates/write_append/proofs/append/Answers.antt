use Rattle.std.proofs.Common.{sym, ap, ◌∙◌, arith, length}
use Rattle.write_buffer.specs.declared.Put.{Put}
use Rattle.write_append.specs.Append.{sends}
use Rattle.write_append.specs.Ends.{ends_failed, ends-short, ends-written, sink_with, short_cases, fitting_of, suffices}
use Rattle.write_rules.specs.Checks.{check_given}
use Rattle.write_append.proofs.append.Goals as goal
use Rattle.write_rules.proofs.ChecksLaws.{checked_of}

pub invariant_of-events : goal.invariant_of-events
invariant_of-events c =
    let a = c.args in
    let r = checked_of a.sink a.xs.now a.ys.now a.ts.now a.ps.now
    (check_given _ (sym c.check_append-verdict.ensures ∙ c.in-Ok.is)) in
    record { sized = r.sized; whole = r.whole }

pub shortfall-need-requires : goal.shortfall-need-requires
shortfall-need-requires c =
    let a = c.args in
    let r = checked_of a.sink a.xs.now a.ys.now a.ts.now a.ps.now
    (check_given _ (sym c.check_append-verdict.ensures ∙ c.in-Ok.is)) in (
      suffices a.sink a.width a.height a.xs.now a.ys.now a.ts.now a.ps.now r (omega arith) (omega arith),
      fitting_of a.sink.version a.xs.now a.ys.now a.ts.now a.ps.now r.events,
    )

pub write-put-requires : goal.write-put-requires
write-put-requires c =
    let a = c.args in
    let r = checked_of a.sink a.xs.now a.ys.now a.ts.now a.ps.now
    (check_given _ (sym c.check_append-verdict.ensures ∙ c.in-Ok.is)) in
    let all = sends a.sink a.width a.height a.xs.now a.ys.now a.ts.now a.ps.now in
    let fits = (short_cases (length all) (length a.output.now) c.shortfall-need.result
    c.shortfall-need.ensures).0 c.if-need-eq0.true in (
      suffices a.sink a.width a.height a.xs.now a.ys.now a.ts.now a.ps.now r (omega arith) (omega arith),
      (λ h. omega arith),
      fitting_of a.sink.version a.xs.now a.ys.now a.ts.now a.ps.now r.events,
    )

pub returns-in-Err : goal.returns-in-Err
returns-in-Err c =
    let a = c.args in
    ends_failed a.sink a.width a.height a.xs.now a.ys.now a.ts.now a.ps.now a.output.now _
    (sym c.check_append-verdict.ensures ∙ c.in-Err.is)

pub returns-then-need-eq0 : goal.returns-then-need-eq0
returns-then-need-eq0 c =
    let a = c.args in
    let all = sends a.sink a.width a.height a.xs.now a.ys.now a.ts.now a.ps.now in
    let put = c.write-put.result in
    let fits = (short_cases (length all) (length a.output.now) c.shortfall-need.result
    c.shortfall-need.ensures).0 c.if-need-eq0.true in
    ends-written a.sink a.width a.height a.xs.now a.ys.now a.ts.now a.ps.now a.output.now _ _
    (sym c.check_append-verdict.ensures ∙ c.in-Ok.is)
    fits
    (c.next_sink-next.ensures ∙ ap (λ (p : Put). sink_with a.sink p.state a.xs.now a.ts.now) c.write-put.ensures.wrote)
    c.write-put.ensures.stores put.at (ap (λ (p : Put). p.at) c.write-put.ensures.wrote)

pub returns-else-need-eq0 : goal.returns-else-need-eq0
returns-else-need-eq0 c =
    let a = c.args in
    let all = sends a.sink a.width a.height a.xs.now a.ys.now a.ts.now a.ps.now in
    let short = (short_cases (length all) (length a.output.now) c.shortfall-need.result c.shortfall-need.ensures).1 c.if-need-eq0.false in
    ends-short a.sink a.width a.height a.xs.now a.ys.now a.ts.now a.ps.now a.output.now
    c.shortfall-need.result
    (sym c.check_append-verdict.ensures ∙ c.in-Ok.is) short.0 (omega arith)
