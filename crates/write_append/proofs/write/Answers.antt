use Rattle.std.proofs.Common.{arith, length-append}
use Rattle.write_append.specs.Append.{due_header, word_bytes}
use Rattle.write_append.specs.Ends.{due_few, wrote_is, room-words}
use Rattle.write_append.proofs.write.Goals as goal

pub pass-requires : goal.pass-requires
pass-requires c =
    let header-due = c.header_due-due in
    let few = due_few header-due.result c.args.sink.version c.args.width c.args.height (omega arith) (omega arith) in
    let a = c.args in (
      omega arith,
      omega (
        arith,
        c.requires.0.few,
        length-append (due_header a.sink a.width a.height a.events.xs.now a.events.ys.now a.events.ts.now a.events.ps.now)
            (word_bytes a.sink a.events.xs.now a.events.ys.now a.events.ts.now a.events.ps.now),
      ),
      room-words a.sink a.width a.height a.events.xs.now a.events.ys.now a.events.ts.now a.events.ps.now a.out.now
          c.put_due-at.new.out header-due.ensures c.put_due-at.ensures.ends
          c.put_due-at.auto.out c.requires.1,
      c.requires.2,
      c.requires.0.paced,
    )

pub returns : goal.returns
returns c =
    let a = c.args in
    let all = wrote_is a.sink a.width a.height a.events.xs.now a.events.ys.now a.events.ts.now a.events.ps.now a.out.now
    c.header_due-due.ensures c.put_due-at.ensures.ends c.put_due-at.ensures.stores c.pass.ensures.passed c.pass.ensures.stores in
    record { wrote = all.0; stores = all.1 }
