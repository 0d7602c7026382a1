use Rattle.std.proofs.Common.{length, drop, arith}
use Rattle.laws_stream.specs.Part.{rest_of}
use Rattle.evt_codec.specs.Sound.{able_bounded}
use Rattle.read_seek.specs.Laws.{midway_within}
use Rattle.read_seek.proofs.seek.Goals as goal

pub span-s-requires-clause-able : goal.span-s-requires-clause-able
span-s-requires-clause-able c =
    let bytes = c.args.bytes.now in
    let m = c.skip-m.result in
    rw (rest_of bytes m.at) (able_bounded m.codec (length (drop m.at bytes)) c.skip-m.ensures.able)

pub overflow_add-result : goal.overflow_add-result
overflow_add-result c =
    let a = c.args in
    let m = c.skip-m.result in
    omega (
      arith,
      midway_within a.t a.codec a.bytes.now m.at m.codec c.skip-m.ensures
          c.span-s.result (rw (rest_of a.bytes.now m.at) at c.span-s.ensures.0),
    )
