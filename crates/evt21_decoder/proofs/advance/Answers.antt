use Prim.Native.Nat.{◌<◌, ◌^◌}
use native.Mathlib.Omega.{arith}
use Rattle.evt_types.specs.{Layout.upper}
use Rattle.evt21_decoder.specs.{Range.few_wide}
use Rattle.evt21_decoder.proofs.advance.Goals as goal

pub overflow_mul-events : goal.overflow_mul-events
overflow_mul-events c =
    let a = c.args in
    let m = c.bits in
    let fits : m.result < 2 ^ 32 = rw m.ensures (omega arith) in
    rw c.advance-s.ensures.1 (omega (arith, few_wide a.decoder (upper a.word) m.result fits))
