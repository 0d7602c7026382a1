use Rattle.std.proofs.Common.{◌≡◌, ◌∙◌, ◌+◌, ◌&&◌, get_or, refl, rules}
use Rattle.write_buffer.specs.Every.{every_from}
use Rattle.evt3_run_rules.specs.Marks.{time_at}
use Rattle.evt3_run_ends.specs.Blocks.{is_at, is_time, rises_after, then_told, else_told, block-told}
use Rattle.evt3_run_ends.proofs.blocks.block_goes_on.Goals as goal
use Rattle.evt3_run_ends.proofs.blocks.block_goes_on.Goals.{then-all_of_64, else-all_of_64, then-all_of_64-2, else-all_of_64-2}

pub returns-then-all_of_64-3 : goal.returns-then-all_of_64-3
returns-then-all_of_64-3 c =
    let a = c.args in
    let rows = is_at a.events.ys.now (get_or a.events.ys.now a.i 0) in
    let polarities = is_at a.events.ps.now (get_or a.events.ps.now a.i 0) in
    let times = is_time a.events.ts.now (time_at a.events.ts.now a.i) in
    let y : c.all_of_64.result ≡ every_from rows 64 (a.i + 1) = c.all_of_64.ensures rows (λ k b l p. search rules) in
    let yp : c.if-all_of_64.value ≡ (every_from rows 64 (a.i + 1) && every_from polarities 64 (a.i + 1)) =
    elim c.if-all_of_64.branch [
      | then-all_of_64 w ↦
          then_told c.all_of_64.result y w.if-all_of_64.true
          (w.value-is ∙ w.all_of_64-then-all_of_64.ensures polarities (λ k b l p. search rules))
      | else-all_of_64 w ↦ else_told _ c.all_of_64.result y w.if-all_of_64.false w.value-is
    ] in
    let ypx : c.if-all_of_64-2.value ≡ (c.if-all_of_64.value && every_from (rises_after a.events.xs.now) 64 a.i) =
    elim c.if-all_of_64-2.branch [
      | then-all_of_64-2 w ↦
          then_told c.if-all_of_64.value refl w.if-all_of_64-2.true
          (w.value-is ∙ w.all_of_64-then-all_of_64-2.ensures (rises_after a.events.xs.now) (λ k b l p. search rules))
      | else-all_of_64-2 w ↦ else_told _ c.if-all_of_64.value refl w.if-all_of_64-2.false w.value-is
    ] in
    block-told a.events.xs.now a.events.ys.now a.events.ts.now a.events.ps.now 64 a.i yp ypx
    (then_told c.if-all_of_64-2.value refl c.if-all_of_64-3.true
    (c.all_of_64-then-all_of_64-3.ensures times (λ k b l p. search rules)))

pub returns-else-all_of_64-3 : goal.returns-else-all_of_64-3
returns-else-all_of_64-3 c =
    let a = c.args in
    let rows = is_at a.events.ys.now (get_or a.events.ys.now a.i 0) in
    let polarities = is_at a.events.ps.now (get_or a.events.ps.now a.i 0) in
    let y : c.all_of_64.result ≡ every_from rows 64 (a.i + 1) = c.all_of_64.ensures rows (λ k b l p. search rules) in
    let yp : c.if-all_of_64.value ≡ (every_from rows 64 (a.i + 1) && every_from polarities 64 (a.i + 1)) =
    elim c.if-all_of_64.branch [
      | then-all_of_64 w ↦
          then_told c.all_of_64.result y w.if-all_of_64.true
          (w.value-is ∙ w.all_of_64-then-all_of_64.ensures polarities (λ k b l p. search rules))
      | else-all_of_64 w ↦ else_told _ c.all_of_64.result y w.if-all_of_64.false w.value-is
    ] in
    let ypx : c.if-all_of_64-2.value ≡ (c.if-all_of_64.value && every_from (rises_after a.events.xs.now) 64 a.i) =
    elim c.if-all_of_64-2.branch [
      | then-all_of_64-2 w ↦
          then_told c.if-all_of_64.value refl w.if-all_of_64-2.true
          (w.value-is ∙ w.all_of_64-then-all_of_64-2.ensures (rises_after a.events.xs.now) (λ k b l p. search rules))
      | else-all_of_64-2 w ↦ else_told _ c.if-all_of_64.value refl w.if-all_of_64-2.false w.value-is
    ] in
    block-told a.events.xs.now a.events.ys.now a.events.ts.now a.events.ps.now 64 a.i yp ypx
    (else_told _ c.if-all_of_64-2.value refl c.if-all_of_64-3.false refl)
