use Rattle.std.proofs.Common.{◌^◌, refl, sym, ◌∙◌, get_or, ◌-◌, arith}
use Rattle.laws_stream.specs.Part.{between}
use Rattle.laws_stream.specs.Words.{bytes}
use Rattle.evt_types.specs.Layout.{word_size3}
use Rattle.write_buffer.specs.Storing.{stored_both, roomy_rest}
use Rattle.evt3_lead_words.specs.Evt3.{base_word3}
use Rattle.evt3_run_words.specs.Masks.{rising_inc}
use Rattle.evt3_run_words.specs.Parts.{body_vector, body-singles, body_pair, body-some, mask_bytes}
use Rattle.evt3_run_words.proofs.put_body.Goals as goal

pub put_pair-requires : goal.put_pair-requires
put_pair-requires c =
    let a = c.args in
    let p = c.requires.0 in (
      record { low = p.low; high = p.high; few = p.few; place = omega arith },
      c.requires.1,
      omega arith,
      rw (body_pair a.p a.xs.now a.i a.end _ c.requires.1 p.high refl (omega arith)) at c.requires.3,
    )

pub returns-then-n-le2 : goal.returns-then-n-le2
returns-then-n-le2 c =
    let a = c.args in
    rw (body_pair a.p a.xs.now a.i a.end _ c.requires.1 c.requires.0.high refl (omega arith)) c.put_pair.ensures

pub put16-requires : goal.put16-requires
put16-requires c =
    let a = c.args in
    (omega arith, λ h. omega (arith, c.requires.3 h, body-some a.p a.xs.now a.i a.end _ c.requires.1 c.requires.0.high refl))

pub put_masks-requires : goal.put_masks-requires
put_masks-requires c =
    let a = c.args in
    let p = c.requires.0 in
    let x = get_or a.xs.now a.i 0 in
    let k = c.mask_count-k.result in
    let pays = sym c.vector_pays.ensures ∙ c.if-vector_pays.true in
    let both = body_vector a.p a.xs.now a.i a.end k c.requires.1 p.high c.mask_count-k.ensures (rw c.mask_count-k.ensures pays) in (
      record { low = p.low; high = p.high; few = p.few; place = p.place },
      omega (arith, c.type_inv.xs (a.end - 1), c.type_inv.xs a.i),
      rising_inc a.xs.now a.i a.end (2 ^ 16) c.requires.1 p.high (omega (arith, c.type_inv.xs (a.end - 1))) c.requires.2,
      roomy_rest a.out.now c.put16.new.out a.at (bytes word_size3 (base_word3 a.p x))
          (mask_bytes k x (between a.xs.now a.i a.end)) refl c.put16.auto.out (rw both at c.requires.3),
    )

pub returns-then-vector_pays : goal.returns-then-vector_pays
returns-then-vector_pays c =
    let a = c.args in
    let x = get_or a.xs.now a.i 0 in
    let k = c.mask_count-k.result in
    let pays = sym c.vector_pays.ensures ∙ c.if-vector_pays.true in
    let both = stored_both a.out.now a.at (bytes word_size3 (base_word3 a.p x)) (mask_bytes k x (between a.xs.now a.i a.end)) refl
    (c.put16.ensures ∙ rw c.base_word.ensures) c.put_masks.ensures.ends c.put_masks.ensures.stores in
    rw (body_vector a.p a.xs.now a.i a.end k c.requires.1 c.requires.0.high c.mask_count-k.ensures (rw c.mask_count-k.ensures pays))
    (record { ends = both.0; stores = both.1 })

pub put_singles-requires : goal.put_singles-requires
put_singles-requires c =
    let a = c.args in
    let p = c.requires.0 in (
      record { low = p.low; high = p.high; few = p.few; place = omega arith },
      rw (body-singles a.p a.xs.now a.i a.end _ c.requires.1 p.high refl
          (sym c.vector_pays.ensures ∙ c.if-vector_pays.false)) at c.requires.3,
    )

pub returns : goal.returns
returns c =
    let a = c.args in
    rw (body-singles a.p a.xs.now a.i a.end _ c.requires.1 c.requires.0.high refl (sym c.vector_pays.ensures ∙ c.if-vector_pays.false))
    c.put_singles.ensures
