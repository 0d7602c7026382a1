-- What decoding one word promises.
use Rattle.std.specs.Prelude.{ℕ}
use Rattle.evt3_decoder.specs.{declared.Decoder.Decoder, Evt3.step3, Evt3.vector3, Evt3.in_range3}
use Rattle.evt_types.specs.{declared.vector.Decoded.Decoded, Owed.Owed}

abbrev pub Decoded3 : Decoder → ℕ → Decoded Decoder → Type 0
Decoded3 d w r = Owed (in_range3 d) d (step3 d w) (vector3 d w) r.next r.answer
