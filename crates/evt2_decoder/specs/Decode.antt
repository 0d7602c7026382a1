-- What decoding one word promises.
use Rattle.std.specs.Prelude.{ℕ}
use Rattle.evt2_decoder.specs.{declared.Evt2Decoder.Evt2Decoder, Evt2.step2, Evt2.vector2, Evt2.in_range2}
use Rattle.evt_types.specs.{declared.vector.Decoded.Decoded, Owed.Owed}

abbrev pub Decoded2 : Evt2Decoder → ℕ → Decoded Evt2Decoder → Type 0
Decoded2 d w r = Owed (in_range2 d) d (step2 d w) (vector2 d w) r.next r.answer
