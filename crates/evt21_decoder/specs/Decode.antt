-- What decoding one word promises.
use Rattle.std.specs.Prelude.{ℕ}
use Rattle.evt21_decoder.specs.{declared.Evt21Decoder.Evt21Decoder, Evt21.step21, Evt21.vector21, Evt21.in_range21}
use Rattle.evt_types.specs.{declared.vector.Decoded.Decoded, Owed.Owed}

abbrev pub Decoded21 : Evt21Decoder → ℕ → Decoded Evt21Decoder → Type 0
Decoded21 d w r = Owed (in_range21 d) d (step21 d w) (vector21 d w) r.next r.answer
