-- A record of another encoding than the index's.
use Rattle.std.specs.Prelude.{Bool, not, ◌==◌}
use Rattle.evt_types.specs.declared.Encoding.{Encoding}
use Rattle.evt_types.specs.Num.{encoding_number}
use Rattle.evt_codec.specs.{declared.codec.Codec.Codec, Codec.encoding_of}

abbrev pub is_other : Codec → Encoding → Bool
is_other c e = not (encoding_number (encoding_of c) == encoding_number e)
