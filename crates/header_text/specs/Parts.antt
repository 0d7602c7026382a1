-- Where the code parts a text: at a byte of a class, and a size at a byte that was found.
use Rattle.std.specs.Prelude.{ℕ, ◌+◌, List, Bool, take, drop}
use Rattle.std.specs.Prelude.{Option}
use Rattle.evt_types.specs.declared.SensorSize.{SensorSize}
use Rattle.header_text.specs.{declared.text.ByteClass.ByteClass, Text.is_blank, Text.not_blank, Text.not_percent, Text.not_ascii, Text.is_byte}
use Rattle.header_text.specs.{Text.trim_of, Number.number_of, Size.both}
use Rattle.header_text.specs.declared.text.ByteClass.TheVariants.{Blank, NotBlank, NotPercent, NotAscii, Byte}

abbrev pub is_in : ByteClass → ℕ → Bool
is_in Blank = is_blank
is_in NotBlank = not_blank
is_in NotPercent = not_percent
is_in NotAscii = not_ascii
is_in (Byte x) = is_byte x

-- the size of a value that parts at its byte n
unfoldable pub halves_at : ℕ → List ℕ → Option SensorSize
halves_at n s = both (number_of (trim_of (take n s))) (number_of (trim_of (drop (n + 1) s)))
