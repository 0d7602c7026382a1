-- Sizes as the header writes them.
use Rattle.std.specs.Prelude.{ℕ, List, cond}
use Rattle.std.specs.Prelude.{Option, Some, None}
use Rattle.evt_types.specs.declared.SensorSize.{SensorSize}
use Rattle.header_text.specs.Text.{is_byte, up_to, from, any, rest_of, trim_of}
use Rattle.header_text.specs.Number.{number_of}

-- a size, if both are numbers
unfoldable pub both : Option ℕ → Option ℕ → Option SensorSize
both None h = None
both (Some w) None = None
both (Some w) (Some h) = Some (record { width = w; height = h })

-- the size that a value gives which parts at its first byte c: its trimmed halves, if they are numbers, and else none
unfoldable pub size_at : ℕ → List ℕ → Option SensorSize
size_at c s = both (number_of (trim_of (up_to (is_byte c) s))) (number_of (trim_of (rest_of (from (is_byte c) s))))

-- the size after a `geometry` line with the value s: parted at the first `x`, or without one at the first `X`, or else as it was
unfoldable pub geometry_of : List ℕ → Option SensorSize → Option SensorSize
geometry_of s old = cond (any (is_byte 120) s) (size_at 120 s) (cond (any (is_byte 88) s) (size_at 88 s) old)
