-- What the small functions on numbers tell, and the bounds that every crate shares.
use Rattle.std.specs.Prelude.{Bool, ◌&&◌, ℕ, ◌^◌, ltb, ℤ, pos, negsuc}
use Rattle.evt_types.specs.declared.{Encoding.Encoding, Encoding.TheVariants.Evt2, Encoding.TheVariants.Evt21, Encoding.TheVariants.Evt3}

-- more bytes than this aren't read (4)
abbrev pub most_bytes : ℕ
most_bytes = 2 ^ 30

-- an encoding's number
abbrev pub encoding_number : Encoding → ℕ
encoding_number Evt2 = 2
encoding_number Evt21 = 21
encoding_number Evt3 = 3

-- inside a sensor of width x height
abbrev pub is_inside : (width height x y : ℕ) → Bool
is_inside width height x y = ltb x width && ltb y height

-- a time as a natural number: 0 where it is negative
abbrev pub natural : ℤ → ℕ
natural (pos n) = n
natural (negsuc n) = 0
