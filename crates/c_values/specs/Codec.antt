-- A decoder of any encoding as seven numbers, and back.
use Rattle.std.specs.Prelude.{◌≡◌, Bool, true, ◌&&◌, ℕ, ◌≤◌, min, eqb, leb}
use Rattle.std.proofs.Common.{sym, ap, arith, eqb-true, leb-true, le-leb}
use Rattle.evt_types.specs.declared.Encoding.{Encoding}
use Rattle.evt_types.specs.declared.Encoding.TheVariants as E
use Rattle.evt_codec.specs.declared.{codec.Codec.Codec, codec.Codec.TheVariants.Evt2, codec.Codec.TheVariants.Evt21, codec.Codec.TheVariants.Evt3}
use Rattle.evt2_decoder.specs.declared.Evt2Decoder.{Evt2Decoder}
use Rattle.evt21_decoder.specs.Evt21.{as2, of2}
use Rattle.evt_codec.specs.Codec.{encoding_of}
use Rattle.c_values.specs.{declared.codec.DecoderNumbers.DecoderNumbers, Flags.flag, Flags.bit, Flags.is_flag, Flags.bit-flag, Flags.bit_back}
use Rattle.c_values.specs.{Flags.flag_back, Flags.both}

-- of EVT2 and EVT2.1 the last three are 0
abbrev numbers2 : Evt2Decoder → DecoderNumbers
numbers2 d = record {
  initialised = bit d.initialised;
  time_base = d.time_high;
  time = d.time;
  high_loops = d.high_loops;
  y = 0;
  base_x = 0;
  polarity = 0;
}

abbrev pub numbers_of : Codec → DecoderNumbers
numbers_of (Evt2 d) = numbers2 d
numbers_of (Evt21 d) = numbers2 (as2 d)
numbers_of (Evt3 d) = record {
  initialised = bit d.initialised;
  time_base = d.time_base;
  time = d.time;
  high_loops = d.high_loops;
  y = d.y;
  base_x = d.base_x;
  polarity = bit d.polarity;
}

-- ---- which numbers are those of a decoder

abbrev pub place_fits : Encoding → (y x polarity : ℕ) → Bool
place_fits E.Evt2 y x polarity = eqb y 0 && (eqb x 0 && eqb polarity 0)
place_fits E.Evt21 y x polarity = eqb y 0 && (eqb x 0 && eqb polarity 0)
place_fits E.Evt3 y x polarity = leb y 65535 && (leb x 65535 && is_flag polarity)

abbrev pub is_codec : Encoding → DecoderNumbers → Bool
is_codec e n = is_flag n.initialised && place_fits e n.y n.base_x n.polarity

-- ---- and back: numbers that are no decoder's are read as some decoder

abbrev decoder2 : DecoderNumbers → Evt2Decoder
decoder2 n = record { initialised = flag n.initialised; time_high = n.time_base; time = n.time; high_loops = n.high_loops }

abbrev pub codec_of : Encoding → DecoderNumbers → Codec
codec_of E.Evt2 n = Evt2 (decoder2 n)
codec_of E.Evt21 n = Evt21 (of2 (decoder2 n))
codec_of E.Evt3 n = Evt3 (record {
  initialised = flag n.initialised;
  time_base = n.time_base;
  time = n.time;
  y = min n.y 65535;
  base_x = min n.base_x 65535;
  polarity = flag n.polarity;
  high_loops = n.high_loops;
})

-- ---- laws

-- a row and a column of 16 bits, as the decoder's fields have
abbrev pub Narrow : Codec → Type 0
Narrow (Evt2 d) = Unit
Narrow (Evt21 d) = Unit
Narrow (Evt3 d) = (d.y ≤ 65535) × (d.base_x ≤ 65535)

back2 : (d : Evt2Decoder) → decoder2 (numbers2 d) ≡ d
back2 d = λ i. record { initialised = bit_back d.initialised i; time_high = d.time_high; time = d.time; high_loops = d.high_loops }

-- a decoder as numbers loses nothing
pub codec_back : (c : Codec) → Narrow c → codec_of (encoding_of c) (numbers_of c) ≡ c
codec_back (Evt2 d) u = ap Evt2 (back2 d)
codec_back (Evt21 d) u = ap (λ (d : Evt2Decoder). Evt21 (of2 d)) (back2 (as2 d))
codec_back (Evt3 d) u =
    let row : min d.y 65535 ≡ d.y = omega (arith, u.0) in
    let column : min d.base_x 65535 ≡ d.base_x = omega (arith, u.1) in
    λ i. Evt3 (record {
      initialised = bit_back d.initialised i;
      time_base = d.time_base;
      time = d.time;
      y = row i;
      base_x = column i;
      polarity = bit_back d.polarity i;
      high_loops = d.high_loops;
    })

-- and they are a decoder's
pub codec_fits : (c : Codec) → Narrow c → is_codec (encoding_of c) (numbers_of c) ≡ true
codec_fits (Evt2 d) u = rw (bit-flag d.initialised)
codec_fits (Evt21 d) u = rw (bit-flag d.initialised)
codec_fits (Evt3 d) u = rw (bit-flag d.initialised, le-leb d.y 65535 u.0, le-leb d.base_x 65535 u.1, bit-flag d.polarity)

-- nothing else is read as that decoder
numbers_back2 : (n : DecoderNumbers) → is_codec E.Evt2 n ≡ true → numbers2 (decoder2 n) ≡ n
numbers_back2 n h =
    let started = both (is_flag n.initialised) _ h in
    let row = both (eqb n.y 0) _ started.1 in
    let rest = both (eqb n.base_x 0) _ row.1 in
    λ i. record {
      initialised = flag_back n.initialised started.0 i;
      time_base = n.time_base;
      time = n.time;
      high_loops = n.high_loops;
      y = sym (eqb-true n.y 0 row.0) i;
      base_x = sym (eqb-true n.base_x 0 rest.0) i;
      polarity = sym (eqb-true n.polarity 0 rest.1) i;
    }

pub numbers_back : (e : Encoding) (n : DecoderNumbers) → is_codec e n ≡ true → numbers_of (codec_of e n) ≡ n
numbers_back E.Evt2 n h = numbers_back2 n h
numbers_back E.Evt21 n h = numbers_back2 n h
numbers_back E.Evt3 n h =
    let started = both (is_flag n.initialised) _ h in
    let row = both (leb n.y 65535) _ started.1 in
    let rest = both (leb n.base_x 65535) _ row.1 in
    let y : min n.y 65535 ≡ n.y = omega (arith, leb-true n.y 65535 row.0) in
    let x : min n.base_x 65535 ≡ n.base_x = omega (arith, leb-true n.base_x 65535 rest.0) in
    λ i. record {
      initialised = flag_back n.initialised started.0 i;
      time_base = n.time_base;
      time = n.time;
      high_loops = n.high_loops;
      y = y i;
      base_x = x i;
      polarity = flag_back n.polarity rest.1 i;
    }
