-- Between numbers and the library's own decoders nothing is lost, and nothing else is read as one of them.
use Rattle.std.specs.Prelude.{◌≡◌, refl, true, ℕ}
use Rattle.std.proofs.Common.{sym, ap, ◌∙◌}
use Rattle.evt_types.specs.declared.{Encoding.Encoding, Encoding.TheVariants.Evt2, Encoding.TheVariants.Evt21, Encoding.TheVariants.Evt3}
use Rattle.evt_types.specs.{Num.encoding_number}
use Rattle.evt_codec.specs.{declared.codec.Codec.Codec, Codec.fresh_c, Codec.encoding_of as codec_encoding}
use Rattle.c_values.specs.{Codec.numbers_of, Codec.codec_of, Codec.Narrow, Codec.codec_back, Codec.codec_fits, Codec.numbers_back, Encoding.is_known}
use Rattle.c_values.specs.{Encoding.encoding_of, Encoding.number_known, Encoding.encoding_back, Encoding.number_back}
use Rattle.c_values.specs.{Flags.both}
use Rattle.c_decoder.specs.{declared.decoder.PropheseeDecoder.PropheseeDecoder, Decoder.numbers_in, Decoder.is_decoder, Decoder.codec_in}
use Rattle.c_decoder.specs.{Decoder.decoder_by, Decoder.decoder_of, Decoder.new_decoder}

-- a decoder as numbers loses nothing
pub decoder_back : (c : Codec) → Narrow c → codec_in (decoder_of c) ≡ c
decoder_back c u = ap (λ (e : Encoding). codec_of e (numbers_of c)) (encoding_back (codec_encoding c)) ∙ codec_back c u

-- and they are a decoder's
pub decoder_fits : (c : Codec) → Narrow c → is_decoder (decoder_of c) ≡ true
decoder_fits c u = rw (number_known (codec_encoding c), encoding_back (codec_encoding c)) (codec_fits c u)

-- nothing else is read as that decoder
pub decoder_numbers : (d : PropheseeDecoder) → is_decoder d ≡ true → decoder_of (codec_in d) ≡ d
decoder_numbers d h =
    let parts = both (is_known d.encoding) _ h in
    let number : encoding_number (codec_encoding (codec_in d)) ≡ d.encoding =
    ap encoding_number (encoding_in (encoding_of d.encoding)) ∙ number_back d.encoding parts.0 in
    λ i. decoder_by (number i) (numbers_back (encoding_of d.encoding) (numbers_in d) parts.1 i)
  where
    encoding_in : (e : Encoding) → codec_encoding (codec_of e (numbers_in d)) ≡ e
    encoding_in Evt2 = refl
    encoding_in Evt21 = refl
    encoding_in Evt3 = refl

-- of a known encoding, a fresh decoder is the library's
pub decoder_fresh : (n : ℕ) → is_known n ≡ true → new_decoder n ≡ decoder_of (fresh_c (encoding_of n))
decoder_fresh n h = ap new_decoder (sym (number_back n h)) ∙ go (encoding_of n)
  where
    go : (e : Encoding) → new_decoder (encoding_number e) ≡ decoder_of (fresh_c e)
    go Evt2 = refl
    go Evt21 = refl
    go Evt3 = refl
