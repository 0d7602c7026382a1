-- What the loops that count tell of the bytes of a part of a recording, from a decoder of any encoding.
use Rattle.std.specs.Prelude.{List, ℕ, ◌*◌, length}
use Rattle.laws_stream.specs.{Order.greatest, PassOver.Over, PassOver.over, Words.words_of}
use Rattle.evt_codec.specs.{declared.codec.Codec.Codec, Reader.view, Codec.word_size}
pub use Rattle.evt_codec.specs.Codec.{events_from, codec_after}
use Rattle.read_columns.specs.Inside.{inside, clock}
use Rattle.read_fill.specs.Decode.{inside_events}
use Rattle.read_count.specs.declared.{CountedAll.CountedAll, CountedTo.CountedTo}

-- the maximum time of no event is 0
abbrev pub counted_all_of : (width height : ℕ) → Codec → List ℕ → CountedAll
counted_all_of width height c l = record {
  count = length (inside_events width height c l);
  latest = greatest clock (inside_events width height c l);
  codec = codec_after c l;
}

-- whole words are passed over while their events inside number at most `most`
abbrev pub passed_as : {S : Type 0} → (size : ℕ) → (S → Codec) → Over S → CountedTo
passed_as size codec r = record { at = r.words * size; count = r.count; codec = codec r.state }

abbrev pub counted_to_of : (width height most : ℕ) → Codec → List ℕ → CountedTo
counted_to_of width height most c l =
    passed_as (word_size c) (view c).reader.codec (over (view c).reader.machine (inside width height) most (view c).state (words_of (word_size c) l))
