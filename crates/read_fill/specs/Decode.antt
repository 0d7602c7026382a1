-- What the bytes of a part of a recording yield from a decoder of any encoding: the events, the decoder after them, and what the loop that fills columns
-- tells.
use Rattle.std.specs.Prelude.{List, ℕ, length}
use Rattle.laws_stream.specs.{Slice.sift, Stream.decode, Stream.after}
use Rattle.evt_codec.specs.{declared.codec.Codec.Codec, Reader.Reader}
use Rattle.evt_types.specs.Event.{Event}
pub use Rattle.evt_codec.specs.Codec.{events_from, codec_after, Bounded, Able, Fitting}
use Rattle.read_columns.specs.Inside.{inside}
use Rattle.read_fill.specs.declared.FilledAll.{FilledAll}

-- events with x ≥ width or y ≥ height are dropped
abbrev pub inside_events : (width height : ℕ) → Codec → List ℕ → List Event
inside_events width height c l = sift (inside width height) (events_from c l)

abbrev pub filled_all_of : (width height : ℕ) → Codec → List ℕ → FilledAll
filled_all_of width height c l = record { count = length (inside_events width height c l); codec = codec_after c l }

-- the same from a state of one encoding's decoder
module _ (R : Reader) (width height : ℕ) (s : R.State) (l : List ℕ) where
  abbrev pub inside_words : List Event
  inside_words = sift (inside width height) (decode R.size R.machine s l)

  abbrev pub filled_words : FilledAll
  filled_words = record { count = length inside_words; codec = R.codec (after R.size R.machine s l) }
