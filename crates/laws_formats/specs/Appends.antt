-- Appends to a writer, one after another, in either encoding: the words, the cut, the resumption, and slices by time.
-- All laws are over streams that a decoder understands, and what is left of one and resumed is such a one again.
use Rattle.std.specs.Prelude.{◌≡◌, refl, true, List, [], ◌∷◌, ◌++◌, ℕ, take, drop}
use Rattle.std.proofs.Common.{ap, subst, ◌∙◌, append-nil, lt-ltb}
use Rattle.laws_stream.specs.Machine.{Note, All, emits, words, notes, words_append, notes-append, says_take}
use Rattle.laws_stream.specs.Words.{Fits, stream, stream-append}
use Rattle.laws_stream.specs.Format.{Good}
use Rattle.laws_stream.specs.Order.{Rise}
use Rattle.evt_types.specs.{declared.Encoding.Encoding, Event.Event}
use Rattle.read_columns.specs.Inside.{inside, clock}
use Rattle.write_buffer.specs.declared.EncoderState.{EncoderState}
use Rattle.write_words.specs.{Encode.encode_notes, Encode.encode_state, Encode.encode_size, Encode.encode_bytes, Laws.encode_notes_lem}
use Rattle.laws_formats.specs.Ready.{sayable, sayable-true}
use Rattle.laws_formats.specs.Either.{StateOf, appender, ReadyOf, format_of}
use Rattle.evt_codec.specs.Reader.{reader_of}

-- all the events of some appends
abbrev pub flat : List (List Event) → List Event
flat [] = []
flat (g ∷ gs) = g ++ flat gs

-- they can be said, and no time falls
abbrev pub Orderly : Encoding → List (List Event) → Type 0
Orderly e gs = Rise clock sayable 0 (flat gs)

-- the words that a writer sends of them, each with a note of the events that it carries
abbrev pub append_notes : Encoding → EncoderState → List (List Event) → List (Note ℕ Event)
append_notes e v gs = emits (appender e) v gs

-- the bytes of some words
abbrev pub note_bytes : Encoding → List (Note ℕ Event) → List ℕ
note_bytes e ns = stream (encode_size e) (words ns)

abbrev pub append_bytes : Encoding → EncoderState → List (List Event) → List ℕ
append_bytes e v gs = note_bytes e (append_notes e v gs)

-- ---- laws

-- one append, and the others
pub bytes_next : (e : Encoding) (v : EncoderState) (g : List Event) (gs : List (List Event))
    → append_bytes e v (g ∷ gs) ≡ encode_bytes e v g ++ append_bytes e (encode_state e v g) gs
unfolding encode_bytes
bytes_next e v g gs =
    ap (stream (encode_size e)) (words_append (encode_notes e v g) (append_notes e (encode_state e v g) gs))
    ∙ stream-append (encode_size e) (words (encode_notes e v g)) (words (append_notes e (encode_state e v g) gs))

-- the notes are the events, whatever they are
pub notes-all : (e : Encoding) (v : EncoderState) (gs : List (List Event)) → notes (append_notes e v gs) ≡ flat gs
notes-all e v [] = refl
notes-all e v (g ∷ gs) = notes-append (encode_notes e v g) (append_notes e (encode_state e v g) gs) ∙ rw (encode_notes_lem e v g, notes-all e (encode_state e v g) gs)

-- what can be said lies inside 2048 by 2048
pub rise_inside : (e : Encoding) (from : ℕ) (es : List Event) → Rise clock sayable from es → All (λ a. inside 2048 2048 a ≡ true) es
rise_inside e from [] r = tt
rise_inside e from (a ∷ es) r =
    let f = sayable-true a r.0.fine in
    (rw (lt-ltb a.x 2048 f.x<, lt-ltb a.y 2048 f.y<), rise_inside e (clock a) es r.1)

module _ (e : Encoding) where
  -- ---- a stream that the decoder at d understands: it emits of each word what is noted

  abbrev pub Understood : StateOf e → List (Note ℕ Event) → Type 0
  Understood d ns = Good (format_of e) d ns []

  -- where nothing is left to be given any writer will do
  pub resumed_none : (d : StateOf e) (k : ℕ) (ns : List (Note ℕ Event)) → Understood d ns → notes (drop k ns) ≡ [] → Understood d (take k ns)
  resumed_none d k ns u h =
      subst (λ (l : List Event). Good (format_of e) d (take k ns) l) (append-nil _ ∙ h)
      (says_take (reader_of e).machine (Fits (encode_size e)) (ReadyOf e) k d ns [] u)
