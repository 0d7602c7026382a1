-- Laws of specs/Appends.antt.
use Rattle.evt_codec.specs.{Codec.events_from, Reader.reader_of}
use Rattle.evt_types.specs.{Event.Event, declared.Encoding.Encoding}
use Rattle.laws_formats.proofs.Either.{lawful_of}
use Rattle.laws_formats.specs.{Appends.Orderly, Appends.Understood, Appends.append_notes, Appends.flat, Appends.note_bytes, Either.AgreeOf, Either.ReadyOf}
use Rattle.laws_formats.specs.{Either.StateOf, Either.appender, Either.codec_of, Either.events_are, Either.format_of, Either.fresh_of, Either.fresh_ready}
use Rattle.laws_formats.specs.{Either.past-over, Either.ready_ahead}
use Rattle.laws_stream.proofs.{StreamLaws.decode-whole, StreamLaws.decode_cut, StreamLaws.good_timed, WordsLaws.words_of-take}
use Rattle.laws_stream.specs.{Format.Format, Format.Good, Format.Lawful, Format.givens, Format.ready_after, Format.resumes, Format.writes, Machine.All}
use Rattle.laws_stream.specs.{Machine.Note, Machine.all_of, Machine.notes, Machine.run, Machine.says_fits, Machine.says_take, Machine.words, Machine.words_take}
use Rattle.laws_stream.specs.{Slice.Past, Slice.over_time, Slice.reached, Slice.says_past, Slice.within, Stream.after, Stream.bytes_resumed, Stream.noted_bytes}
use Rattle.laws_stream.specs.{Words.Fits, Words.words_of}
use Rattle.read_columns.specs.Inside.{clock}
use Rattle.read_select.specs.Uses.{PastOver}
use Rattle.read_window.specs.declared.Window.{Window}
use Rattle.std.proofs.Common.{ap, append-nil, sym, ◌∙◌}
use Rattle.std.specs.Prelude.{Bool, List, [], drop, refl, take, true, ℕ, ◌*◌, ◌++◌, ◌/◌, ◌∷◌, ◌≡◌, ◌≤◌}
use Rattle.write_buffer.specs.{Sent.fresh_state, declared.EncoderState.EncoderState}
use Rattle.write_words.specs.Encode.{encode_size}

-- ---- laws

-- what is cut off comes after the rest, so the first c bytes can be sliced too
module _ {S Q I E : Type 0} (F : Format S Q I E) (L : Lawful F) (live : S → Bool) (time : S → ℕ) (clock : E → ℕ)
    (ahead : (s : S) (es : List E) → F.Ready s es → live s ≡ true → All (λ e. time s ≤ clock e) es) where
  cut_timed : (t₀ t₁ : ℕ) (s : S) (ns : List (Note ℕ E)) → Good F s ns [] → (c : ℕ)
      → Past F.reader (within clock t₀ t₁) (reached live time t₁) s (words_of F.size (take c (noted_bytes F L ns)))
  cut_timed t₀ t₁ s ns g c =
      let k = c / F.size in
      rw (words_of-take F.size L.sized c (words ns) (says_fits F.reader (Fits F.size) F.Ready s ns [] g), ← words_take k ns)
      (says_past F.reader (within clock t₀ t₁) (reached live time t₁) (Fits F.size) F.Ready
      (λ s es rd d. over_time live time t₁ clock t₀ s es (ahead s es rd) d)
      s (take k ns) (notes (drop k ns) ++ []) (says_take F.reader (Fits F.size) F.Ready k s ns [] g))

module _ (e : Encoding) where
  given-all : (gs : List (List Event)) → givens (format_of e) gs ≡ flat gs
  given-all [] = refl
  given-all (g ∷ gs) = rw (given-all gs)

  valid : (gs : List (List Event)) → All (format_of e).Valid gs
  valid gs = all_of _ (λ g. tt) gs

  -- ---- a stream that the decoder at d understands: it emits of each word what is noted

  -- FROM ANY WRITER that agrees with the decoder, which is ready for the events; they agree after it
  pub sent_understood : (d : StateOf e) (v : EncoderState) (gs : List (List Event)) → AgreeOf e v d → ReadyOf e d (flat gs)
      → Understood e d (append_notes e v gs) × AgreeOf e (run (appender e) v gs) (run (reader_of e).machine d (words (append_notes e v gs)))
  sent_understood d v gs agree ready = writes (format_of e) (lawful_of e) v d gs [] (valid gs) agree (rw (append-nil, given-all) ready)

  -- FROM A FRESH WRITER to a fresh decoder
  pub fresh_understood : (gs : List (List Event)) → Orderly e gs → Understood e (fresh_of e) (append_notes e fresh_state gs)
  fresh_understood gs o = (sent_understood (fresh_of e) fresh_state gs (lawful_of e).starts (fresh_ready e (flat gs) o)).0

  -- THE RESUMPTION: after k words, by a writer that agrees with the decoder there and is given what was noted of the others
  pub resumed_understood : (d : StateOf e) (k : ℕ) (ns : List (Note ℕ Event)) (v : EncoderState) (gs : List (List Event)) → Understood e d ns
      → flat gs ≡ notes (drop k ns) → AgreeOf e v (run (reader_of e).machine d (words (take k ns))) → Understood e d (take k ns ++ append_notes e v gs)
  resumed_understood d k ns v gs u h ag = resumes (format_of e) (lawful_of e) k d ns v gs [] (valid gs) u (given-all gs ∙ h) ag

  -- the decoder there is ready for them
  pub ready_left : (d : StateOf e) (k : ℕ) (ns : List (Note ℕ Event)) → Understood e d ns
      → ReadyOf e (run (reader_of e).machine d (words (take k ns))) (notes (drop k ns))
  ready_left d k ns u = rw append-nil at (ready_after (format_of e) (lawful_of e) k d ns [] u)

  -- it is the decoder after the bytes that are left
  pub after-left : (d : StateOf e) (c : ℕ) (ns : List (Note ℕ Event)) → Understood e d ns
      → after (encode_size e) (reader_of e).machine d (take c (note_bytes e ns)) ≡ run (reader_of e).machine d (words (take (c / encode_size e) ns))
  after-left d c ns u =
      ap (run (reader_of e).machine d)
      (words_of-take (encode_size e) (lawful_of e).sized c (words ns) (says_fits (reader_of e).machine (Fits (encode_size e)) (ReadyOf e) d ns [] u)
      ∙ sym (words_take (c / encode_size e) ns))

  pub resumed_bytes : (c : ℕ) (ns ms : List (Note ℕ Event))
      → take (c / encode_size e * encode_size e) (note_bytes e ns) ++ note_bytes e ms ≡ note_bytes e (take (c / encode_size e) ns ++ ms)
  resumed_bytes c ns ms = bytes_resumed (format_of e) (lawful_of e) c ns ms

  module _ (d : StateOf e) (ns : List (Note ℕ Event)) (understood : Understood e d ns) where
    -- all of it
    pub whole-events : events_from (codec_of e d) (note_bytes e ns) ≡ notes ns
    whole-events = events_are e d (note_bytes e ns) ∙ decode-whole (format_of e) (lawful_of e) d ns understood

    pub whole-past : (win : Window) → PastOver win (codec_of e d) (note_bytes e ns)
    whole-past win =
        past-over e win d (note_bytes e ns)
        (good_timed (format_of e) (lawful_of e) (reader_of e).started (reader_of e).time clock (λ d es rd l. ready_ahead e d es rd) win.t0 win.t1
        d ns understood)

    -- THE CUT: of the first c bytes, the events whose words lie whole within them
    pub cut_events : (c : ℕ) → events_from (codec_of e d) (take c (note_bytes e ns)) ≡ notes (take (c / encode_size e) ns)
    cut_events c = events_are e d (take c (note_bytes e ns)) ∙ decode_cut (format_of e) (lawful_of e) d ns understood c

    pub cut_past : (c : ℕ) (win : Window) → PastOver win (codec_of e d) (take c (note_bytes e ns))
    cut_past c win =
        past-over e win d (take c (note_bytes e ns))
        (cut_timed (format_of e) (lawful_of e) (reader_of e).started (reader_of e).time clock (λ d es rd l. ready_ahead e d es rd) win.t0 win.t1
        d ns understood c)
