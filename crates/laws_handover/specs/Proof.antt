-- For the proof of DEMAND 3: streams behind a front, their parts at a cut, and the decoder that is left there.
use Rattle.std.specs.Prelude.{◌≡◌, refl, ◌⊎◌, List, [], ◌++◌, ℕ, ◌+◌, ◌-◌, ◌/◌, ◌≤◌, ◌<◌, take, drop}
use Rattle.std.proofs.Common.{sym, ap, ◌∙◌, inl, arith, take-add, take_at, drop_at}
use Rattle.laws_stream.specs.Machine.{Note, All, run, words, notes}
use Rattle.laws_stream.specs.Stream.{after}
use Rattle.evt_types.specs.Event.{Event}
use Rattle.evt_codec.specs.Codec.{fresh_c, codec_after}
use Rattle.evt_types.specs.declared.{Encoding.Encoding, Encoding.TheVariants.Evt2, Encoding.TheVariants.Evt21, Encoding.TheVariants.Evt3}
use Rattle.evt_codec.specs.Reader.{reader_of}
use Rattle.write_buffer.specs.declared.EncoderState.{EncoderState}
use Rattle.write_words.specs.Encode.{encode_size}
use Rattle.write_rules.specs.{declared.RawEventSink.RawEventSink, Rules.held_state, Rules.resumed_sink}
use Rattle.write_append.specs.Rising.{Rises}
use Rattle.laws_formats.specs.Either.{StateOf, codec_of, fresh_of, ReadyOf, AgreeOf, held_agrees, regular_run}
use Rattle.laws_formats.specs.Appends.{note_bytes, Understood}
use Rattle.laws_handover.specs.Handover.{Call, stream_words, Front, front_bytes, start_of, others}
use Rattle.laws_handover.specs.Handover.{left, decoder_left, resuming, resumed_from, Typed}
use Rattle.laws_handover.specs.Cut.{broken_is}
use Rattle.laws_formats.proofs.Appends.{after-left, ready_left}
use Rattle.laws_formats.proofs.Either.{lawful_of}

-- a stream of these bytes and words, behind a front, that carries es
pub record Sent (e : Encoding) (f : Front) (bytes : List ℕ) (ws : List (Note ℕ Event)) (es : List Event) : Type 0 where
  pub worded : bytes ≡ front_bytes e f ++ note_bytes e ws
  pub noted : notes ws ≡ es
  pub typed : All (Typed e) ws
  pub rises : Rises 0 es
  pub understood : Understood e (fresh_of e) ws

-- ---- a decoder of an encoding, in the words of a codec

codec-after : (e : Encoding) (l : List ℕ) → codec_after (fresh_c e) l ≡ codec_of e (after (encode_size e) (reader_of e).machine (fresh_of e) l)
codec-after Evt2 l = refl
codec-after Evt21 l = refl
codec-after Evt3 l = refl

resumed-is : (e : Encoding) (d : StateOf e) → resumed_from (codec_of e d) ≡ resumed_sink e ((reader_of e).started d) ((reader_of e).coarse d)
resumed-is Evt2 d = refl
resumed-is Evt21 d = refl
resumed-is Evt3 d = refl

module _ (e : Encoding) where
  pub sized : 0 < encode_size e
  sized = (lawful_of e).sized

  module _ (f : Front) where
    abbrev pub front : List ℕ
    front = front_bytes e f

    abbrev pub start : ℕ
    start = start_of e f

    -- what stands of a stream is the front and the first bytes of the words
    pub stands : (n : ℕ) (body : List ℕ) → start ≤ n → take n (front ++ body) ≡ front ++ take (n - start) body
    stands n body h =
        let is : start + (n - start) ≡ n = omega arith in
        ap (λ (k : ℕ). take k (front ++ body)) (sym is) ∙ take-add start (n - start) (front ++ body)
        ∙ (λ i. take_at front body start refl i ++ take (n - start) (drop_at front body start refl i))

    -- so what stands is the front and what is left
    pub front-left : (bytes body : List ℕ) → bytes ≡ front ++ body → (cut : ℕ) → start ≤ cut
        → (take cut bytes ≡ front ++ left e f cut bytes) × (left e f cut bytes ≡ take (cut - start) body)
    front-left bytes body is cut h =
        let kept = ap (take cut) is ∙ stands cut body h in
        let rest : left e f cut bytes ≡ take (cut - start) body = ap (drop start) kept ∙ drop_at front (take (cut - start) body) start refl in
        (kept ∙ ap (λ (l : List ℕ). front ++ l) (sym rest), rest)

    -- the words of a joined stream
    abbrev pub joined_words : (cut : ℕ) → List (Note ℕ Event) → RawEventSink → (second : List Call) → List (Note ℕ Event)
    joined_words cut ws s second = take ((cut - start) / encode_size e) ws ++ stream_words s second

    module _ (bytes : List ℕ) (ws : List (Note ℕ Event)) (es : List Event) (sent : Sent e f bytes ws es) (cut : ℕ) (behind : start ≤ cut) where
      -- how many words are whole
      abbrev pub count : ℕ
      count = (cut - start) / encode_size e

      -- the decoder after them
      abbrev pub there : StateOf e
      there = run (reader_of e).machine (fresh_of e) (words (take count ws))

      pub rest-notes : others e f cut ws ≡ notes (drop count ws)
      rest-notes = broken_is (encode_size e) cut start sized ws

      pub rest-ready : ReadyOf e there (others e f cut ws)
      rest-ready = rw rest-notes (ready_left e (fresh_of e) count ws sent.understood)

      -- it is that after what is left
      pub there-is : decoder_left e f cut bytes ≡ codec_of e there
      there-is =
          let is = (front-left bytes (note_bytes e ws) sent.worded cut behind).1 in
          codec-after e (left e f cut bytes)
          ∙ ap (codec_of e) (ap (after (encode_size e) (reader_of e).machine (fresh_of e)) is ∙ after-left e (fresh_of e) (cut - start) ws sent.understood)

      pub resuming-is : resuming e f cut bytes ≡ resumed_sink e ((reader_of e).started there) ((reader_of e).coarse there)
      resuming-is = ap resumed_from there-is ∙ resumed-is e there

      -- by the writer that took loop and coarse time from the decoder
      abbrev pub held : EncoderState
      held = held_state e ((reader_of e).started there) ((reader_of e).coarse there)

      pub held-agreed : AgreeOf e held there ⊎ (others e f cut ws ≡ [])
      held-agreed = inl (held_agrees e there (regular_run e (words (take count ws))))
