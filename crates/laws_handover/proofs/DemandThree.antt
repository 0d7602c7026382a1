-- DEMAND 3, proved: what a fresh writer sends is a stream that a fresh decoder understands, so is what is left of such a stream and resumed by a writer that
-- agrees with the decoder there, as one does that took loop and coarse time from it, and all such streams are as claimed.
use Rattle.evt_codec.specs.{Codec.coarse_c, Codec.codec_after, Codec.events_from, Codec.fresh_c, Codec.in_range_c, Codec.loops_c, Reader.reader_of}
use Rattle.evt_codec.specs.{Sound.sound_of}
use Rattle.evt_types.specs.{Event.Event, Outcome.give, declared.Encoding.Encoding, declared.Encoding.TheVariants.Evt2, declared.Encoding.TheVariants.Evt21}
use Rattle.evt_types.specs.{declared.Encoding.TheVariants.Evt3}
use Rattle.header.specs.Header.{has_zero}
use Rattle.laws_formats.proofs.Appends.{cut_events, cut_past, resumed_bytes, resumed_understood, whole-events, whole-past}
use Rattle.laws_formats.specs.{Appends.Understood, Appends.append_notes, Appends.flat, Appends.note_bytes, Appends.resumed_none, Appends.rise_inside}
use Rattle.laws_formats.specs.{Either.AgreeOf, Either.ReadyOf, Either.StateOf, Either.codec_of, Either.fresh_agrees, Either.fresh_of, Either.ready_coarse}
use Rattle.laws_formats.specs.{Either.ready_first}
use Rattle.laws_handover.proofs.{Calls.fresh_rise, Calls.stream-notes, Calls.stream_typed, Calls.stream_understood, Cut.cut_parts, Cut.whole_is}
use Rattle.laws_handover.proofs.{Fronts.stream-words, Reading.exact}
use Rattle.laws_handover.specs.{Calls.groups_events, Calls.groups_of, Calls.groups_words, Fronts.front_bare, Handover.Call, Handover.Claim}
use Rattle.laws_handover.specs.{Handover.DemandThree, Handover.Exact, Handover.Front, Handover.GivenAt, Handover.InFirstLoop, Handover.IsGivenAlong}
use Rattle.laws_handover.specs.{Handover.Suits, Handover.Typed, Handover.accepted_events, Handover.bare, Handover.before_cut, Handover.decoder_left}
use Rattle.laws_handover.specs.{Handover.fresh, Handover.joined, Handover.left, Handover.others, Handover.resuming, Handover.stream_of, Handover.stream_words}
use Rattle.laws_handover.specs.{Handover.whole, Handover.widest, Headed.front_of, Proof.Sent, Proof.count, Proof.front, Proof.held, Proof.held-agreed}
use Rattle.laws_handover.specs.{Proof.joined_words, Proof.rest-notes, Proof.rest-ready, Proof.resuming-is, Proof.sized, Proof.stands, Proof.start, Proof.there}
use Rattle.laws_handover.specs.{Proof.there-is}
use Rattle.laws_stream.specs.{Machine.All, Machine.Machine, Machine.Note, Machine.Says, Machine.all-append-left, Machine.all_append, Machine.all_take}
use Rattle.laws_stream.specs.{Machine.notes, Machine.notes-append, Machine.notes_split, Slice.sift-all}
use Rattle.read_columns.specs.Inside.{inside}
use Rattle.read_select.specs.Uses.{PastOver}
use Rattle.read_window.specs.declared.Window.{Window}
use Rattle.std.proofs.Common.{ap, append-nil, append_assoc, arith, div-add-mod', inl, inr, sym, take-take, ⊎_elim, ◌∙◌}
use Rattle.std.specs.Prelude.{Bool, List, [], false, length, refl, take, true, ℕ, ◌*◌, ◌++◌, ◌+◌, ◌-◌, ◌/◌, ◌^◌, ◌∷◌, ◌≡◌, ◌≤◌, ◌⊎◌}
use Rattle.write_buffer.specs.{Sent.fresh_state, declared.EncoderState.EncoderState}
use Rattle.write_resume.specs.{Laws.resume-given, Resume.resume_outcome}
use Rattle.std.specs.Prelude.{None}
use Rattle.write_rules.specs.{Rules.fresh_sink, declared.RawEventSink.RawEventSink}
use Rattle.write_words.specs.Encode.{encode_notes, encode_size, encode_state}

suits-inside : (es : List Event) → All (λ a. inside 2048 2048 a ≡ true) es → Suits widest es
unfolding has_zero
suits-inside es h = record { no_zero = refl; is_sized = refl; keeps = sift-all (inside 2048 2048) es h }

-- what a decoder understands it gives word by word
given-along : {S : Type 0} (M : Machine S ℕ Event) (Fit : ℕ → Type 0) (Ready : S → List Event → Type 0) (d : S) (ws : List (Note ℕ Event)) (more : List Event)
    → Says M Fit Ready d ws more → IsGivenAlong M d ws
given-along M Fit Ready d [] more p = tt
given-along M Fit Ready d (w ∷ ws) more p = (p.says, given-along M Fit Ready (M.step d w.word) ws more p.rest)

given-at : (e : Encoding) (ws : List (Note ℕ Event)) → Understood e (fresh_of e) ws → GivenAt e ws
given-at e ws u = given-along (reader_of e).machine _ _ (reader_of e).fresh ws [] u

all-append-right : {A : Type 0} (P : A → Type 0) (a b : List A) → All P (a ++ b) → All P b
all-append-right P [] b h = h
all-append-right P (x ∷ a) b h = all-append-right P a b h.1

-- ---- a decoder of an encoding, in the words of a codec

loops_is : (e : Encoding) (d : StateOf e) → loops_c (codec_of e d) ≡ (reader_of e).loops d
loops_is Evt2 d = refl
loops_is Evt21 d = refl
loops_is Evt3 d = refl

coarse-is : (e : Encoding) (d : StateOf e) → coarse_c (codec_of e d) ≡ (reader_of e).coarse d
coarse-is Evt2 d = refl
coarse-is Evt21 d = refl
coarse-is Evt3 d = refl

fresh-in-range : (e : Encoding) (l : List ℕ) → length l ≤ 2 ^ 30 → in_range_c (codec_after (fresh_c e) l) ≡ true
fresh-in-range Evt2 l h = (sound_of Evt2).fresh_stays l h
fresh-in-range Evt21 l h = (sound_of Evt21).fresh_stays l h
fresh-in-range Evt3 l h = (sound_of Evt3).fresh_stays l h

-- appends without an event send nothing
none-notes : (e : Encoding) (v : EncoderState) → encode_notes e v [] ≡ []
none-notes Evt2 v = refl
none-notes Evt21 v = refl
none-notes Evt3 v = refl

none-sent : (e : Encoding) (v : EncoderState) (gs : List (List Event)) → flat gs ≡ [] → append_notes e v gs ≡ []
none-sent e v [] h = refl
none-sent e v ([] ∷ gs) h = rw (none-notes e v) (none-sent e (encode_state e v []) gs h)
none-sent e v ((a ∷ g) ∷ gs) h = absurd (omega (arith, ap length h))

module _ (e : Encoding) where
  -- of a fresh writer that sends a header or none
  module _ (header : Bool) (calls : List Call) where
    abbrev writer : RawEventSink
    writer = fresh_sink e header

    pub sent-by : (f : Front) → front_of writer calls ≡ f → Sent e f (stream_of writer calls) (stream_words writer calls) (accepted_events writer calls)
    sent-by f is = record {
      worded = rw (← is) (stream-words writer calls);
      noted = stream-notes writer calls;
      typed = stream_typed writer calls;
      rises = fresh_rise e header calls;
      understood = stream_understood e header calls;
    }

  pub fresh-sent : (calls : List Call) → Sent e bare (stream_of (fresh e) calls) (stream_words (fresh e) calls) (accepted_events (fresh e) calls)
  fresh-sent calls = sent-by false calls bare (front_bare (fresh e) calls refl)

  module _ (f : Front) where
    read : (body : List ℕ) (es : List Event) → events_from (codec_of e (fresh_of e)) body ≡ es
        → ((win : Window) → PastOver win (codec_of e (fresh_of e)) body) → Exact e f (front e f ++ body) es
    read body es h p = exact e body es h p f

    module _ (bytes : List ℕ) (ws : List (Note ℕ Event)) (es : List Event) (s : Sent e f bytes ws es) where
      -- all of it, and before a cut
      pub exact-whole : Exact e f bytes es
      exact-whole =
          rw s.worded (read (note_bytes e ws) es (whole-events e (fresh_of e) ws s.understood ∙ s.noted) (whole-past e (fresh_of e) ws s.understood))

      exact-before : (cut : ℕ) → start e f ≤ cut → Exact e f (before_cut e f cut bytes) (whole e f cut ws)
      exact-before cut behind =
          let n = cut - start e f in
          let is : whole e f cut ws ≡ notes (take (n / encode_size e) ws) = whole_is (encode_size e) cut (start e f) (sized e) ws in
          rw (s.worded, stands e f cut (note_bytes e ws) behind, is)
          (read (take n (note_bytes e ws)) (notes (take (n / encode_size e) ws)) (cut_events e (fresh_of e) ws s.understood n)
          (cut_past e (fresh_of e) ws s.understood n))

    module _ (bytes : List ℕ) (ws : List (Note ℕ Event)) (es : List Event) (sent : Sent e f bytes ws es) (cut : ℕ) (behind : start e f ≤ cut) where
      -- resumed by a writer that sends no header and agrees with the decoder, or is given nothing
      module _ (v : EncoderState) (ag : AgreeOf e v (there e f bytes ws es sent cut behind) ⊎ (others e f cut ws ≡ [])) where
        abbrev writer₂ : RawEventSink
        writer₂ = record { version = e; header_written = true; n_events = 0; last_t = None; state = v }

        module _ (second : List Call) (rest : accepted_events writer₂ second ≡ others e f cut ws) where
          understood₂ : Understood e (fresh_of e) (joined_words e f cut ws writer₂ second)
          understood₂ =
              let gs = groups_of writer₂ second in
              let given = groups_events writer₂ second ∙ rest in
              rw (groups_words writer₂ second)
              (⊎_elim
              (λ ag. resumed_understood e (fresh_of e) (count e f bytes ws es sent cut behind) ws v gs sent.understood (given ∙ rest-notes e f bytes ws es sent cut behind) ag)
              (λ none. rw (none-sent e v gs (given ∙ none), append-nil)
              (resumed_none e (fresh_of e) (count e f bytes ws es sent cut behind) ws sent.understood (sym (rest-notes e f bytes ws es sent cut behind) ∙ none)))
              ag)

          pub joined-sent : Sent e f (joined e f cut bytes writer₂ second) (joined_words e f cut ws writer₂ second) es
          joined-sent =
              let size = encode_size e in
              let n = cut - start e f in
              let end = start e f + count e f bytes ws es sent cut behind * size in
              let ms = stream_words writer₂ second in
              let added : stream_of writer₂ second ≡ note_bytes e ms = rw (front_bare writer₂ second refl) at (stream-words writer₂ second) in
              let le : end ≤ cut = omega (arith, div-add-mod' n size) in
              let back : end - start e f ≡ count e f bytes ws es sent cut behind * size = omega arith in
              let kept : take end (take cut bytes) ≡ front e f ++ take (count e f bytes ws es sent cut behind * size) (note_bytes e ws) =
              take-take end cut bytes le ∙ ap (take end) sent.worded ∙ stands e f end (note_bytes e ws) (omega arith) ∙ rw back in
              record {
                worded =
                    ap (λ (l : List ℕ). l ++ stream_of writer₂ second) kept
                    ∙ append_assoc (front e f) (take (count e f bytes ws es sent cut behind * size) (note_bytes e ws)) (stream_of writer₂ second)
                    ∙ ap (λ (l : List ℕ). front e f ++ l)
                    (ap (λ (l : List ℕ). take (count e f bytes ws es sent cut behind * size) (note_bytes e ws) ++ l) added ∙ resumed_bytes e n ws ms);
                noted =
                    rw (
                      notes-append (take (count e f bytes ws es sent cut behind) ws) ms,
                      stream-notes writer₂ second,
                      rest ∙ rest-notes e f bytes ws es sent cut behind,
                    ) (notes_split (count e f bytes ws es sent cut behind) ws ∙ sent.noted);
                typed =
                    all_append (Typed e) (take (count e f bytes ws es sent cut behind) ws) ms
                    (all_take (Typed e) (count e f bytes ws es sent cut behind) ws sent.typed) (stream_typed writer₂ second);
                rises = sent.rises;
                understood = understood₂;
              }

          exact-joined : Exact e f (joined e f cut bytes writer₂ second) es
          exact-joined = exact-whole (joined e f cut bytes writer₂ second) (joined_words e f cut ws writer₂ second) es joined-sent

      pub resumed-sent : (second : List Call) → accepted_events (resuming e f cut bytes) second ≡ others e f cut ws
          → Sent e f (joined e f cut bytes (resuming e f cut bytes) second) (joined_words e f cut ws (resuming e f cut bytes) second) es
      resumed-sent second rest =
          rw (resuming-is e f bytes ws es sent cut behind)
          (joined-sent (held e f bytes ws es sent cut behind) (held-agreed e f bytes ws es sent cut behind) second
          (rw (resuming-is e f bytes ws es sent cut behind) at rest))

      -- by a fresh one, where no loop was counted
      fresh-agreed : loops_c (decoder_left e f cut bytes) ≡ 0 → AgreeOf e fresh_state (there e f bytes ws es sent cut behind) ⊎ (others e f cut ws ≡ [])
      fresh-agreed z =
          inl (fresh_agrees e (there e f bytes ws es sent cut behind)
          (sym (loops_is e (there e f bytes ws es sent cut behind)) ∙ ap loops_c (sym (there-is e f bytes ws es sent cut behind)) ∙ z))

      -- none was, where the others are of the first
      first-agreed : (rest : List Event) → ReadyOf e (there e f bytes ws es sent cut behind) rest → InFirstLoop e rest
          → AgreeOf e fresh_state (there e f bytes ws es sent cut behind) ⊎ (rest ≡ [])
      first-agreed [] rd first = inr refl
      first-agreed (a ∷ rest) rd first = inl (fresh_agrees e (there e f bytes ws es sent cut behind) (ready_first e (there e f bytes ws es sent cut behind) a rest rd first.0))

      pub parts : whole e f cut ws ++ others e f cut ws ≡ es
      parts = cut_parts (encode_size e) cut (start e f) (sized e) ws ∙ sent.noted

      pub first-writer : InFirstLoop e es → AgreeOf e fresh_state (there e f bytes ws es sent cut behind) ⊎ (others e f cut ws ≡ [])
      first-writer first = first-agreed (others e f cut ws) (rest-ready e f bytes ws es sent cut behind) (all-append-right _ (whole e f cut ws) (others e f cut ws) (rw parts first))

      resumes : length (left e f cut bytes) ≤ 2 ^ 30 → resume_outcome (decoder_left e f cut bytes) ≡ give (resuming e f cut bytes)
      resumes few =
          resume-given (decoder_left e f cut bytes) (fresh-in-range e (left e f cut bytes) few)
          (rw (there-is e f bytes ws es sent cut behind)
          (rw (coarse-is e (there e f bytes ws es sent cut behind))
          (ready_coarse e (there e f bytes ws es sent cut behind) (others e f cut ws) (rest-ready e f bytes ws es sent cut behind)).0))

      pub claim : Claim e f bytes ws es cut
      claim =
          let all = rise_inside e 0 es sent.rises in
          record {
            worded = sent.worded;
            noted = sent.noted;
            typed = sent.typed;
            given = given-at e ws sent.understood;
            parted = parts;
            whole_suits = suits-inside (whole e f cut ws) (all-append-left _ (whole e f cut ws) (others e f cut ws) (rw parts all));
            all_suits = suits-inside es all;
            of_cut = exact-before bytes ws es sent cut behind;
            resumes = resumes;
            of_joined = λ second rest.
                let s = resuming e f cut bytes in
                exact-whole (joined e f cut bytes s second) (joined_words e f cut ws s second) es (resumed-sent second rest);
            of_joined-fresh = λ none second rest. exact-joined fresh_state (fresh-agreed none) second rest;
            of_joined-first = λ first second rest. exact-joined fresh_state (first-writer first) second rest;
          }

pub demand-three : DemandThree
demand-three e calls cut h =
    claim e bare (stream_of (fresh e) calls) (stream_words (fresh e) calls) (accepted_events (fresh e) calls) (fresh-sent e calls) cut (omega arith)
