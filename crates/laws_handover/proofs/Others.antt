-- A SECOND LIST EXISTS, proved: events that can be said, with times that never fall, are all accepted by a fresh writer, one an append.
use Rattle.evt_codec.specs.Reader.{reader_of}
use Rattle.evt_types.specs.{Event.Event, declared.Encoding.Encoding, declared.Encoding.TheVariants.Evt2, declared.Encoding.TheVariants.Evt21}
use Rattle.evt_types.specs.{declared.Encoding.TheVariants.Evt3}
use Rattle.laws_formats.proofs.Either.{lawful_of}
use Rattle.laws_formats.specs.{Appends.note_bytes, Either.ready_coarse, Either.ready_rises}
use Rattle.laws_handover.proofs.DemandThree.{claim, sent-by}
use Rattle.laws_handover.specs.{Calls.by_call, Fronts.front_bare, Handover.Call, Handover.Claim, Handover.Exact, Handover.Front, Handover.Resumable}
use Rattle.laws_handover.specs.{Handover.Resumables, Handover.SecondListExists, Handover.accepted_events, Handover.bare, Handover.call_bytes, Handover.fresh}
use Rattle.laws_handover.specs.{Handover.is_accepted, Handover.joined, Handover.next, Handover.others_of, Handover.resuming, Handover.single, Handover.singles}
use Rattle.laws_handover.specs.{Handover.start_of, Handover.stream_of, Handover.stream_words, Handover.whole, Headed.front_of, Proof.Sent, Proof.rest-ready}
use Rattle.laws_handover.specs.{Proof.resuming-is, Proof.there}
use Rattle.laws_stream.specs.{Machine.Note, Machine.and_both, Machine.notes, Order.Fine, Order.rise_from, Order.rise_suffix, Words.bytes as word_bytes}
use Rattle.laws_stream.specs.{Words.length-bytes}
use Rattle.std.proofs.Common.{ap, arith, length-append, ◌∙◌}
use Rattle.std.specs.Prelude.{Bool, List, [], false, leb, length, min, negsuc, pos, refl, true, ℕ, ◌*◌, ◌++◌, ◌+◌, ◌/◌, ◌<◌, ◌^◌, ◌∷◌, ◌≡◌, ◌≤◌}
use Rattle.write_append.proofs.KeptLaws.{range_kept}
use Rattle.write_append.specs.{Append.append_outcome, Append.last_after, Append.next_sink, Rising.Rises, Rising.clock, Rising.earliest, Rising.in_bounds}
use Rattle.write_append.specs.{Rising.rises_paced}
use Rattle.write_buffer.specs.{Sent.fresh_state, declared.EncoderState.EncoderState}
use Rattle.write_rules.specs.{Range.every, Range.falls, Range.falls_after, Range.grain_of, Range.sink_in_range, Range.sink_not_before, Range.time_bound}
use Rattle.std.specs.Prelude.{Option, Some, None}
use Rattle.std.specs.Prelude.{ℤ}
use Rattle.write_rules.specs.{Rules.fresh_sink, Rules.held_state, Rules.resumed_sink}
use Rattle.write_rules.specs.{declared.RawEventSink.RawEventSink}
use Rattle.write_words.specs.{Encode.encode_bytes, Encode.encode_most, Encode.encode_notes, Encode.encode_size, Laws.encode_few, Laws.encode_notes_lem}
use borrow.Author.Tests.{le-leb, le-ltb, lt-ltb}

-- words that carry an event are some bytes
some_bytes : (e : Encoding) (a : Event) (ns : List (Note ℕ Event)) → notes ns ≡ a ∷ [] → 0 < length (note_bytes e ns)
some_bytes e a [] h = absurd (omega (arith, ap length h))
some_bytes e a (w ∷ ws) h =
    let size = encode_size e in
    omega (arith, length-append (word_bytes size w.word) (note_bytes e ws), length-bytes size w.word, (lawful_of e).sized)

-- the most bytes of one event, as many loops as it may pass
most_rises : (e : Encoding) (n : ℕ) {k : ℕ} → k ≤ 1023 → encode_most e n k ≤ encode_most e n 1023
most_rises Evt2 n h = omega arith
most_rises Evt21 n h = omega arith
most_rises Evt3 n h = omega arith

-- ---- one append

not_fallen : (l : Option ℤ) (t : ℕ) → earliest l ≤ t → falls_after l (pos t ∷ []) ≡ false
unfolding falls
not_fallen None t h = refl
not_fallen (Some (pos n)) t h = rw (le-ltb t n h)
not_fallen (Some (negsuc n)) t h = refl

-- its words, and the writer after it
abbrev sent : RawEventSink → Event → List ℕ
sent s a = encode_bytes s.version s.state (a ∷ [])

abbrev later : RawEventSink → Event → RawEventSink
later s a = let c = single s.version a in next_sink s c.xs c.ys c.ts c.ps

module _ (s : RawEventSink) (a : Event) (written : s.header_written ≡ true) (in_range_lem : sink_in_range s ≡ true)
    (fine : Fine clock in_bounds (earliest (sink_not_before s)) a) where
  abbrev c : Call
  c = single s.version a

  few : length (sent s a) ≤ c.room
  few =
      let p = rises_paced s (a ∷ []) in_range_lem (fine, tt) in
      omega (arith, encode_few s.version s.state (a ∷ []) p.0, most_rises s.version 1 p.1)

  one-accepted : is_accepted s c ≡ true
  unfolding append_outcome every
  one-accepted =
      let x = and_both (leb a.x 2047) _ fine.fine in
      let y = and_both (leb a.y 2047) _ x.1 in
      let p = and_both (leb a.p 1) _ y.1 in
      rw (in_range_lem, not_fallen (sink_not_before s) a.t fine.rises, x.0, y.0, p.0, p.1, written, le-leb (length (sent s a)) c.room few)

  ends : (next s c ≡ later s a) × (call_bytes s c ≡ sent s a)
  ends = let e = by_call s c in (e.0 ∙ rw one-accepted, e.1 ∙ rw (one-accepted, written))

  some-sent : 0 < length (sent s a)
  unfolding encode_bytes
  some-sent = some_bytes s.version a (encode_notes s.version s.state (a ∷ [])) (encode_notes_lem s.version s.state (a ∷ []))

-- ---- ONE AN APPEND: a bound on the events, or on their bytes, keeps the count in range

singles-all : (s : RawEventSink) (es : List Event) → s.header_written ≡ true → sink_in_range s ≡ true → Rises (earliest (sink_not_before s)) es
    → s.n_events + min (length es) (length (stream_of s (singles s.version es))) ≤ 2 ^ 62 → accepted_events s (singles s.version es) ≡ es
unfolding last_after
singles-all s [] written in_range_lem rise few = refl
singles-all s (a ∷ es) written in_range_lem rise few =
    let c = single s.version a in
    let ok = one-accepted s a written in_range_lem rise.0 in
    let end = ends s a written in_range_lem rise.0 in
    let some = some-sent s a written in_range_lem rise.0 in
    let all : length (stream_of s (singles s.version (a ∷ es))) ≡ length (sent s a) + length (stream_of (later s a) (singles s.version es)) =
    (λ i. length (end.1 i ++ stream_of (end.0 i) (singles s.version es))) ∙ length-append (sent s a) (stream_of (later s a) (singles s.version es)) in
    let kept = rw end.0 at (range_kept s c.width c.height c.xs c.ys c.ts c.ps c.room ok (omega arith)) in
    rw (ok, end.0, singles-all (later s a) es (rw written) kept rise.1 (omega arith))

-- ---- the writer that resumes

held_half : (e : Encoding) (started : Bool) (coarse : ℕ) → coarse < time_bound
    → (sink_in_range (resumed_sink e started coarse) ≡ true) × (earliest (sink_not_before (resumed_sink e started coarse)) ≤ coarse)
held_half e false coarse h = (refl, omega arith)
held_half Evt2 true coarse h = (rw (lt-ltb (coarse / grain_of Evt2 * grain_of Evt2) time_bound (omega arith)), omega arith)
held_half Evt21 true coarse h = (rw (lt-ltb (coarse / grain_of Evt21 * grain_of Evt21) time_bound (omega arith)), omega arith)
held_half Evt3 true coarse h = (rw (lt-ltb (coarse / grain_of Evt3 * grain_of Evt3) time_bound (omega arith)), omega arith)

-- THE OTHERS, after any cut of what a fresh writer, of a header or of none, sent behind a front
module _ (e : Encoding) (f : Front) (header : Bool) (calls : List Call) (is : front_of (fresh_sink e header) calls ≡ f) (cut : ℕ) (behind : start_of e f ≤ cut)
  where
    abbrev s : RawEventSink
    s = fresh_sink e header

    abbrev bytes : List ℕ
    bytes = stream_of s calls

    abbrev ws : List (Note ℕ Event)
    ws = stream_words s calls

    abbrev left : List Event
    left = others_of e f s calls cut

    all-sent : Sent e f bytes ws (accepted_events s calls)
    all-sent = sent-by e header calls f is

    own : Claim e f bytes ws (accepted_events s calls) cut
    own = claim e f bytes ws (accepted_events s calls) all-sent cut behind

    left_rise : Rises 0 left
    left_rise = rise_suffix clock in_bounds 0 (whole e f cut ws) left (rw own.parted all-sent.rises)

    -- by a writer that sends no header
    module _ (v : EncoderState) where
      abbrev writer : RawEventSink
      writer = record { version = e; header_written = true; n_events = 0; last_t = None; state = v }

      by_writer : sink_in_range writer ≡ true → Rises (earliest (sink_not_before writer)) left
          → ((second : List Call) → accepted_events writer second ≡ left → Exact e f (joined e f cut bytes writer second) (accepted_events s calls))
          → Resumable e f s calls cut writer
      by_writer in_range_lem rise exact =
          let all = singles-all writer left refl in_range_lem rise in
          record {
            accepted = λ few. all (omega arith);
            exact = λ few. exact (singles e left) (all (omega (arith, rw length-append at few))) few;
          }

    resumed : Resumable e f s calls cut (resuming e f cut bytes)
    resumed =
        let d = there e f bytes ws (accepted_events s calls) all-sent cut behind in
        let r = resuming-is e f bytes ws (accepted_events s calls) all-sent cut behind in
        let rd = rest-ready e f bytes ws (accepted_events s calls) all-sent cut behind in
        let c = ready_coarse e d left rd in
        let half = held_half e ((reader_of e).started d) ((reader_of e).coarse d) c.0 in
        rw r (by_writer (held_state e ((reader_of e).started d) ((reader_of e).coarse d)) half.0
        (rise_from clock in_bounds _ ((reader_of e).time d) left (omega (arith, half.1, c.1)) (ready_rises e d left rd))
        (rw r at own.of_joined))

    pub resumables : Resumables e f s calls cut
    resumables = record { resumed = resumed; first = λ first. by_writer fresh_state refl left_rise (own.of_joined-first first) }

pub second_list : SecondListExists
second_list e calls cut = resumables e bare false calls (front_bare (fresh e) calls refl) cut (omega arith)
