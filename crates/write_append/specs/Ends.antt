-- The ways in which an append ends.
use Rattle.std.specs.Prelude.{◌≡◌, refl, false, ◌||◌, List, [], ◌∷◌, ◌++◌, ℕ, suc, ◌+◌, ◌-◌, ◌^◌, ◌≤◌, ◌<◌, ltb, leb, length, get_or, ℤ, pos}
use Rattle.std.proofs.Common.{sym, ap, ◌∙◌, true≢false, arith, zero-add, length-append}
use Rattle.std.proofs.Math.Bool.{Bool, true, cond}
use borrow.Author.Tests.{le-leb, lt-leb, lt-ltb, leb-true, leb-false}
use Rattle.std.proofs.lemmas.List.Edits.{sets, sets-eq}
use Rattle.evt_types.specs.Outcome.{Outcome, refuse, give, on_outcome, given_if, given_then}
use Rattle.evt_types.specs.declared.{Encoding.Encoding, Encoding.TheVariants.Evt2, Encoding.TheVariants.Evt21, Encoding.TheVariants.Evt3, Refusal.Refusal}
use Rattle.evt_types.specs.declared.{Refusal.TheVariants.OutputTooShort}
use Rattle.write_buffer.specs.{declared.EncoderState.EncoderState, declared.Put.Put, Columns.events_in, Columns.events-length}
use Rattle.write_buffer.specs.{Storing.Roomy, Storing.roomy_rest, Storing.stored_both}
use Rattle.evt2_encoder.specs.Pass2.{Fitting2}
use Rattle.evt3_lead_words.specs.Evt3.{loop_of}
use Rattle.write_words.specs.{Laws.encode_few, Laws.most-le, Laws.ahead_times, Encode.encode_state, Encode.encode_most, Encode.passed, Encode.Fitting}
use Rattle.write_words.specs.Encode.{last_loop, Paced}
use Rattle.write_header.specs.Header.{header_text, header_few}
use Rattle.std.specs.Prelude.{Option, Some, Ok, Err}
use Rattle.write_rules.specs.{declared.RawEventSink.RawEventSink, Range.events_in_range, Rules.check_outcome, Rules.check_of, Checks.event_fine}
use Rattle.write_rules.specs.{Checks.check_given, Checks.check_refused, Checks.Checked}
use Rattle.write_append.specs.Rising.{append_rise, rises_paced}
use Rattle.write_append.specs.Append.{some, header_due, due_header, word_bytes, last_after, sends, next_sink, AppendedBytes, append_outcome}
use Rattle.write_append.specs.Append.{accepts, handed_over, sink_after, Appends, AppendOwed}

-- ---- the last time

last_is : (l : Option ℤ) (t : ℤ) (ts : List ℤ) → last_after l (t ∷ ts) ≡ Some (get_or (t ∷ ts) (length ts) (pos 0))
unfolding last_after
last_is l t [] = refl
last_is l t (u ∷ ts) = last_is (Some t) u ts

pub last_none : (l : Option ℤ) (ts : List ℤ) → length ts ≤ 0 → last_after l ts ≡ l
unfolding last_after
last_none l [] h = refl
last_none l (t ∷ ts) h = absurd (omega arith)

pub last_some : (l : Option ℤ) (ts : List ℤ) → 0 < length ts → last_after l ts ≡ Some (get_or ts (length ts - 1) (pos 0))
last_some l [] h = absurd (omega arith)
last_some l (t ∷ ts) h = let n : suc (length ts) - 1 ≡ length ts = omega arith in last_is l t ts ∙ rw n

-- ---- the outcome, by what the check says and the room

module _ (s : RawEventSink) (width height : ℕ) (xs ys : List ℕ) (ts : List ℤ) (ps : List ℕ) where
  abbrev all : List ℕ
  all = sends s width height xs ys ts ps

  abbrev own : AppendedBytes
  own = record { bytes = all; sink = next_sink s xs ys ts ps }

  abbrev judged : Outcome Unit
  judged = check_outcome s xs ys ts ps

  module _ (room : ℕ) where
    abbrev outcome : Outcome AppendedBytes
    outcome = append_outcome s width height xs ys ts ps room

    outcome_failed : (r : Refusal) → judged ≡ refuse r → outcome ≡ refuse r
    unfolding append_outcome
    outcome_failed r e = rw e

    outcome-short : judged ≡ give tt → room < length all → outcome ≡ refuse (OutputTooShort (length all))
    unfolding append_outcome
    outcome-short e h = rw (e, lt-leb (length all) room h)

    outcome-given : judged ≡ give tt → length all ≤ room → outcome ≡ give own
    unfolding append_outcome
    outcome-given e h = rw (e, le-leb (length all) room h)

    -- what is accepted has passed the check, and has room
    pub accepts_checked : accepts outcome ≡ true → (judged ≡ give tt) × (length all ≤ room)
    unfolding append_outcome
    accepts_checked h =
        let g = given outcome h in
        let k = (given_then g.0 judged _ g.1).1 in
        (k.0, leb-true (length all) room (given_if g.0 (leb (length all) room) _ _ k.1).0)
      where
        given : (o : Outcome AppendedBytes) → accepts o ≡ true → (a : AppendedBytes) × (o ≡ give a)
        given (refuse r) e = absurd (true≢false (sym e))
        given (give a) e = (a, refl)

    -- the writer after it, and its bytes, by whether it is accepted
    pub by_acceptance : (sink_after s outcome ≡ cond (accepts outcome) own.sink s) × (handed_over outcome ≡ cond (accepts outcome) all [])
    unfolding append_outcome
    by_acceptance = go judged (leb (length all) room)
      where
        ended : Outcome Unit → Bool → Outcome AppendedBytes
        ended k b = on_outcome refuse (λ u. cond b (give own) (refuse (OutputTooShort (length all)))) k

        go : (k : Outcome Unit) (b : Bool)
            → (sink_after s (ended k b) ≡ cond (accepts (ended k b)) own.sink s) × (handed_over (ended k b) ≡ cond (accepts (ended k b)) all [])
        go (refuse r) b = (refl, refl)
        go (give u) true = (refl, refl)
        go (give u) false = (refl, refl)

  module _ (out : List ℕ) where
    owes_refusal : (r : Refusal) → Appends s (refuse r) out (record { sink = s; answer = Err r }) out
    owes_refusal r = record { is_told = refl; is_answer = refl; is_sink_lem = refl; is_output = refl }

    pub ends_failed : (r : Refusal) → check_of judged ≡ Err r → AppendOwed s width height xs ys ts ps out (record { sink = s; answer = Err r }) out
    ends_failed r e = rw (outcome_failed (length out) r (check_refused judged r e)) (owes_refusal r)

    pub ends-short : (need : ℕ) → check_of judged ≡ (Ok tt) → need ≡ length all → length out < need
        → AppendOwed s width height xs ys ts ps out (record { sink = s; answer = Err (OutputTooShort need) }) out
    ends-short need e n h = rw (n, outcome-short (length out) (check_given judged e) (omega arith)) (owes_refusal (OutputTooShort (length all)))

    pub ends-written : (next : RawEventSink) (out' : List ℕ) → check_of judged ≡ (Ok tt) → length all ≤ length out
        → next ≡ next_sink s xs ys ts ps → out' ≡ sets out 0 all → (n : ℕ) → n ≡ length all
        → AppendOwed s width height xs ys ts ps out (record { sink = next; answer = Ok n }) out'
    ends-written next out' e h q o n m =
        rw (outcome-given (length out) (check_given judged e) h, m)
        (record { is_told = refl; is_answer = refl; is_sink_lem = q; is_output = o ∙ sets-eq all out 0 (omega arith) ∙ rw zero-add })

-- ---- the functions on the way

-- the writer after events that leave the encoder in `state`
abbrev pub sink_with : RawEventSink → EncoderState → List ℕ → List ℤ → RawEventSink
sink_with s state xs ts = record {
  version = s.version;
  header_written = s.header_written || some xs;
  n_events = s.n_events + length xs;
  last_t = last_after s.last_t ts;
  state = state;
}

pub some_is : {A : Type 0} (l : List A) → ltb 0 (length l) ≡ some l
some_is [] = refl
some_is (a ∷ l) = lt-ltb 0 (suc (length l)) (omega arith)

fitting2 : (xs ys : List ℕ) (ts : List ℤ) (ps : List ℕ) → events_in_range xs ys ts ps ≡ true → Fitting2 xs ys ts ps
fitting2 xs ys ts ps h i =
    let f = event_fine xs ys ts ps h i in record { fit_x = f.fine_x; fit_y = f.fine_y; fit_t = f.fine_t; fit_p = f.fine_p }

-- events that rule 7 lets pass can be written
pub fitting_of : (e : Encoding) (xs ys : List ℕ) (ts : List ℤ) (ps : List ℕ) → events_in_range xs ys ts ps ≡ true → Fitting e xs ys ts ps
fitting_of Evt2 xs ys ts ps h = fitting2 xs ys ts ps h
fitting_of Evt21 xs ys ts ps h = fitting2 xs ys ts ps h
fitting_of Evt3 xs ys ts ps h = tt

pub due_few : (b : Bool) (e : Encoding) (w h : ℕ) → w < 2 ^ 64 → h < 2 ^ 64 → length (cond b (header_text e w h) []) ≤ 96
due_few true e w h lw lh = header_few e w h lw lh
due_few false e w h lw lh = omega arith

module _ (s : RawEventSink) (width height : ℕ) (xs ys : List ℕ) (ts : List ℤ) (ps : List ℕ) where
  abbrev pub wrote : Put
  wrote = record { state = encode_state s.version s.state (events_in xs ys ts ps); at = length (sends s width height xs ys ts ps) }

  -- the header and the words, one after the other
  pub wrote_is : (out : List ℕ) {due : Bool} {at : ℕ} {o₁ o₂ : List ℕ} {put : Put} → due ≡ header_due s xs
      → at ≡ length (cond due (header_text s.version width height) []) → o₁ ≡ sets out 0 (cond due (header_text s.version width height) [])
      → put ≡ passed s.version s.state (events_in xs ys ts ps) at → o₂ ≡ sets o₁ at (word_bytes s xs ys ts ps)
      → (put ≡ wrote) × (o₂ ≡ sets out 0 (sends s width height xs ys ts ps))
  wrote_is out {due} {at} d a u q v =
      let h = cond due (header_text s.version width height) [] in
      let w = word_bytes s xs ys ts ps in
      let both = stored_both out 0 h w (a ∙ sym (zero-add (length h))) u refl v in
      let n : at + length w ≡ length (h ++ w) = both.0 ∙ zero-add (length (h ++ w)) in
      rw (← d) (q ∙ rw n, both.1)

  -- after the header the words have room where all has
  pub room-words : (out o : List ℕ) {due : Bool} {at : ℕ} → due ≡ header_due s xs → at ≡ length (cond due (header_text s.version width height) [])
      → length o ≡ length out
      → Roomy out 0 (length (sends s width height xs ys ts ps)) → Roomy o at (length (word_bytes s xs ys ts ps))
  room-words out o {due} {at} d a n r =
      let h = cond due (header_text s.version width height) [] in
      roomy_rest out o 0 h (word_bytes s xs ys ts ps) (a ∙ sym (zero-add (length h))) n (rw (← d) at r)

  -- the loops that are passed, by the times
  abbrev pub ahead : ℕ
  ahead = last_loop (loop_of s.state.time_high) ts - loop_of s.state.time_high

  -- no event is in a loop before that of the one before; what surely suffices, a header having at most 96 bytes, and no place wraps
  pub record Suffices : Type 0 where
    pub paced : Paced s.version s.state (events_in xs ys ts ps)
    pub loops : ahead ≤ 1023
    pub most : length (sends s width height xs ys ts ps) ≤ 96 + encode_most s.version (length xs) ahead
    pub few : length (sends s width height xs ys ts ps) ≤ 2 ^ 34

  pub suffices : Checked s xs ys ts ps → width < 2 ^ 64 → height < 2 ^ 64 → Suffices
  suffices k lw lh =
      let h = due_header s width height xs ys ts ps in
      let w = word_bytes s xs ys ts ps in
      let is = ahead_times s.state xs ys ts ps k.sized in
      let paced = rises_paced s (events_in xs ys ts ps) k.in_range_lem (append_rise s xs ys ts ps k) in
      let loops : ahead ≤ 1023 = rw is at paced.1 in
      let most : length (sends s width height xs ys ts ps) ≤ 96 + encode_most s.version (length xs) ahead =
      omega (
        arith,
        length-append h w,
        due_few (header_due s xs) s.version width height lw lh,
        rw is at (encode_few s.version s.state (events_in xs ys ts ps) paced.0),
        ap (λ (n : ℕ). encode_most s.version n ahead) (events-length xs ys ts ps k.sized 0),
      ) in
      record { paced = paced.0; loops = loops; most = most; few = omega (arith, most, k.sized.few, most-le s.version (length xs) ahead, loops) }

-- what is missing, or 0
pub short_fits : (n room : ℕ) → n ≤ room → 0 ≡ cond (leb n room) 0 n
short_fits n room h = rw (le-leb n room h)

pub short_lacks : (n room : ℕ) → room < n → n ≡ cond (leb n room) 0 n
short_lacks n room h = rw (lt-leb n room h)

short_as : (b : Bool) (n room r : ℕ) → leb n room ≡ b → r ≡ cond b 0 n → (r ≡ 0 → n ≤ room) × ((r ≡ 0 → ⊥) → (r ≡ n) × (room < n))
short_as true n room r q e = ((λ z. leb-true n room q), (λ z. absurd (z e)))
short_as false n room r q e = let lt = leb-false n room q in ((λ z. omega arith), (λ z. (e, lt)))

pub short_cases : (n room r : ℕ) → r ≡ cond (leb n room) 0 n → (r ≡ 0 → n ≤ room) × ((r ≡ 0 → ⊥) → (r ≡ n) × (room < n))
short_cases n room r = short_as (leb n room) n room r refl
