-- Lists of appends to one writer, whatever writer they start from: what is sent is the words of the accepted events, and these are in order.
use Rattle.std.specs.Prelude.{◌≡◌, refl, Bool, true, false, cond, List, [], ◌∷◌, ◌++◌, ℕ}
use Rattle.std.proofs.Common.{ap}
use Rattle.laws_stream.specs.{Machine.Note, Order.last_of, Order.rise_append}
use Rattle.evt_types.specs.Event.{Event}
use Rattle.write_buffer.specs.Columns.{events_in}
use Rattle.write_words.specs.Encode.{encode_notes}
use Rattle.laws_formats.specs.Appends.{flat, append_notes}
use Rattle.write_rules.specs.{declared.RawEventSink.RawEventSink, Range.sink_not_before, Checks.Checked}
use Rattle.write_append.specs.{Append.sends, Append.next_sink, Ends.accepts_checked, Ends.by_acceptance, Rising.clock, Rising.in_bounds, Rising.Rises}
use Rattle.write_append.specs.Rising.{earliest, append_rise}
use Rattle.laws_handover.specs.Handover.{Call, is_accepted, next, call_bytes, accepted_events, stream_words}
use Rattle.write_rules.proofs.ChecksLaws.{checked_of}
use Rattle.write_append.proofs.RisingLaws.{append-last}

-- ---- what an append that is refused, and one that is accepted, comes to

module _ (s : RawEventSink) (c : Call) where
  abbrev pub columns : List Event
  columns = events_in c.xs c.ys c.ts c.ps

  abbrev pub later : RawEventSink
  later = next_sink s c.xs c.ys c.ts c.ps

  abbrev pub bytes : List ℕ
  bytes = sends s c.width c.height c.xs c.ys c.ts c.ps

  -- the writer after it, and its bytes, by whether it is accepted
  pub by_call : (next s c ≡ cond (is_accepted s c) later s) × (call_bytes s c ≡ cond (is_accepted s c) bytes [])
  by_call = by_acceptance s c.width c.height c.xs c.ys c.ts c.ps c.room

  pub accepted_checked : is_accepted s c ≡ true → Checked s c.xs c.ys c.ts c.ps
  accepted_checked h = checked_of s c.xs c.ys c.ts c.ps (accepts_checked s c.width c.height c.xs c.ys c.ts c.ps c.room h).0

-- ---- the accepted appends as groups of events

abbrev pub groups_of : RawEventSink → List Call → List (List Event)
groups_of s [] = []
groups_of s (c ∷ cs) = cond (is_accepted s c) (columns s c ∷ []) [] ++ groups_of (next s c) cs

groups_go : (b : Bool) (s : RawEventSink) (c : Call) (cs : List Call) → ((u : RawEventSink) → flat (groups_of u cs) ≡ accepted_events u cs)
    → flat (cond b (columns s c ∷ []) [] ++ groups_of (cond b (later s c) s) cs) ≡ cond b (columns s c) [] ++ accepted_events (cond b (later s c) s) cs
groups_go true s c cs ih = ap (λ (l : List Event). columns s c ++ l) (ih (later s c))
groups_go false s c cs ih = ih s

pub groups_events : (s : RawEventSink) (cs : List Call) → flat (groups_of s cs) ≡ accepted_events s cs
groups_events s [] = refl
groups_events s (c ∷ cs) = rw (by_call s c).0 (groups_go (is_accepted s c) s c cs (λ u. groups_events u cs))

-- their words
words_go : (b : Bool) (s : RawEventSink) (c : Call) (cs : List Call)
    → ((u : RawEventSink) → stream_words u cs ≡ append_notes u.version u.state (groups_of u cs))
    → cond b (encode_notes s.version s.state (columns s c)) [] ++ stream_words (cond b (later s c) s) cs
    ≡ append_notes s.version s.state (cond b (columns s c ∷ []) [] ++ groups_of (cond b (later s c) s) cs)
words_go true s c cs ih = ap (λ (l : List (Note ℕ Event)). encode_notes s.version s.state (columns s c) ++ l) (ih (later s c))
words_go false s c cs ih = ih s

pub groups_words : (s : RawEventSink) (cs : List Call) → stream_words s cs ≡ append_notes s.version s.state (groups_of s cs)
groups_words s [] = refl
groups_words s (c ∷ cs) = rw (by_call s c).0 (words_go (is_accepted s c) s c cs (λ u. groups_words u cs))

-- ---- the accepted events can be said, and their times never fall

call_rise : (s : RawEventSink) (c : Call) → is_accepted s c ≡ true
    → Rises (earliest (sink_not_before s)) (columns s c)
    × (earliest (sink_not_before (later s c)) ≡ last_of clock in_bounds (earliest (sink_not_before s)) (columns s c))
call_rise s c h =
    let k = accepted_checked s c h in
    (append_rise s c.xs c.ys c.ts c.ps k, append-last s c.xs c.ys c.ts c.ps k)

rise_go : (b : Bool) (s : RawEventSink) (c : Call) (cs : List Call) → is_accepted s c ≡ b
    → ((u : RawEventSink) → Rises (earliest (sink_not_before u)) (accepted_events u cs))
    → Rises (earliest (sink_not_before s)) (cond b (columns s c) [] ++ accepted_events (cond b (later s c) s) cs)
rise_go true s c cs h ih =
    let r = call_rise s c h in
    rise_append clock in_bounds (earliest (sink_not_before s)) (columns s c) (accepted_events (later s c) cs) r.0
    (rw (← r.1) (ih (later s c)))
rise_go false s c cs h ih = ih s

-- they begin no earlier than the writer may
pub accepted_rise : (s : RawEventSink) (cs : List Call) → Rises (earliest (sink_not_before s)) (accepted_events s cs)
accepted_rise s [] = tt
accepted_rise s (c ∷ cs) = rw (by_call s c).0 (rise_go (is_accepted s c) s c cs refl (λ u. accepted_rise u cs))
