-- What a list sends: a header with the first accepted append that has an event, if one is due, and then the words of the accepted appends.
use Rattle.std.specs.Prelude.{◌≡◌, refl, Bool, true, false, cond, ◌&&◌, List, [], ◌∷◌, ◌++◌, ℕ, length}
use Rattle.std.proofs.Common.{ap, arith, length-append}
use Rattle.evt_types.specs.Event.{Event}
use Rattle.evt_types.specs.declared.{Encoding.Encoding, Encoding.TheVariants.Evt2, Encoding.TheVariants.Evt21, Encoding.TheVariants.Evt3}
use Rattle.write_buffer.specs.{declared.EncoderState.EncoderState, Columns.events-length}
use Rattle.write_words.specs.Encode.{encode_bytes}
use Rattle.laws_formats.specs.Appends.{append_bytes}
use Rattle.write_rules.specs.declared.RawEventSink.{RawEventSink}
use Rattle.write_append.specs.Append.{header_due}
use Rattle.laws_handover.specs.Handover.{Call, is_accepted, accepted_events, stream_of, Front, bare, headed, front_bytes}
use Rattle.laws_handover.specs.Headed.{front_of, Sending}
use Rattle.laws_handover.specs.Calls.{by_call, columns, later, bytes, accepted_checked, groups_of}

abbrev pub front_named : Call → Front
front_named c = headed c.width c.height

-- ---- a writer with no header due sends none

bare_go : (b : Bool) (s : RawEventSink) (c : Call) (cs : List Call) → s.header_written ≡ true
    → ((u : RawEventSink) → u.header_written ≡ true → front_of u cs ≡ bare)
    → cond (b && header_due s c.xs) (front_named c) (front_of (cond b (later s c) s) cs) ≡ bare
bare_go true s c cs h ih = let d : header_due s c.xs ≡ false = rw h in rw d (ih (later s c) (rw h))
bare_go false s c cs h ih = ih s h

pub front_bare : (s : RawEventSink) (cs : List Call) → s.header_written ≡ true → front_of s cs ≡ bare
front_bare s [] h = refl
front_bare s (c ∷ cs) h = rw (by_call s c).0 (bare_go (is_accepted s c) s c cs h (λ u k. front_bare u cs k))

-- ---- THE STREAM is the header and the words

pub none_bytes : (e : Encoding) (v : EncoderState) → encode_bytes e v [] ≡ []
unfolding encode_bytes
none_bytes Evt2 v = refl
none_bytes Evt21 v = refl
none_bytes Evt3 v = refl

-- the stream from u on, in these terms
abbrev pub Fronted : List Call → RawEventSink → Type 0
Fronted cs u = stream_of u cs ≡ front_bytes u.version (front_of u cs) ++ append_bytes u.version u.state (groups_of u cs)

module _ (s : RawEventSink) (c : Call) (cs : List Call) (ih : (u : RawEventSink) → Fronted cs u) where
  abbrev pub v : Encoding
  v = s.version

  abbrev after : List ℕ
  after = append_bytes v (later s c).state (groups_of (later s c) cs)

-- ---- a header is sent exactly with an accepted event

-- an append without an event sends nothing
nothing_more : (none : List Event) (es : List Event) (d : Bool) (g f : Front) (front bytes : List ℕ) → none ≡ [] → d ≡ false → front ≡ [] → Sending es f bytes
    → Sending (none ++ es) (cond d g f) (front ++ bytes)
nothing_more none es d g f front bytes e h b s = rw (e, h, b) s

module _ (s : RawEventSink) (c : Call) (cs : List Call) (h : s.header_written ≡ false)
    (ih : (u : RawEventSink) → u.header_written ≡ false → Sending (accepted_events u cs) (front_of u cs) (stream_of u cs)) where
  sending_go : (b : Bool) (xs : List ℕ) → is_accepted s c ≡ b → c.xs ≡ xs
      → Sending (cond b (columns s c) [] ++ accepted_events (cond b (later s c) s) cs)
      (cond (b && header_due s c.xs) (front_named c) (front_of (cond b (later s c) s) cs)) (cond b (bytes s c) [] ++ stream_of (cond b (later s c) s) cs)
  sending_go false xs a x = ih s h
  sending_go true [] a x =
      let none : columns s c ≡ [] = rw x in
      let d : header_due s c.xs ≡ false = rw (h, x) in
      nothing_more (columns s c) _ (header_due s c.xs) (front_named c) _ (bytes s c) _ none d (rw (d, none, none_bytes s.version s.state))
      (ih (later s c) (rw (h, x)))
  sending_go true (y ∷ ys) a x =
      let d : header_due s c.xs ≡ true = rw (h, x) in
      let some : length (columns s c) ≡ length c.xs = events-length c.xs c.ys c.ts c.ps (accepted_checked s c a).sized 0 in
      let long : length c.xs ≡ length (y ∷ ys) = ap length x in
      record {
        nothing = λ e. absurd (omega (arith, simp length-append at (ap length e)));
        something = λ l. (c.width, (c.height, rw d));
      }

pub sending : (s : RawEventSink) (cs : List Call) → s.header_written ≡ false → Sending (accepted_events s cs) (front_of s cs) (stream_of s cs)
sending s [] h = record { nothing = λ e. (refl, refl); something = λ l. absurd (omega arith) }
sending s (c ∷ cs) h =
    rw ((by_call s c).0, (by_call s c).1) (sending_go s c cs h (λ u k. sending u cs k) (is_accepted s c) c.xs refl refl)
