-- Laws of specs/Fronts.antt.
use Rattle.laws_formats.specs.Appends.{append_bytes, bytes_next, note_bytes}
use Rattle.laws_handover.specs.{Calls.by_call, Calls.bytes, Calls.columns, Calls.groups_of, Calls.groups_words, Calls.later, Fronts.Fronted, Fronts.front_bare}
use Rattle.laws_handover.specs.{Fronts.front_named, Fronts.none_bytes, Fronts.v, Handover.Call, Handover.bare, Handover.front_bytes, Handover.is_accepted}
use Rattle.laws_handover.specs.{Handover.stream_of, Handover.stream_words, Headed.front_of}
use Rattle.laws_stream.specs.Machine.{and_both}
use Rattle.std.proofs.{Common.ap, Common.append_assoc, Common.inl, Common.inr, Common.sym, Common.true≢false, Common.⊎_elim, Common.◌∙◌, Math.Bool.or-true}
use Rattle.std.specs.Prelude.{Bool, List, [], cond, false, not, refl, true, ℕ, ◌&&◌, ◌++◌, ◌||◌, ◌∷◌, ◌≡◌, ◌⊎◌}
use Rattle.write_append.specs.Append.{header_due, some}
use Rattle.write_header.specs.Header.{header_text}
use Rattle.write_rules.specs.declared.RawEventSink.{RawEventSink}
use Rattle.write_words.specs.Encode.{encode_bytes}

-- ---- THE STREAM is the header and the words

-- where no header is due: it was sent, or there is no event
not_due : (written : Bool) (s : RawEventSink) (c : Call) → s.header_written ≡ written → header_due s c.xs ≡ false
    → (s.header_written ≡ true) ⊎ (columns s c ≡ [])
not_due true s c h d = inl h
not_due false s c h d = inr (empty c.xs refl)
  where
    empty : (xs : List ℕ) → c.xs ≡ xs → columns s c ≡ []
    empty [] e = rw e
    empty (x ∷ xs) e = absurd (true≢false (rw (h, e) at d))

module _ (s : RawEventSink) (c : Call) (cs : List Call) (ih : (u : RawEventSink) → Fronted cs u) where
  abbrev sent : List ℕ
  sent = encode_bytes (v s c cs ih) s.state (columns s c)

  -- the words of an accepted append, and those after it, where nothing stands before these
  words-next : front_of (later s c) cs ≡ bare → sent ++ stream_of (later s c) cs ≡ append_bytes (v s c cs ih) s.state (columns s c ∷ groups_of (later s c) cs)
  words-next none = ap (λ (l : List ℕ). sent ++ l) (rw none at (ih (later s c))) ∙ sym (bytes_next (v s c cs ih) s.state (columns s c) (groups_of (later s c) cs))

  fronted_go : (b d : Bool) → header_due s c.xs ≡ d
      → cond b (bytes s c) [] ++ stream_of (cond b (later s c) s) cs
      ≡ front_bytes (v s c cs ih) (cond (b && d) (front_named c) (front_of (cond b (later s c) s) cs))
      ++ append_bytes (v s c cs ih) s.state (cond b (columns s c ∷ []) [] ++ groups_of (cond b (later s c) s) cs)
  fronted_go false d e = ih s
  fronted_go true true e =
      let events : some c.xs ≡ true = (and_both (not s.header_written) (some c.xs) e).1 in
      let written : s.header_written || some c.xs ≡ true = rw (events, or-true) in
      rw e (append_assoc (header_text (v s c cs ih) c.width c.height) sent (stream_of (later s c) cs)
      ∙ ap (λ (l : List ℕ). header_text (v s c cs ih) c.width c.height ++ l) (words-next (front_bare (later s c) cs written)))
  fronted_go true false e = ⊎_elim was_sent no_event (not_due s.header_written s c refl e)
    where
      was_sent : s.header_written ≡ true
          → bytes s c ++ stream_of (later s c) cs ≡ front_bytes (v s c cs ih) (front_of (later s c) cs) ++ append_bytes (v s c cs ih) s.state (columns s c ∷ groups_of (later s c) cs)
      was_sent h = let none = front_bare (later s c) cs (rw h) in rw (e, none) (words-next none)

      no_event : columns s c ≡ []
          → bytes s c ++ stream_of (later s c) cs ≡ front_bytes (v s c cs ih) (front_of (later s c) cs) ++ append_bytes (v s c cs ih) s.state (columns s c ∷ groups_of (later s c) cs)
      no_event h =
          let nothing : sent ≡ [] = rw h (none_bytes (v s c cs ih) s.state) in
          rw (e, nothing, bytes_next (v s c cs ih) s.state (columns s c) (groups_of (later s c) cs)) (ih (later s c) ∙ rw nothing)

pub stream_fronted : (s : RawEventSink) (cs : List Call) → Fronted cs s
stream_fronted s [] = refl
stream_fronted s (c ∷ cs) =
    rw ((by_call s c).0, (by_call s c).1) (fronted_go s c cs (λ u. stream_fronted u cs) (is_accepted s c) (header_due s c.xs) refl)

pub stream-words : (s : RawEventSink) (cs : List Call) → stream_of s cs ≡ front_bytes s.version (front_of s cs) ++ note_bytes s.version (stream_words s cs)
stream-words s cs = rw (groups_words s cs) (stream_fronted s cs)
