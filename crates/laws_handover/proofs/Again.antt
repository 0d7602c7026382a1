-- Laws of specs/Again.antt.
use Rattle.evt_types.specs.{Event.Event, declared.Encoding.Encoding}
use Rattle.laws_handover.proofs.DemandThree.{claim, exact-whole, fresh-sent, resumed-sent, sent-by}
use Rattle.laws_handover.specs.{Again.Owed, Again.Resumption, Again.bytes_after, Again.words_after, Handover.Call, Handover.Claim, Handover.Exact}
use Rattle.laws_handover.specs.{Handover.Front, Handover.accepted_events, Handover.bare, Handover.fresh, Handover.joined, Handover.numbered, Handover.resuming}
use Rattle.laws_handover.specs.{Handover.start_of, Handover.stream_of, Handover.stream_words, Headed.front_of, Proof.Sent, Proof.joined_words}
use Rattle.laws_stream.specs.Machine.{Note}
use Rattle.std.proofs.{Common.arith, Common.leb-false, Common.leb-true, Common.length-append, Common.length-drop, lemmas.List.drop-append-le}
use Rattle.std.proofs.{lemmas.List.take-append-le}
use Rattle.std.specs.Prelude.{Bool, List, [], drop, false, leb, length, max, min, refl, take, true, ℕ, ◌++◌, ◌+◌, ◌-◌, ◌∷◌, ◌≡◌, ◌≤◌}
use Rattle.write_rules.specs.Rules.{fresh_sink}

-- ---- THE FULL LENGTH: a stream that isn't cut is read as all its accepted events

pub full : (e : Encoding) (calls : List Call) → Exact e bare (stream_of (fresh e) calls) (accepted_events (fresh e) calls)
full e calls = exact-whole e bare (stream_of (fresh e) calls) (stream_words (fresh e) calls) (accepted_events (fresh e) calls) (fresh-sent e calls)

-- ---- ANY NUMBER OF HANDOVERS: what is joined is again a stream that can be cut, read and resumed

module _ (e : Encoding) (f : Front) where
  pub sent-after : (bytes : List ℕ) (ws : List (Note ℕ Event)) (es : List Event) → Sent e f bytes ws es → (rs : List Resumption) → Owed e f bytes ws rs
      → Sent e f (bytes_after e f bytes rs) (words_after e f bytes ws rs) es
  sent-after bytes ws es s [] o = s
  sent-after bytes ws es s (r ∷ rs) o =
      let w = resuming e f r.cut bytes in
      sent-after (joined e f r.cut bytes w r.calls) (joined_words e f r.cut ws w r.calls) es
      (resumed-sent e f bytes ws es s r.cut o.0 r.calls o.1) rs o.2

  -- of what a fresh writer, of a header or of none, sent behind this front
  pub claim_after : (header : Bool) (calls : List Call) (rs : List Resumption) → front_of (fresh_sink e header) calls ≡ f
      → Owed e f (stream_of (fresh_sink e header) calls) (stream_words (fresh_sink e header) calls) rs → (cut : ℕ) → start_of e f ≤ cut
      → Claim e f (bytes_after e f (stream_of (fresh_sink e header) calls) rs)
      (words_after e f (stream_of (fresh_sink e header) calls) (stream_words (fresh_sink e header) calls) rs)
      (accepted_events (fresh_sink e header) calls) cut
  claim_after header calls rs is o cut behind =
      let s = fresh_sink e header in
      claim e f (bytes_after e f (stream_of s calls) rs) (words_after e f (stream_of s calls) (stream_words s calls) rs) (accepted_events s calls)
      (sent-after (stream_of s calls) (stream_words s calls) (accepted_events s calls) (sent-by e header calls f is) rs o) cut behind

-- ---- NUMBERS STAY: a slice that ends before the cut is the same of all events

none_between : (i0 i1 n : ℕ) → i1 ≤ i0 → max (min i0 n) (min i1 n) - min i0 n ≡ 0
none_between i0 i1 n h = omega arith

some-between : (i0 i1 n : ℕ) → i0 ≤ n → i1 ≤ n → max i0 i1 - i0 ≤ n - i0
some-between i0 i1 n a b = omega arith

numbers_go : (b : Bool) (es more : List Event) (i0 i1 n : ℕ) → leb i0 (length es) ≡ b → i1 ≤ length es → n ≡ length es + length more
    → take (max (min i0 n) (min i1 n) - min i0 n) (drop (min i0 n) (es ++ more)) ≡ numbered es i0 i1
numbers_go true es more i0 i1 n q h z =
    let l = leb-true i0 (length es) q in
    let a : min i0 n ≡ i0 = omega arith in
    let b : min i0 (length es) ≡ i0 = omega arith in
    let c : min i1 n ≡ i1 = omega arith in
    let d : min i1 (length es) ≡ i1 = omega arith in
    let f : max i0 i1 - i0 ≤ length (drop i0 es) = rw length-drop (some-between i0 i1 (length es) l h) in
    rw (a, b, c, d, drop-append-le i0 es more l) (take-append-le (max i0 i1 - i0) (drop i0 es) more f)
numbers_go false es more i0 i1 n q h z =
    let l = leb-false i0 (length es) q in
    rw (none_between i0 i1 n (omega arith), none_between i0 i1 (length es) (omega arith))

pub numbers_stay : (es more : List Event) (i0 i1 : ℕ) → i1 ≤ length es → numbered (es ++ more) i0 i1 ≡ numbered es i0 i1
numbers_stay es more i0 i1 h = numbers_go (leb i0 (length es)) es more i0 i1 (length (es ++ more)) refl h (length-append es more)
