-- EVT2: the words that a writer sends of an event.
use Rattle.std.specs.Prelude.{◌≡◌, refl, Bool, true, false, List, [], ◌∷◌, ◌++◌, ℕ, ◌/◌, ◌%◌, ◌^◌, ◌<◌}
use Rattle.std.proofs.Common.{arith}
use Rattle.laws_stream.specs.{Machine.Machine, Machine.Note, Machine.All, Machine.words, Machine.notes, Words.Fits}
use Rattle.std.specs.Prelude.{Some}
use Rattle.evt_types.specs.{Event.Event, Layout.word_size2, Layout.grain2, Layout.event_word2, Layout.time_word2}
use Rattle.write_buffer.specs.{declared.EncoderState.EncoderState, Sent.sent_is, Sent.carries, Sent.due}

abbrev pub high_word2 : (t : ℕ) → ℕ
high_word2 t = time_word2 (t / grain2 % 2 ^ 28)

abbrev pub word_of2 : Event → ℕ
word_of2 e = event_word2 (e.p % 2) (e.t % grain2) (e.x % 2048) (e.y % 2048)

abbrev pub high_sent2 : EncoderState → Event → Bool
high_sent2 v e = sent_is v.time_high (e.t / grain2)

-- type 8 when t / grain2 changes, then the event
unfoldable pub encode2 : EncoderState → Event → List (Note ℕ Event)
encode2 v e = due (high_sent2 v e) (high_word2 e.t) ++ (carries (word_of2 e) e ∷ [])

-- a state whose high half was sent
abbrev pub state_of2 : EncoderState → (high : ℕ) → EncoderState
state_of2 v high = record { time_high = Some high; time_low = v.time_low; y = v.y }

abbrev pub encoded2 : EncoderState → Event → EncoderState
encoded2 v e = state_of2 v (e.t / grain2)

abbrev pub writer2 : Machine EncoderState Event (Note ℕ Event)
writer2 = record { step = encoded2; emit = encode2 }

-- ---- laws

-- the event's words carry the event
pub encode_notes2 : (v : EncoderState) (e : Event) → notes (encode2 v e) ≡ e ∷ []
unfolding encode2
encode_notes2 v e = go (high_sent2 v e)
  where
    go : (b : Bool) → notes (due b (high_word2 e.t) ++ (carries (word_of2 e) e ∷ [])) ≡ e ∷ []
    go true = refl
    go false = refl

word_fits : (e : Event) → word_of2 e < 256 ^ word_size2
word_fits e =
    let a : e.p % 2 < 2 = omega arith in
    let b : e.t % grain2 < grain2 = omega arith in
    let c : e.x % 2048 < 2048 = omega arith in
    let d : e.y % 2048 < 2048 = omega arith in
    omega arith

pub encode_fits2 : (v : EncoderState) (e : Event) → All (Fits word_size2) (words (encode2 v e))
unfolding encode2
encode_fits2 v e = go (high_sent2 v e)
  where
    go : (b : Bool) → All (Fits word_size2) (words (due b (high_word2 e.t) ++ (carries (word_of2 e) e ∷ [])))
    go true = (word_fits e, tt)
    go false = (omega arith, (word_fits e, tt))
