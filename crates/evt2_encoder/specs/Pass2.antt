-- EVT2: the bytes of an event's words, and the loop over the events.
use Rattle.std.specs.Prelude.{◌≡◌, refl, Bool, List, ◌∷◌, ℕ, zero, suc, ◌+◌, ◌*◌, ◌/◌, ◌^◌, ◌≤◌, ◌<◌, eqb, ℤ, pos, length, get_or}
use Rattle.std.proofs.Common.{sym, ap, ◌∙◌, arith, add-one}
use Rattle.std.proofs.lemmas.List.Edits.{sets}
use Rattle.laws_stream.specs.Machine.{run}
use Rattle.evt_types.specs.{Event.Event, Layout.word_size2, Layout.grain2, Num.natural}
use Rattle.write_buffer.specs.declared.{EncoderState.EncoderState, Put.Put}
use Rattle.write_buffer.specs.Columns.{event, Sized, Whole, events_in, events_past, event_of, events-at, events-end}
use Rattle.write_buffer.specs.Due.{both_bytes, both_is, both_few}
use Rattle.write_buffer.specs.Sent.{carries, state_at, sent_number, number_is}
use Rattle.evt2_encoder.specs.Evt2.{high_word2, word_of2, high_sent2, encode2, state_of2, encoded2, writer2}
use Rattle.write_buffer.specs.Storing.{Roomy, piece, bytes_from, Going, going_start, going_iteration, going_room, going_end}

-- an event whose words cut nothing off: rule 7 refuses every other
pub record Fit2 (e : Event) : Type 0 where
  pub fit_x : e.x ≤ 2047
  pub fit_y : e.y ≤ 2047
  pub fit_t : e.t < 2 ^ 34
  pub fit_p : e.p ≤ 1

-- columns of such events
abbrev pub Fitting2 : List ℕ → List ℕ → List ℤ → List ℕ → Type 0
Fitting2 xs ys ts ps = (i : ℕ) → Fit2 (event_of xs ys ts ps i)

-- the event at index i, where its time is t: a loop reads that first
abbrev pub event_at2 : (xs ys ps : List ℕ) (i t : ℕ) → Event
event_at2 xs ys ps i t = event (get_or xs i 0) (get_or ys i 0) t (get_or ps i 0)

-- all columns have an element at index i
pub record Within2 (xs ys ps : List ℕ) (i : ℕ) : Type 0 where
  pub few : i < 2 ^ 28
  pub in_x : i < length xs
  pub in_y : i < length ys
  pub in_p : i < length ps

abbrev pub bytes2 : EncoderState → Event → List ℕ
bytes2 = piece word_size2 writer2

abbrev pub stream2 : EncoderState → List Event → List ℕ
stream2 = bytes_from word_size2 writer2

-- by whether the high half was sent
abbrev pub event_bytes2 : (sent : Bool) → Event → List ℕ
event_bytes2 b e = both_bytes word_size2 b (high_word2 e.t) (word_of2 e)

abbrev pub passed2 : EncoderState → List Event → ℕ → Put
passed2 v es at = record { state = run writer2 v es; at = at + length (stream2 v es) }

pub event-bytes2 : (v : EncoderState) (e : Event) → bytes2 v e ≡ event_bytes2 (high_sent2 v e) e
unfolding encode2
event-bytes2 v e = both_is word_size2 (high_sent2 v e) (high_word2 e.t) (carries (word_of2 e) e)

pub few2 : (v : EncoderState) (e : Event) → length (bytes2 v e) ≤ 8
few2 v e = rw event-bytes2 (both_few word_size2 (high_sent2 v e) (high_word2 e.t) (word_of2 e))

-- the state at index i, where `high` was sent last
abbrev pub state_at2 : EncoderState → ℕ → (high : ℕ) → EncoderState
state_at2 v i high = state_at i v (state_of2 v high)

pub state_step2 : (v : EncoderState) (i high : ℕ) (e : Event) → encoded2 (state_at2 v i high) e ≡ state_at2 v (suc i) (e.t / grain2)
state_step2 v zero high e = refl
state_step2 v (suc i) high e = refl

-- the loop over the events, at index i
pub record Under2 (v₀ : EncoderState) (xs ys : List ℕ) (ts : List ℤ) (ps : List ℕ) (at₀ : ℕ) (out₀ out : List ℕ) (high at i : ℕ) : Type 0 where
  pub within : i ≤ length xs
  pub small : at ≤ at₀ + 8 * i
  pub is_high_lem : high ≡ sent_number (state_at2 v₀ i high).time_high
  pub going : Going word_size2 writer2 v₀ (events_in xs ys ts ps) at₀ out₀ (events_past xs ys ts ps i) (state_at2 v₀ i high) at out

-- what reading a time asks for
pub time_asks2 : {xs ys : List ℕ} {ts : List ℤ} {ps : List ℕ} → Sized xs ys ts ps → Whole ts → {i : ℕ} → i < length xs
    → (i < length ts) × (length ts ≤ 2 ^ 28) × Whole ts
time_asks2 sized whole h = (omega (arith, sized.same-t), omega (arith, sized.same-t, sized.few), whole)

module _ {xs ys : List ℕ} {ts : List ℤ} {ps : List ℕ} (sized : Sized xs ys ts ps) {v₀ : EncoderState} {at₀ : ℕ} {out₀ : List ℕ} where
  pub under_start2 : (high : ℕ) → high ≡ sent_number v₀.time_high → Under2 v₀ xs ys ts ps at₀ out₀ out₀ high at₀ 0
  under_start2 high h = record { within = omega arith; small = omega arith; is_high_lem = h; going = going_start word_size2 writer2 }

  module _ {out : List ℕ} {high at i : ℕ} (u : Under2 v₀ xs ys ts ps at₀ out₀ out high at i) where
    -- by the numbers of what was sent, or by the state
    words_are : (e : Event) → e.t < 2 ^ 64 → event_bytes2 (eqb high (e.t / grain2)) e ≡ bytes2 (state_at2 v₀ i high) e
    words_are e t< =
        let v = state_at2 v₀ i high in
        let sent : eqb high (e.t / grain2) ≡ high_sent2 v e =
        ap (λ (n : ℕ). eqb n (e.t / grain2)) u.is_high_lem ∙ number_is v.time_high (e.t / grain2) (omega arith) in
        ap (λ (b : Bool). event_bytes2 b e) sent ∙ sym (event-bytes2 v e)

    next_is : i < length xs → (e : Event) → e ≡ event_of xs ys ts ps i
        → Going word_size2 writer2 v₀ (events_in xs ys ts ps) at₀ out₀ (e ∷ events_past xs ys ts ps (i + 1)) (state_at2 v₀ i high) at out
    next_is h e is = rw (is) (rw (events-at xs ys ts ps sized i h) at u.going)

    pub under_iteration2 : i < length xs → Fitting2 xs ys ts ps → (t : ℕ) → t ≡ natural (get_or ts i (pos 0)) → (r : ℕ) (out' : List ℕ)
        → r ≡ at + length (event_bytes2 (eqb high (t / grain2)) (event_at2 xs ys ps i t))
        → out' ≡ sets out at (event_bytes2 (eqb high (t / grain2)) (event_at2 xs ys ps i t))
        → Under2 v₀ xs ys ts ps at₀ out₀ out' (t / grain2) r (i + 1)
    under_iteration2 h fitting t is r out' q o =
        let e = event_at2 xs ys ps i t in
        let all = words_are e (omega (arith, (fitting i).fit_t)) in
        let few = both_few word_size2 (eqb high (t / grain2)) (high_word2 t) (word_of2 e) in
        let more = next_is h e (rw is) in
        record {
          within = omega arith;
          small = omega (arith, u.small);
          is_high_lem = rw add-one;
          going =
              rw (q, all, add-one, ← state_step2 v₀ i high e) (rw add-one at
              (going_iteration word_size2 writer2 e (events_past xs ys ts ps (i + 1)) (o ∙ ap (sets out at) all) more));
        }

    -- what storing the next event asks for
    pub under_next2 : i < length xs → at₀ ≤ 2 ^ 32 → Fitting2 xs ys ts ps → Roomy out₀ at₀ (length (stream2 v₀ (events_in xs ys ts ps))) → (t : ℕ)
        → t ≡ natural (get_or ts i (pos 0))
        → Within2 xs ys ps i × (at < 2 ^ 60) × Roomy out at (length (event_bytes2 (eqb high (t / grain2)) (event_at2 xs ys ps i t)))
        × Fit2 (event_at2 xs ys ps i t)
    under_next2 h near fitting r t is =
        let e = event_at2 xs ys ps i t in
        let fit : Fit2 e = rw is (fitting i) in (
          record { few = omega (arith, sized.few); in_x = h; in_y = omega (arith, sized.same-y); in_p = omega (arith, sized.same_p) },
          omega (arith, u.small, sized.few),
          rw (words_are e (omega arith)) (going_room word_size2 writer2 e (events_past xs ys ts ps (i + 1)) (next_is h e (rw is)) r),
          fit,
        )

    -- with what the code has, and the index as the code writes it
    pub under_same2 : {out' : List ℕ} {high' at' : ℕ} (j : ℕ) → out' ≡ out → high' ≡ high
        → at' ≡ at → i ≡ j → Under2 v₀ xs ys ts ps at₀ out₀ out' high' at' j
    under_same2 j o h a n = rw (o, h, a, ← n) u

    pub under_end2 : length xs ≤ i → (v : EncoderState) → v ≡ state_at2 v₀ (length xs) high
        → (record { state = v; at = at } ≡ passed2 v₀ (events_in xs ys ts ps) at₀) × (out ≡ sets out₀ at₀ (stream2 v₀ (events_in xs ys ts ps)))
    under_end2 h v e =
        let n : i ≡ length xs = omega (arith, u.within) in
        let g = going_end word_size2 writer2 (rw (events-end xs ys ts ps sized i h) at u.going) in
        (rw (e ∙ ap (λ (k : ℕ). state_at2 v₀ k high) (sym n) ∙ g.0, g.1), g.2)
