-- EVT 2.1: the loop over the events. The word of a run is stored at each of its events, with a bit more in the mask each time.
use Rattle.std.specs.Prelude.{◌≡◌, refl, Bool, true, false, cond, ◌&&◌, List, [], ◌∷◌, ◌++◌, map, ℕ, suc, ◌+◌, ◌-◌, ◌*◌, ◌/◌, ◌%◌, ◌^◌, ◌≤◌, ◌<◌, eqb, ltb, ℤ, take, drop}
use Rattle.std.proofs.Math.Path.{sym, ap}
use Rattle.std.proofs.Common.{◌∙◌, append_assoc, arith, add-zero, zero-add, mod-eq_of_lt, pow_pos, eqb-true, eq-eqb, ltb-true, ltb-false, lt-ltb, le-ltb}
use Rattle.std.proofs.Math.Bool.{and_assoc}
use Rattle.std.proofs.Math.Nat.{pow-le-pow_right}
use Rattle.std.specs.Int.Bits.{bit_or, bit_xor}
use Rattle.std.proofs.Math.ListN.{length}
use Rattle.std.proofs.lemmas.List.Edits.{sets}
use Rattle.laws_stream.specs.{Machine.run, Machine.and_both, Mask.mask, Words.bytes, Columns.sets_append}
use Rattle.evt_types.specs.{Event.Event, Layout.word_size21, Layout.grain2, Layout.event_word2, Columns.col_x}
use Rattle.evt_types.specs.Layout.{type2, time_low2, x2, y2, event-type2, event_low2, event-x2, event-y2, event_fits2}
use Rattle.write_buffer.specs.declared.{EncoderState.EncoderState, Put.Put}
use Rattle.write_buffer.specs.Columns.{Sized, event, events_in, events_past, event_of, events-at, events-end}
use Rattle.write_buffer.specs.Every.{or_most, none_leb, xor_none, flag_none}
use Rattle.write_buffer.specs.{Sent.sent_number, Sent.number_is, Sent.state_some, Due.due_bytes, Due.both_bytes, Due.both-length, Due.both_few}
use Rattle.write_buffer.specs.Storing.{Roomy, bytes_from, bytes-cons, Storing, storing_start, storing_iteration, storing_over, storing_room, storing_end}
use Rattle.evt2_encoder.specs.Evt2.{word_of2, high_sent2, state_of2, encoded2, writer2}
use Rattle.evt2_encoder.specs.Pass2.{Fit2, Fitting2, event_at2, state_at2, state_step2}
use Rattle.evt3_run_rules.specs.Runs.{Run, first_of, single, prepend, goes_by, GoesBy, goes_by-true, glue_by, run_at, runs_by-at, follow_by}
use Rattle.evt21_encoder.specs.Evt21.{block_of, next21, runs21, high_word21, masked_word21, word_of21, writer21, stream21, run_bytes21}

abbrev pub passed21 : EncoderState → List Event → ℕ → Put
passed21 v es at = record { state = run writer21 v (runs21 es); at = at + length (stream21 v es) }

-- an event goes on the run of the one before it
abbrev pub goes21 : (last e : Event) → Bool
goes21 a e = goes_by next21 a.t a.y a.p a.x e

-- the upper half of a word, of an event's word in EVT 2.0: the column goes down to its block's first
abbrev pub upper_half : (key : ℕ) → ℕ
upper_half key = key / 2 ^ 16 * 2 ^ 16 + key % 2 ^ 11

abbrev pub key_word : (key mask : ℕ) → ℕ
key_word key m = upper_half key * 2 ^ 32 + m

abbrev pub key_bytes : (sent : Bool) (t key mask : ℕ) → List ℕ
key_bytes b t key m = both_bytes word_size21 b (high_word21 t) (key_word key m)

-- going on, told by the words in EVT 2.0 and the high halves of the times
abbrev pub joins21 : (last key sent high : ℕ) → Bool
joins21 last key sent high = eqb (upper_half key) (upper_half last) && (eqb high sent && ltb last key)

abbrev pub bit_of : (x : ℕ) → ℕ
bit_of x = 2 ^ (x % 32)

-- the words of an event, by whether the high half was sent, and with the bits of its run so far
abbrev pub event_bytes21 : (sent : Bool) → Event → (mask : ℕ) → List ℕ
event_bytes21 b e m = both_bytes word_size21 b (high_word21 e.t) (masked_word21 e m)

-- how many events go on the run of one
abbrev pub follow21 : Event → List Event → ℕ
follow21 a es = follow_by next21 a.t a.y a.p a.x es

-- a word, and the words of events after it
abbrev word_then : (w : ℕ) → EncoderState → List Event → List ℕ
word_then w v es = bytes word_size21 w ++ stream21 v es

-- the bits of a run whose last event so far is a, and its bits m, where n more events are in it
abbrev bits_of : (a : Event) (m n : ℕ) → List Event → ℕ
bits_of a m n es = m + mask (block_of a.x) (map col_x (take n es))

-- its word, and the words after that
abbrev open_at : EncoderState → (a : Event) (m n : ℕ) → List Event → List ℕ
open_at v a m n es = word_then (masked_word21 a (bits_of a m n es)) (encoded2 v a) (drop n es)

abbrev pub open21 : EncoderState → (a : Event) (m : ℕ) → List Event → List ℕ
open21 v a m es = open_at v a m (follow21 a es) es

-- ---- what has been sent is as in EVT 2.0

glue-run : (b : Bool) (v : EncoderState) (e : Event) (r : Run) (rs : List Run) → goes21 e (first_of r) ≡ b
    → run writer21 v (cond b (prepend e r ∷ rs) (single e ∷ r ∷ rs)) ≡ run writer21 (encoded2 v e) (r ∷ rs)
glue-run true v e r rs q = let g = goes_by-true next21 e.t e.y e.p e.x (first_of r) q in rw g.is_t
glue-run false v e r rs q = refl

pub run_events21 : (v : EncoderState) (es : List Event) → run writer21 v (runs21 es) ≡ run writer2 v es
run_events21 v [] = refl
run_events21 v (e ∷ es) = go (runs21 es) (run_events21 (encoded2 v e) es)
  where
    go : (rs : List Run) → run writer21 (encoded2 v e) rs ≡ run writer2 (encoded2 v e) es → run writer21 v (glue_by next21 e rs) ≡ run writer2 (encoded2 v e) es
    go [] ih = ih
    go (r ∷ rs) ih = glue-run (goes21 e (first_of r)) v e r rs refl ∙ ih

-- ---- a run's first event, and one that goes on it

module _ (a e : Event) (q : goes21 a e ≡ true) where
  went : GoesBy next21 a.t a.y a.p a.x e
  went = goes_by-true next21 a.t a.y a.p a.x e q

  went_block : a.x / 32 ≡ e.x / 32
  went_block = eqb-true (a.x / 32) (e.x / 32) (and_both (eqb (a.x / 32) (e.x / 32)) (ltb a.x e.x) went.is_next).0

  went_up : a.x < e.x
  went_up = ltb-true a.x e.x (and_both (eqb (a.x / 32) (e.x / 32)) (ltb a.x e.x) went.is_next).1

  follow_on : (es : List Event) → follow21 a (e ∷ es) ≡ suc (follow21 e es)
  unfolding follow_by
  follow_on es = rw (q, went.is_t, went.is_y, went.is_p)

  -- the bits of a run are below the bit of what goes on it
  pub below-bit : (m : ℕ) → m < 2 ^ suc (a.x % 32) → m < bit_of e.x
  below-bit m h =
      let le : 2 ^ suc (a.x % 32) ≤ 2 ^ (e.x % 32) = pow-le-pow_right (omega arith) {j = e.x % 32} (omega (arith, went_block, went_up)) in
      omega arith

-- compared at once
pub joins_none : (last key sent high : ℕ)
    → eqb (bit_or (bit_or (bit_xor (upper_half key) (upper_half last)) (bit_xor high sent)) (cond (ltb last key) 0 1)) 0 ≡ joins21 last key sent high
joins_none last key sent high =
    let uppers = bit_xor (upper_half key) (upper_half last) in
    let highs = bit_xor high sent in
    none_leb (bit_or (bit_or uppers highs) (cond (ltb last key) 0 1)) ∙ or_most 0 0 (bit_or uppers highs) (cond (ltb last key) 0 1) refl
    ∙ rw (or_most 0 0 uppers highs refl, xor_none (upper_half key) (upper_half last), xor_none high sent, flag_none (ltb last key))
    (and_assoc (eqb (upper_half key) (upper_half last)) (eqb high sent) (ltb last key))

alike : (b c : Bool) → (b ≡ true → c ≡ true) → (c ≡ true → b ≡ true) → b ≡ c
alike true c f g = sym (f refl)
alike false true f g = g refl
alike false false f g = refl

-- an event's word in EVT 2.0
module _ (p low y : ℕ) where
  upper_is : (x : ℕ) → y < 2048 → upper_half (event_word2 p low x y) ≡ event_word2 p low (block_of x) y
  upper_is x y< = omega arith

  rises : (a x : ℕ) → event_word2 p low a y < event_word2 p low x y → a < x
  rises a x h = omega arith

  rising : (a x : ℕ) → a ≤ 2047 → x ≤ 2047 → a < x → event_word2 p low (a % 2048) y < event_word2 p low (x % 2048) y
  rising a x ha hx h = omega arith

module _ (e : Event) (f : Fit2 e) where
  abbrev upper_of_lem : ℕ
  upper_of_lem = event_word2 (e.p % 2) (e.t % grain2) (block_of e.x % 2048) (e.y % 2048)

  block_in : block_of (e.x % 2048) ≡ block_of e.x % 2048
  block_in = omega (arith, f.fit_x)

  upper_of : upper_half (word_of2 e) ≡ upper_of_lem
  upper_of =
      upper_is (e.p % 2) (e.t % grain2) (e.y % 2048) (e.x % 2048) (omega arith)
      ∙ ap (λ (x : ℕ). event_word2 (e.p % 2) (e.t % grain2) x (e.y % 2048)) block_in

  key_word_lem : (m : ℕ) → m < 2 ^ 32 → key_word (word_of2 e) m ≡ masked_word21 e m
  key_word_lem m h = rw (upper_of, mod-eq_of_lt h)

  upper_p : type2 upper_of_lem ≡ e.p % 2
  upper_p = event-type2 (e.p % 2) (e.t % grain2) (block_of e.x % 2048) (e.y % 2048) (omega arith) (omega arith) (omega arith) (omega arith)

  upper_low : time_low2 upper_of_lem ≡ e.t % grain2
  upper_low = event_low2 (e.p % 2) (e.t % grain2) (block_of e.x % 2048) (e.y % 2048) (omega arith) (omega arith) (omega arith) (omega arith)

  upper-x : x2 upper_of_lem ≡ block_of e.x % 2048
  upper-x = event-x2 (e.p % 2) (e.t % grain2) (block_of e.x % 2048) (e.y % 2048) (omega arith) (omega arith) (omega arith) (omega arith)

  upper-y : y2 upper_of_lem ≡ e.y % 2048
  upper-y = event-y2 (e.p % 2) (e.t % grain2) (block_of e.x % 2048) (e.y % 2048) (omega arith) (omega arith) (omega arith) (omega arith)

time_of_lem : (a b : ℕ) → a % grain2 ≡ b % grain2 → a / grain2 ≡ b / grain2 → a ≡ b
time_of_lem a b low high = omega arith

small_of : (n a b : ℕ) → a < n → b < n → a % n ≡ b % n → a ≡ b
small_of n a b ha hb h = sym (mod-eq_of_lt ha) ∙ h ∙ mod-eq_of_lt hb

block_of_lem : (a b : ℕ) → a ≤ 2047 → b ≤ 2047 → block_of b % 2048 ≡ block_of a % 2048 → a / 32 ≡ b / 32
block_of_lem a b ha hb h = let e = small_of 2048 (block_of b) (block_of a) (omega arith) (omega arith) h in omega arith

-- events that cut nothing off differ where the words or the high halves do
module _ (a e : Event) (fa : Fit2 a) (fe : Fit2 e) where
  abbrev joins : Bool
  joins = joins21 (word_of2 a) (word_of2 e) (a.t / grain2) (e.t / grain2)

  joins_true : joins ≡ true → goes21 a e ≡ true
  joins_true q =
      let u = and_both (eqb (upper_half (word_of2 e)) (upper_half (word_of2 a))) (eqb (e.t / grain2) (a.t / grain2) && ltb (word_of2 a) (word_of2 e)) q in
      let h = and_both (eqb (e.t / grain2) (a.t / grain2)) (ltb (word_of2 a) (word_of2 e)) u.1 in
      let upper = sym (upper_of e fe) ∙ eqb-true (upper_half (word_of2 e)) (upper_half (word_of2 a)) u.0 ∙ upper_of a fa in
      let t = time_of_lem e.t a.t (sym (upper_low e fe) ∙ ap time_low2 upper ∙ upper_low a fa) (eqb-true (e.t / grain2) (a.t / grain2) h.0) in
      let y = small_of 2048 e.y a.y (omega (arith, fe.fit_y)) (omega (arith, fa.fit_y)) (sym (upper-y e fe) ∙ ap y2 upper ∙ upper-y a fa) in
      let p = small_of 2 e.p a.p (omega (arith, fe.fit_p)) (omega (arith, fa.fit_p)) (sym (upper_p e fe) ∙ ap type2 upper ∙ upper_p a fa) in
      let b = block_of_lem a.x e.x fa.fit_x fe.fit_x (sym (upper-x e fe) ∙ ap x2 upper ∙ upper-x a fa) in
      let lt = ltb-true (word_of2 a) (word_of2 e) h.1 in
      let up = rises (a.p % 2) (a.t % grain2) (a.y % 2048) (a.x % 2048) (e.x % 2048) (rw (t, y, p) at lt) in
      let x = lt-ltb a.x e.x (omega (arith, fa.fit_x, fe.fit_x)) in
      rw (eq-eqb e.t a.t t, eq-eqb e.y a.y y, eq-eqb e.p a.p p, eq-eqb (a.x / 32) (e.x / 32) b, x)

  goes-true : goes21 a e ≡ true → joins ≡ true
  goes-true q =
      let g = went a e q in
      let same : upper_of_lem e fe ≡ upper_of_lem a fa = rw (g.is_t, g.is_y, g.is_p, went_block a e q) in
      let upper = upper_of e fe ∙ same ∙ sym (upper_of a fa) in
      let h : e.t / grain2 ≡ a.t / grain2 = rw g.is_t in
      let lt : word_of2 a < word_of2 e =
      rw (g.is_t, g.is_y, g.is_p) (rising (a.p % 2) (a.t % grain2) (a.y % 2048) a.x e.x fa.fit_x fe.fit_x (went_up a e q)) in
      rw (eq-eqb (upper_half (word_of2 e)) (upper_half (word_of2 a)) upper, eq-eqb (e.t / grain2) (a.t / grain2) h, lt-ltb (word_of2 a) (word_of2 e) lt)

  joins-goes : joins ≡ goes21 a e
  joins-goes = alike joins (goes21 a e) joins_true goes-true

follow_none : (a e : Event) (es : List Event) → goes21 a e ≡ false → follow21 a (e ∷ es) ≡ 0
unfolding follow_by
follow_none a e es q = rw q

follow-end : (a : Event) → follow21 a [] ≡ 0
unfolding follow_by
follow-end a = refl

bit_is : (x : ℕ) → 2 ^ (x - block_of x) ≡ bit_of x
bit_is x = ap (λ (k : ℕ). 2 ^ k) (omega arith)

module _ (v : EncoderState) where
  open_long : (a : Event) (m : ℕ) (es : List Event) → word_size21 ≤ length (open21 v a m es)
  open_long a m es = omega arith

  -- no event goes on it
  open_closed : (a : Event) (m : ℕ) (es : List Event) → follow21 a es ≡ 0 → open21 v a m es ≡ word_then (masked_word21 a m) (encoded2 v a) es
  open_closed a m es q =
      ap (λ (n : ℕ). open_at v a m n es) q ∙ ap (λ (k : ℕ). word_then (masked_word21 a k) (encoded2 v a) es) (add-zero m)

  open_on : (a e : Event) (m : ℕ) (es : List Event) → goes21 a e ≡ true → open21 v a m (e ∷ es) ≡ open21 v e (m + bit_of e.x) es
  open_on a e m es q =
      let g = went a e q in
      let n = follow21 e es in
      let block : block_of a.x ≡ block_of e.x = rw (went_block a e q) in
      let bits : bits_of a m (suc n) (e ∷ es) ≡ bits_of e (m + bit_of e.x) n es =
      ap (λ (k : ℕ). m + (2 ^ (e.x - k) + mask k (map col_x (take n es)))) block ∙ omega (arith, bit_is e.x) in
      let same : (k : ℕ) → masked_word21 a k ≡ masked_word21 e k = λ k. rw (went_block a e q, g.is_t, g.is_y, g.is_p) in
      let word : masked_word21 a (bits_of a m (suc n) (e ∷ es)) ≡ masked_word21 e (bits_of e (m + bit_of e.x) n es) =
      ap (masked_word21 a) bits ∙ same (bits_of e (m + bit_of e.x) n es) in
      let state : encoded2 v a ≡ encoded2 v e = rw g.is_t in
      ap (λ (k : ℕ). open_at v a m k (e ∷ es)) (follow_on a e q es)
      ∙ ap (λ (w : ℕ). word_then w (encoded2 v a) (drop n es)) word
      ∙ ap (λ (s : EncoderState). word_then (masked_word21 e (bits_of e (m + bit_of e.x) n es)) s (drop n es)) state

  -- a new run
  open_new : (e : Event) (es : List Event)
      → stream21 v (e ∷ es) ≡ due_bytes word_size21 (high_sent2 v e) (high_word21 e.t) ++ open21 v e (bit_of e.x) es
  open_new e es =
      let n = follow21 e es in
      let r = run_at e n es in
      let word : word_of21 r ≡ masked_word21 e (bits_of e (bit_of e.x) n es) = rw bit_is in
      ap (bytes_from word_size21 writer21 v) (runs_by-at next21 e es) ∙ bytes-cons word_size21 writer21 v r (runs21 (drop n es))
      ∙ ap (λ (l : List ℕ). l ++ stream21 (encoded2 v e) (drop n es)) (run_bytes21 v r)
      ∙ append_assoc (due_bytes word_size21 (high_sent2 v e) (high_word21 e.t)) (bytes word_size21 (word_of21 r)) (stream21 (encoded2 v e) (drop n es))
      ∙ ap (λ (w : ℕ). due_bytes word_size21 (high_sent2 v e) (high_word21 e.t) ++ word_then w (encoded2 v e) (drop n es)) word

-- ---- one event

module _ (v₀ : EncoderState) (all : List ℕ) (at₀ : ℕ) (out₀ : List ℕ) where
  -- the word of the run of a, with the bits m, stands before `at`, and some of es go on the run
  pub record Opened (a : Event) (m : ℕ) (es : List Event) (high at : ℕ) (out : List ℕ) : Type 0 where
    pub past : word_size21 ≤ at
    pub sent : high ≡ a.t / grain2
    pub low : m < 2 ^ suc (a.x % 32)
    pub storing : Storing all at₀ out₀ (open21 v₀ a m es) (at - word_size21) out

  -- the words of e go to `place`, with the bits m
  pub record Placed (e : Event) (m : ℕ) (es : List Event) (high place : ℕ) (out : List ℕ) : Type 0 where
    pub low : m < 2 ^ suc (e.x % 32)
    pub storing : Storing all at₀ out₀ (due_bytes word_size21 (eqb high (e.t / grain2)) (high_word21 e.t) ++ open21 v₀ e m es) place out

  placed : (b : Bool) (a e : Event) (es : List Event) (v : EncoderState) {m high at : ℕ} {out : List ℕ} → goes21 a e ≡ b
      → high ≡ sent_number v.time_high → encoded2 v e ≡ encoded2 v₀ e → e.t < 2 ^ 64
      → (follow21 a (e ∷ es) ≡ 0 → Storing all at₀ out₀ (stream21 v (e ∷ es)) at out)
      → (0 < follow21 a (e ∷ es) → Opened a m (e ∷ es) high at out)
      → Placed e (cond b m 0 + bit_of e.x) es high (cond b (at - word_size21) at) out
  placed true a e es v {m} {high} q h s t< closed opens =
      let o = opens (omega (arith, follow_on a e q es)) in
      let sent = eq-eqb high (e.t / grain2) (rw (went a e q).is_t o.sent) in
      record { low = omega (arith, below-bit a e q m o.low); storing = rw (sent, ← open_on v₀ a e m es q) o.storing }
  placed false a e es v {m} {high} q h s t< closed opens =
      let sent : eqb high (e.t / grain2) ≡ high_sent2 v e = rw h (number_is v.time_high (e.t / grain2) (omega arith)) in
      let word = masked_word21 e (bits_of e (bit_of e.x) (follow21 e es) es) in
      let lead = due_bytes word_size21 (high_sent2 v e) (high_word21 e.t) in
      let left = open_new v e es ∙ ap (λ (u : EncoderState). lead ++ word_then word u (drop (follow21 e es) es)) s in
      record { low = rw zero-add (omega (arith, pow_pos (e.x % 32))); storing = rw (zero-add, sent, ← left) (closed (follow_none a e es q)) }

  module _ {e : Event} {m : ℕ} {es : List Event} {high place : ℕ} {out : List ℕ} (p : Placed e m es high place out) where
    abbrev sent : Bool
    sent = eqb high (e.t / grain2)

    abbrev lead : List ℕ
    lead = due_bytes word_size21 sent (high_word21 e.t)

    abbrev word : List ℕ
    word = bytes word_size21 (masked_word21 e m)

    placed_room : Roomy out₀ at₀ (length all) → Roomy out place (length (event_bytes21 sent e m))
    placed_room r h =
        let n = follow21 e es in
        let w = masked_word21 e (bits_of e m n es) in
        let split = sym (append_assoc lead (bytes word_size21 w) (stream21 (encoded2 v₀ e) (drop n es))) in
        let room = storing_room (lead ++ bytes word_size21 w) (stream21 (encoded2 v₀ e) (drop n es)) split p.storing r h in
        omega (arith, room, both-length word_size21 sent (high_word21 e.t) w, both-length word_size21 sent (high_word21 e.t) (masked_word21 e m))

    module _ {r : ℕ} {out' : List ℕ} (is_at : r ≡ place + length (event_bytes21 sent e m)) (is-out : out' ≡ sets out place (event_bytes21 sent e m)) where
      placed_closed : follow21 e es ≡ 0 → Storing all at₀ out₀ (stream21 (encoded2 v₀ e) es) r out'
      placed_closed q =
          let left = ap (λ (l : List ℕ). lead ++ l) (open_closed v₀ e m es q) ∙ sym (append_assoc lead word (stream21 (encoded2 v₀ e) es)) in
          rw is_at (storing_iteration (lead ++ word) (stream21 (encoded2 v₀ e) es) left is-out p.storing)

      placed_open : Opened e m es (e.t / grain2) r out'
      placed_open =
          let n = both-length word_size21 sent (high_word21 e.t) (masked_word21 e m) in
          let back : r - word_size21 ≡ place + length lead = omega (arith, n) in
          let s = storing_iteration lead (open21 v₀ e m es) refl refl p.storing in
          record {
            past = omega (arith, n);
            sent = refl;
            low = p.low;
            storing = rw back (storing_over word (omega arith) (is-out ∙ sets_append out place lead word) s);
          }

-- ---- the loop over the events, at index i, after an event a whose word in EVT 2.0 is `last`

pub record Under21 (v₀ : EncoderState) (xs ys : List ℕ) (ts : List ℤ) (ps : List ℕ) (at₀ : ℕ) (out₀ out : List ℕ) (high last mask at i : ℕ) : Type 0 where
  pub a : Event
  pub tells : (e : Event) → Fit2 e → joins21 last (word_of2 e) high (e.t / grain2) ≡ goes21 a e
  pub within : i ≤ length xs
  pub small : at ≤ at₀ + 16 * i
  pub is_high_lem : high ≡ sent_number (state_at2 v₀ i high).time_high
  pub state : run writer2 (state_at2 v₀ i high) (events_past xs ys ts ps i) ≡ run writer2 v₀ (events_in xs ys ts ps)
  pub closed : follow21 a (events_past xs ys ts ps i) ≡ 0
      → Storing (stream21 v₀ (events_in xs ys ts ps)) at₀ out₀ (stream21 (state_at2 v₀ i high) (events_past xs ys ts ps i)) at out
  pub opens : 0 < follow21 a (events_past xs ys ts ps i)
      → Opened v₀ (stream21 v₀ (events_in xs ys ts ps)) at₀ out₀ a mask (events_past xs ys ts ps i) high at out

-- nothing goes on an event in column 2047, and no word is above 2^32 - 1
abbrev edge : Event
edge = event 2047 0 0 0

edge_goes : (e : Event) → Fit2 e → goes21 edge e ≡ false
edge_goes e f = go (goes21 edge e) refl
  where
    go : (b : Bool) → goes21 edge e ≡ b → b ≡ false
    go true q = absurd (omega (arith, f.fit_x, went_up edge e q))
    go false q = refl

edge_none : (high : ℕ) (e : Event) → Fit2 e → joins21 4294967295 (word_of2 e) high (e.t / grain2) ≡ goes21 edge e
edge_none high e f =
    let b = event_fits2 (e.p % 2) (e.t % grain2) (e.x % 2048) (e.y % 2048) (omega arith) (omega arith) (omega arith) (omega arith) in
    rw (le-ltb 4294967295 (word_of2 e) (omega arith), edge_goes e f) (none (eqb (upper_half (word_of2 e)) (upper_half 4294967295)) (eqb (e.t / grain2) high))
  where
    none : (b c : Bool) → (b && (c && false)) ≡ false
    none true true = refl
    none true false = refl
    none false c = refl

module _ {xs ys : List ℕ} {ts : List ℤ} {ps : List ℕ} (sized : Sized xs ys ts ps) (fitting : Fitting2 xs ys ts ps) where
  first_none : follow21 edge (events_past xs ys ts ps 0) ≡ 0
  first_none = go (ltb 0 (length xs)) refl
    where
      go : (b : Bool) → ltb 0 (length xs) ≡ b → follow21 edge (events_past xs ys ts ps 0) ≡ 0
      go true q = rw (events-at xs ys ts ps sized 0 (ltb-true 0 (length xs) q)) (follow_none _ _ _ (edge_goes (event_of xs ys ts ps 0) (fitting 0)))
      go false q = rw (events-end xs ys ts ps sized 0 (ltb-false 0 (length xs) q)) (follow-end edge)

  module _ {v₀ : EncoderState} {at₀ : ℕ} {out₀ : List ℕ} where
    pub under_start21 : (high : ℕ) → high ≡ sent_number v₀.time_high → Under21 v₀ xs ys ts ps at₀ out₀ out₀ high 4294967295 0 at₀ 0
    under_start21 high h = record {
      a = edge;
      tells = edge_none high;
      within = omega arith;
      small = omega arith;
      is_high_lem = h;
      state = refl;
      closed = λ q. storing_start;
      opens = λ q. absurd (omega (arith, first_none));
    }

    module _ {out : List ℕ} {high last mask at i : ℕ} (u : Under21 v₀ xs ys ts ps at₀ out₀ out high last mask at i) where
      module _ (h : i < length xs) where
        abbrev a : Event
        a = u.a

        abbrev e : Event
        e = event_of xs ys ts ps i

        abbrev es : List Event
        es = events_past xs ys ts ps (i + 1)

        abbrev all : List ℕ
        all = stream21 v₀ (events_in xs ys ts ps)

        under_opened : goes21 a e ≡ true → Opened v₀ all at₀ out₀ a mask (e ∷ es) high at out
        under_opened q = (rw (events-at xs ys ts ps sized i h) at u.opens) (omega (arith, follow_on a e q es))

        -- told by what the code has of it: its time t and its word `key`
        module _ {b : Bool} {t key : ℕ} (et : t ≡ e.t) (ek : key ≡ word_of2 (event_at2 xs ys ps i t)) (is : b ≡ joins21 last key high (t / grain2)) where
          goes_is : b ≡ goes21 a e
          goes_is = is ∙ rw (ek, et) (u.tells e (fitting i))

          -- where the event goes on the run, there is a word, and its bits are below the event's
          pub under_joined21 : b ≡ true → (word_size21 ≤ at) × (mask < bit_of e.x)
          under_joined21 on =
              let q = sym goes_is ∙ on in
              let o = under_opened q in (o.past, below-bit a e q mask o.low)

          module _ {m place : ℕ} (em : m ≡ cond b mask 0 + bit_of e.x) (ep : place ≡ cond b (at - word_size21) at) where
            abbrev words : List ℕ
            words = key_bytes (eqb high (t / grain2)) t key m

            under_placed : Placed v₀ all at₀ out₀ (event_at2 xs ys ps i t) m es high place out
            under_placed =
                let next = events-at xs ys ts ps sized i h in
                rw (et, em, ep)
                (placed v₀ all at₀ out₀ b a e es (state_at2 v₀ i high) (sym goes_is) u.is_high_lem (state_step2 v₀ i high e) (omega (arith, (fitting i).fit_t))
                (rw next at u.closed) (rw next at u.opens))

            words_are : words ≡ event_bytes21 (eqb high (t / grain2)) (event_at2 xs ys ps i t) m
            words_are =
                let le : 2 ^ suc (e.x % 32) ≤ 2 ^ 32 = pow-le-pow_right (omega arith) {j = 32} (omega arith) in
                rw ek (ap (both_bytes word_size21 (eqb high (t / grain2)) (high_word21 t))
                (key_word_lem (event_at2 xs ys ps i t) (rw et (fitting i)) m (omega (arith, under_placed.low))))

            place_le : place ≤ at
            place_le = rw ep (go b)
              where
                go : (c : Bool) → cond c (at - word_size21) at ≤ at
                go true = omega arith
                go false = omega arith

            -- what storing the event asks for
            pub under_next21 : at₀ ≤ 2 ^ 32 → Roomy out₀ at₀ (length all) → (place < 2 ^ 60) × Roomy out place (length words) × (t < 2 ^ 34)
            under_next21 near r =
                (omega (arith, u.small, sized.few, place_le), rw words_are (placed_room v₀ all at₀ out₀ under_placed r), rw et (fitting i).fit_t)

            pub under_iteration21 : (r : ℕ) (out' : List ℕ) → r ≡ place + length words → out' ≡ sets out place words
                → Under21 v₀ xs ys ts ps at₀ out₀ out' (t / grain2) key m r (i + 1)
            under_iteration21 r out' is_at is-out =
                let some = state_some (i + 1) v₀ (state_of2 v₀ (t / grain2)) (omega arith) in
                let few = both_few word_size21 (eqb high (t / grain2)) (high_word21 t) (key_word key m) in
                let sent = ap (λ (s : EncoderState). run writer2 s es) (state_step2 v₀ i high e) in
                let at-is = rw words_are at is_at in
                let out-is = rw words_are at is-out in
                record {
                  a = e;
                  tells = λ f fits. rw (ek ∙ ap (λ (k : ℕ). word_of2 (event_at2 xs ys ps i k)) et, et) (joins-goes e f (fitting i) fits);
                  within = omega arith;
                  small = omega (arith, u.small, few, place_le);
                  is_high_lem = rw some;
                  state = rw (some, et) (sym sent ∙ (rw (events-at xs ys ts ps sized i h) at u.state));
                  closed = λ z. rw some (placed_closed v₀ all at₀ out₀ under_placed at-is out-is (rw et z));
                  opens = λ z. rw (← et) (placed_open v₀ all at₀ out₀ under_placed at-is out-is);
                }

      -- nothing is left
      pub under_last21 : length xs ≤ i → Storing (stream21 v₀ (events_in xs ys ts ps)) at₀ out₀ (stream21 (state_at2 v₀ i high) []) at out
      under_last21 h = (rw (events-end xs ys ts ps sized i h) at u.closed) (follow-end u.a)

      pub under_end21 : length xs ≤ i → (v : EncoderState) → v ≡ state_at2 v₀ (length xs) high
          → (record { state = v; at = at } ≡ passed21 v₀ (events_in xs ys ts ps) at₀) × (out ≡ sets out₀ at₀ (stream21 v₀ (events_in xs ys ts ps)))
      unfolding bytes_from
      under_end21 h v e =
          let n : i ≡ length xs = omega (arith, u.within) in
          let s = storing_end (under_last21 h) in
          let state : state_at2 v₀ i high ≡ run writer2 v₀ (events_in xs ys ts ps) = rw (events-end xs ys ts ps sized i h) at u.state in
          (rw (e ∙ ap (λ (k : ℕ). state_at2 v₀ k high) (sym n) ∙ state ∙ sym (run_events21 v₀ (events_in xs ys ts ps)), s.0), s.1)
