-- What a caller can use of these definitions: bytes in parts, how many events, decoders that a loop takes, times and coordinates.
use Rattle.std.specs.Prelude.{◌≡◌, true, List, [], ◌∷◌, ◌++◌, ℕ, suc, ◌+◌, ◌*◌, ◌/◌, ◌≤◌, ◌<◌, ◌^◌, max, length}
use Rattle.std.proofs.Common.{sym, ap, subst, ◌∙◌, arith, suc-add, zero-add, mul-div_cancel, length-append, lt-ltb}
use Rattle.std.proofs.Math.Nat.{mul-add-div_right}
use Rattle.evt_types.specs.{declared.Encoding.Encoding, declared.vector.Vector.Vector, Event.Event, Event.event_at, Event.events_of, Event.Narrow}
use Rattle.laws_stream.specs.{Machine.Machine, Machine.All, Machine.all_of, Machine.all_map, Machine.all_mapped, Machine.run, Machine.emits_few}
use Rattle.laws_stream.specs.{Machine.emits-all, Words.words_of}
use Rattle.laws_stream.specs.{Words.length-words, Words.words-end, Mask.bits, Order.greatest, Order.greatest-append, Order.greatest-le, Slice.sift}
use Rattle.laws_stream.specs.{Slice.sift-append}
use Rattle.laws_stream.specs.{Slice.sift-all, Slice.all-sift, Stream.decode, Stream.after}
use Rattle.evt_codec.specs.{declared.codec.Codec.Codec, Reader.Reader, Reader.view, Reader.View, Codec.fresh_c, Codec.word_size, Codec.in_range_c}
use Rattle.evt_codec.specs.{Codec.codec_view}
use Rattle.evt_codec.specs.{Codec.view-after, Codec.view-fresh, Sound.Sound, Sound.sound, Sound.sound_of, Sound.able_range, Sound.able_fitting}
use Rattle.evt_codec.specs.{Sound.bounded_words}
use Rattle.read_columns.specs.Inside.{inside, clock, events_few, sift_few}
use Rattle.read_fill.specs.{Decode.events_from, Decode.codec_after, Decode.inside_events, Decode.Bounded, Decode.Fitting, Iteration.inside_all}
use Rattle.laws_stream.proofs.StreamLaws.{after-append, decode-append}

-- ---- in parts: the first is a whole number of words

module _ (c : Codec) (k : ℕ) (a b : List ℕ) (h : length a ≡ k * word_size c) where
  pub events-append : events_from c (a ++ b) ≡ events_from c a ++ events_from (codec_after c a) b
  events-append =
      decode-append (word_size c) (view c).reader.machine (sound c).some (view c).state k a b h
      ∙ ap (λ (v : View). events_from c a ++ decode v.reader.size v.reader.machine v.state b) (sym (view-after c a))

  pub codec_append : codec_after c (a ++ b) ≡ codec_after (codec_after c a) b
  codec_append =
      ap (view c).reader.codec (after-append (word_size c) (view c).reader.machine (sound c).some (view c).state k a b h)
      ∙ ap (λ (v : View). v.reader.codec (after v.reader.size v.reader.machine v.state b)) (sym (view-after c a))

  module _ (width height : ℕ) where
    pub inside-append : inside_events width height c (a ++ b) ≡ inside_events width height c a ++ inside_events width height (codec_after c a) b
    inside-append = ap (sift (inside width height)) events-append ∙ sift-append (inside width height) (events_from c a) (events_from (codec_after c a) b)

    pub count-append : length (inside_events width height c (a ++ b)) ≡ length (inside_events width height c a)
        + length (inside_events width height (codec_after c a) b)
    count-append = ap length inside-append ∙ length-append (inside_events width height c a) (inside_events width height (codec_after c a) b)

    pub latest-append : greatest clock (inside_events width height c (a ++ b))
        ≡ max (greatest clock (inside_events width height c a)) (greatest clock (inside_events width height (codec_after c a) b))
    latest-append = ap (greatest clock) inside-append ∙ greatest-append clock (inside_events width height c a) (inside_events width height (codec_after c a) b)

-- no bytes
no_words : (c : Codec) → words_of (word_size c) [] ≡ []
no_words c = words-end (word_size c) (sound c).some [] 0 (omega (arith, (sound c).some))

pub events-nil : (c : Codec) → events_from c [] ≡ []
events-nil c = rw (no_words c)

pub codec_nil : (c : Codec) → codec_after c [] ≡ c
codec_nil c = ap (λ (ws : List ℕ). (view c).reader.codec (run (view c).reader.machine (view c).state ws)) (no_words c) ∙ codec_view c

-- ---- how many

module _ {R : Reader} (S : Sound R) (width height : ℕ) (s : R.State) (l : List ℕ) where
  few_from : length (inside_all R.size R.machine width height s l) ≤ R.most * (length l / R.size)
  few_from =
      let one : (s : R.State) (w : ℕ) → length (R.machine.emit s w) ≤ R.most =
      λ s w. rw (S.emits s w) (events_few (R.vector s w) R.most (S.few s w)) in
      let all = subst (λ (n : ℕ). length (decode R.size R.machine s l) ≤ R.most * n) (length-words R.size l)
      (emits_few R.machine R.most one s (words_of R.size l)) in
      omega (arith, sift_few (inside width height) (decode R.size R.machine s l), all)

  pub inside-from : length (inside_all R.size R.machine width height s l) ≤ 6 * length l
  inside-from = omega (arith, few_from, S.spread (length l))

pub inside_few : (width height : ℕ) (c : Codec) (l : List ℕ) → length (inside_events width height c l) ≤ (view c).reader.most * (length l / word_size c)
inside_few width height c l = few_from (sound c) width height (view c).state l

-- of any encoding
pub inside-bytes : (width height : ℕ) (c : Codec) (l : List ℕ) → length (inside_events width height c l) ≤ 6 * length l
inside-bytes width height c l = inside-from (sound c) width height (view c).state l

-- ---- decoders that a loop takes

pub bounded_less : (c : Codec) {m n : ℕ} → m ≤ n → Bounded n c → Bounded m c
bounded_less c h b = (sound c).less (view c).state h b

run_uses : {S : Type 0} (M : Machine S ℕ Event) (Inv : ℕ → S → Type 0) → ((k : ℕ) (s : S) (w : ℕ) → Inv (suc k) s → Inv k (M.step s w))
    → (k : ℕ) (s : S) (ws : List ℕ) → Inv (length ws + k) s → Inv k (run M s ws)
run_uses M Inv keeps k s [] i = rw zero-add at i
run_uses M Inv keeps k s (w ∷ ws) i = run_uses M Inv keeps k (M.step s w) ws (keeps (length ws + k) s w (rw suc-add at i))

-- after a whole number of words
pub bounded_after : (c : Codec) (k n : ℕ) (a : List ℕ) → length a ≡ k * word_size c → Bounded (k * word_size c + n) c → Bounded n (codec_after c a)
bounded_after c k n a h b =
    let R = (view c).reader in
    let words : length (words_of (word_size c) a) ≡ k = length-words (word_size c) a ∙ rw h (mul-div_cancel k (sound c).some) in
    let e : (k * word_size c + n) / word_size c ≡ length (words_of (word_size c) a) + n / word_size c = rw words (mul-add-div_right (sound c).some k n) in
    subst (λ (v : View). v.reader.Bounded (n / v.reader.size) v.state) (sym (view-after c a))
    (run_uses R.machine R.Bounded (sound c).steps (n / word_size c) (view c).state (words_of (word_size c) a)
    (subst (λ (m : ℕ). R.Bounded m (view c).state) e b))

-- any decoder in range (10) takes as many bytes as are read (4)
pub bounded_range : (c : Codec) (n : ℕ) → in_range_c c ≡ true → Fitting c → n ≤ 2 ^ 30 → Bounded n c
bounded_range c n r f h = able_fitting c n (able_range c n r h) f

pub fitting-fresh : (e : Encoding) → Fitting (fresh_c e)
fitting-fresh e = subst (λ (v : View). v.reader.Fitting v.state) (sym (view-fresh e)) (sound_of e).fresh_fits

pub range_fresh : (e : Encoding) → in_range_c (fresh_c e) ≡ true
range_fresh e = subst (λ (v : View). v.reader.in_range v.state ≡ true) (sym (view-fresh e)) (sound_of e).fresh_range

pub bounded_fresh : (e : Encoding) (n : ℕ) → n ≤ 2 ^ 30 → Bounded n (fresh_c e)
bounded_fresh e n h = bounded_range (fresh_c e) n (range_fresh e) (fitting-fresh e) h

-- a fresh decoder stays in range
pub fresh_range : (e : Encoding) (l : List ℕ) → length l ≤ 2 ^ 30 → in_range_c (codec_after (fresh_c e) l) ≡ true
fresh_range e l h =
    ap (λ (v : View). v.reader.in_range v.state) (view-after (fresh_c e) l)
    ∙ ap (λ (v : View). v.reader.in_range (after v.reader.size v.reader.machine v.state l)) (view-fresh e) ∙ (sound_of e).fresh_stays l h

-- ---- times and coordinates

-- an event that the columns can hold
pub record Small (e : Event) : Type 0 where
  pub x< : e.x < 2 ^ 16
  pub y< : e.y < 2 ^ 16
  pub t< : e.t < 2 ^ 63
  pub p< : e.p < 2

pub vector_small : (v : Vector) → Narrow v → All Small (events_of v)
vector_small v n =
    all_mapped Small (event_at v) (bits 32 v.x v.mask)
    (all_of _ (λ c. record { x< = omega arith; y< = n.y<; t< = n.t<; p< = n.p< }) (bits 32 v.x v.mask))

pub events_small : (c : Codec) (l : List ℕ) → Bounded (length l) c → All Small (events_from c l)
events_small c l b =
    let R = (view c).reader in
    let small : (n : ℕ) (s : R.State) (w : ℕ) → R.Bounded (suc n) s → All Small (R.machine.emit s w) =
    λ n s w i. rw ((sound c).emits s w) (vector_small (R.vector s w) ((sound c).narrow (suc n) s w i)) in
    emits-all R.machine R.Bounded (sound c).steps Small small (view c).state (words_of (word_size c) l) (bounded_words c l b)

module _ (c : Codec) (l : List ℕ) (b : Bounded (length l) c) where
  pub inside_small : (width height : ℕ) → All Small (inside_events width height c l)
  inside_small width height = all-sift (inside width height) Small (events_from c l) (events_small c l b)

  -- an unknown size is read with 65,536 by 65,536
  pub all-inside : inside_events 65536 65536 c l ≡ events_from c l
  all-inside =
      let ins : (e : Event) → Small e → inside 65536 65536 e ≡ true = λ e s. rw (lt-ltb e.x 65536 s.x<, lt-ltb e.y 65536 s.y<) in
      sift-all (inside 65536 65536) (events_from c l) (all_map Small _ ins (events_from c l) (events_small c l b))

  -- the maximum time fits an i64
  pub latest_small : (width height : ℕ) → greatest clock (inside_events width height c l) < 2 ^ 63
  latest_small width height =
      let le : (e : Event) → Small e → clock e ≤ 9223372036854775807 = λ e s. omega (arith, s.t<) in
      let g = greatest-le clock 9223372036854775807 (inside_events width height c l)
      (all_map Small _ le (inside_events width height c l) (inside_small width height)) in
      omega arith
