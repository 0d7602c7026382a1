-- Strides from time word to time word: what holds of the last one that was passed, the mark, and of the words behind it.
use Rattle.std.specs.Prelude.{◌≡◌, refl, Bool, true, false, cond, ◌||◌, ◌&&◌, List, ℕ, ◌+◌, ◌/◌, ◌≤◌, ◌<◌, ◌^◌, ltb, length, take}
use Rattle.std.proofs.Common.{sym, ap, ◌∙◌, arith, ne_eqb, le-ltb}
use Rattle.laws_stream.specs.{Machine.run, Words.words_of}
use Rattle.evt_types.specs.{Ahead.ahead, Layout.type2, Layout.type3, Layout.word_size3, Layout.grain2, Layout.grain3, Layout.upper}
use Rattle.evt2_decoder.specs.{declared.Evt2Decoder.Evt2Decoder, Evt2.step2, Range.Bounded2, Range.Regular2, Range.bounded_sane2}
use Rattle.evt2_decoder.specs.Evt2 as Evt2
use Rattle.evt21_decoder.specs.Evt21.{of2}
use Rattle.evt3_decoder.specs.{declared.Decoder.Decoder, Evt3.step3, Evt3.reader3, Range.Bounded3}
use Rattle.evt_codec.specs.{declared.codec.Codec.TheVariants.Evt3, Reader.Reader, Reader.evt2, Reader.evt21, Sound.Sound, Sound.sound2, Sound.sound21}
use Rattle.evt_codec.specs.Sound.{sound3}
use Rattle.read_seek.specs.{declared.times.Times.Times, Times.carries_as, Seek.Midway, Iteration.Seeking, Iteration.seeking_start}
use Rattle.read_seek.specs.{Iteration.seeking_next, Iteration.midway}
use Rattle.read_seek.specs.{Times.times_of, Times.ticked, Times.ticked_as, Times.step_on, Times.step_times, Back.put_behind, Back.put_is}
use Rattle.read_seek.specs.Loops.{Passing, passing_start, passing_next, passing_slow}
use Rattle.laws_stream.proofs.WordsLaws.{words_taken}
use Rattle.evt2_decoder.proofs.RangeLaws.{regular_step2}
use Rattle.evt3_decoder.proofs.RangeLaws.{regular_step3}

-- no time is before 0
none_early : (t : ℕ) (b : Bool) → (false || (ltb t 0 && b)) ≡ false
none_early t b = ap (λ (c : Bool). c && b) (le-ltb t 0 (omega arith))

-- ---- EVT2, and EVT 2.1

near2 : (d : Evt2Decoder) → Regular2 d → d.time < d.time_high + grain2
near2 d r = go d.initialised refl
  where
    go : (b : Bool) → d.initialised ≡ b → d.time < d.time_high + grain2
    go true e = (r.started e).near
    go false e = rw (r.unstarted e) (omega arith)

-- the coarse time and the loops
pub record Like2 (d e : Evt2Decoder) : Type 0 where
  pub high : d.time_high ≡ e.time_high
  pub loops : d.high_loops ≡ e.high_loops

-- a time word goes by these alone, any other leaves them
set2 : (d e : Evt2Decoder) (w : ℕ) → Like2 d e → type2 w ≡ 8 → step2 d w ≡ step2 e w
set2 d e w l h =
    (Evt2.time_word_lem d w (type2 w) refl h).0
    ∙ (λ i. Evt2.step_as Evt2.time_high_lem (record { initialised = true; time_high = l.high i; time = 0; high_loops = l.loops i }) w)
    ∙ sym (Evt2.time_word_lem e w (type2 w) refl h).0

kept2 : (d : Evt2Decoder) (w : ℕ) → (type2 w ≡ 8 → ⊥) → Like2 d (step2 d w)
unfolding step2
kept2 d w h = rw (ne_eqb (type2 w) 8 h) (go d.initialised (ltb (type2 w) 2))
  where
    go : (a b : Bool) → Like2 d (Evt2.step_as (cond a (cond b Evt2.event Evt2.skip) Evt2.skip) d w)
    go true true = record { high = refl; loops = refl }
    go true false = record { high = refl; loops = refl }
    go false b = record { high = refl; loops = refl }

-- an encoding whose decoder has the numbers of EVT2's, and whose words do to them what the word of EVT2 in each does
pub record Over2 : Type 1 where
  pub reader : Reader
  pub sound : Sound reader
  pub of : Evt2Decoder → reader.State
  pub half : ℕ → ℕ
  pub step_is : (d : Evt2Decoder) (w : ℕ) → reader.machine.step (of d) w ≡ of (step2 d (half w))
  pub time_is : (d : Evt2Decoder) → reader.time (of d) ≡ d.time
  pub bounded : (n : ℕ) (d : Evt2Decoder) → reader.Bounded n (of d) → Bounded2 n d

abbrev pub over2 : Over2
over2 = record {
  reader = evt2;
  sound = sound2;
  of = λ d. d;
  half = λ w. w;
  step_is = λ d w. refl;
  time_is = λ d. refl;
  bounded = λ n d b. b;
}

abbrev pub over21 : Over2
over21 = record {
  reader = evt21;
  sound = sound21;
  of = of2;
  half = upper;
  step_is = λ d w. refl;
  time_is = λ d. refl;
  bounded = λ n d b. b;
}

module _ (O : Over2) (t : ℕ) (d : Evt2Decoder) (bytes : List ℕ) where
  abbrev R : Reader
  R = O.reader

  abbrev At : Evt2Decoder → ℕ → Type 0
  At s i = Seeking R 0 t (O.of d) bytes (O.of s) false i

  -- s is the decoder at the mark; u is the one at index i
  pub record Skipping2 (s : Evt2Decoder) (at i : ℕ) : Type 0 where
    pub marked : At s at
    pub u : Evt2Decoder
    pub here : At u i
    pub like : Like2 s u
    pub room : s.time_high + grain2 ≤ t

  pub skip_start2 : R.Bounded (length bytes / R.size) (O.of d) → d.time_high + grain2 ≤ t → Skipping2 d 0 0
  skip_start2 b room =
      let p = seeking_start O.sound b in
      record { marked = p; u = d; here = p; like = record { high = refl; loops = refl }; room = room }

  -- the word W at index i, and the word w of EVT2 in it
  module _ {s : Evt2Decoder} {at i : ℕ} (p : Skipping2 s at i) (h : i + R.size ≤ length bytes) (W : ℕ) (is_IsWord : W ≡ ahead R.size bytes i)
      (k : ℕ) (is-type : k ≡ type2 (O.half W)) where
    abbrev w : ℕ
    w = O.half W

    abbrev v : Evt2Decoder
    v = step2 p.u w

    on2 : v.time < t → At v (i + R.size)
    on2 l =
        seeking_next O.sound p.here h W is_IsWord (O.of v) (sym (O.step_is p.u W)) (rw (O.time_is v) l) (R.carries W) refl
        false (sym (none_early (R.time (O.of v)) (R.carries W)))

    pub skip_other2 : (k ≡ 8 → ⊥) → Skipping2 s at (i + R.size)
    skip_other2 other =
        let e = kept2 p.u w (λ e. other (is-type ∙ e)) in
        let n = near2 v (regular_step2 p.u w (O.bounded _ p.u p.here.inv).regular) in
        record {
          marked = p.marked;
          u = v;
          here = on2 (omega (arith, n, p.like.high, e.high, p.room));
          like = record { high = p.like.high ∙ e.high; loops = p.like.loops ∙ e.loops };
          room = p.room;
        }

    module _ (is_time_lem : k ≡ 8) (s' : Evt2Decoder) (is_next : s' ≡ step2 s w) where
      same_next : s' ≡ v
      same_next = is_next ∙ set2 s p.u w p.like (sym is-type ∙ is_time_lem)

      pub skip_time2 : s'.time < t → At s' (i + R.size)
      skip_time2 l = rw same_next (on2 (rw same_next at l))

      pub skip_small2 : s'.time < t → s'.time < 2 ^ 63 + 64
      skip_small2 l =
          let b = O.bounded _ s' (skip_time2 l).inv in
          omega (arith, near2 s' b.regular, (bounded_sane2 b).high)

      -- its time is its coarse time
      coarse2 : s'.time_high ≡ s'.time
      coarse2 = rw (is_next, (Evt2.time_word_lem s w (type2 w) refl (sym is-type ∙ is_time_lem)).0)

      pub skip_on2 : s'.time < t → s'.time + grain2 ≤ t → Skipping2 s' (i + R.size) (i + R.size)
      skip_on2 l room =
          let u = skip_time2 l in
          record { marked = u; u = s'; here = u; like = record { high = refl; loops = refl }; room = rw coarse2 room }

-- ---- EVT3: by the times alone

pub record Like3 (c e : Times) : Type 0 where
  pub base : c.base ≡ e.base
  pub loops : c.loops ≡ e.loops

set3 : (c e : Times) (w : ℕ) → Like3 c e → type3 w ≡ 8 → ticked c w ≡ ticked e w
set3 c e w l h = rw h (λ i. ticked_as 8 (record { base = l.base i; time = 0; loops = l.loops i }) w)

kept3 : (c : Times) (w : ℕ) → (type3 w ≡ 8 → ⊥) → Like3 c (ticked c w)
kept3 c w h = rw (ne_eqb (type3 w) 8 h) (record { base = refl; loops = refl })

module _ (t : ℕ) (d : Decoder) (bytes : List ℕ) where
  pub record Skipping3 (c : Times) (at i : ℕ) : Type 0 where
    pub marked : Passing 0 t d bytes c false at
    pub e : Times
    pub here : Passing 0 t d bytes e false i
    pub like : Like3 c e
    pub room : c.base + 4096 ≤ t

  near3 : {c : Times} {i : ℕ} → Passing 0 t d bytes c false i → c.time < c.base + 4096
  near3 u = rw u.is (u.seeking.inv.regular.started u.on).0.near

  pub skip_start3 : d.initialised ≡ true → Bounded3 (length bytes / word_size3) d → d.time_base + grain3 ≤ t → Skipping3 (times_of d) 0 0
  skip_start3 on b room =
      let p = passing_start 0 t d bytes on b in
      record { marked = p; e = times_of d; here = p; like = record { base = refl; loops = refl }; room = room }

  module _ {c : Times} {at i : ℕ} (p : Skipping3 c at i) (h : i + word_size3 ≤ length bytes) (w : ℕ) (is_IsWord : w ≡ ahead word_size3 bytes i)
      (k : ℕ) (is-type : k ≡ type3 w) where
    on3 : (ticked p.e w).time < t → Passing 0 t d bytes (ticked p.e w) false (i + word_size3)
    on3 l = passing_next 0 t d bytes h w is_IsWord p.here (ticked p.e w) refl l k is-type false (sym (none_early (ticked p.e w).time (carries_as k)))

    -- what a word leaves is near its coarse time
    near_next : (ticked p.e w).time < (ticked p.e w).base + 4096
    near_next =
        let s = p.here.state in
        let q : ticked p.e w ≡ times_of (step3 s w) = ap (λ (c : Times). ticked c w) p.here.is ∙ sym (step_times s w p.here.on) in
        rw q ((regular_step3 s w p.here.seeking.inv.regular).started (step_on s w p.here.on)).0.near

    pub skip_other3 : (k ≡ 8 → ⊥) → Skipping3 c at (i + word_size3)
    skip_other3 other =
        let e = kept3 p.e w (λ e. other (is-type ∙ e)) in
        record {
          marked = p.marked;
          e = ticked p.e w;
          here = on3 (omega (arith, near_next, p.like.base, e.base, p.room));
          like = record { base = p.like.base ∙ e.base; loops = p.like.loops ∙ e.loops };
          room = p.room;
        }

    module _ (is_time_lem : k ≡ 8) (c' : Times) (is_next : c' ≡ ticked c w) where
      same_next3 : c' ≡ ticked p.e w
      same_next3 = is_next ∙ set3 c p.e w p.like (sym is-type ∙ is_time_lem)

      pub skip_time3 : c'.time < t → Passing 0 t d bytes c' false (i + word_size3)
      skip_time3 l = rw same_next3 (on3 (rw same_next3 at l))

      pub skip_small3 : c'.time < t → c'.time < 2 ^ 62 + 4096
      skip_small3 l = let u = skip_time3 l in omega (arith, near3 u, (passing_slow 0 t d bytes u).base)

      coarse3 : c'.base ≡ c'.time
      coarse3 = rw (is_next, sym is-type ∙ is_time_lem)

      pub skip_on3 : c'.time < t → c'.time + grain3 ≤ t → Skipping3 c' (i + word_size3) (i + word_size3)
      skip_on3 l room = record { marked = skip_time3 l; e = c'; here = skip_time3 l; like = record { base = refl; loops = refl }; room = rw coarse3 room }

  -- the decoder at the mark
  pub midway3 : {c : Times} {at : ℕ} → d.initialised ≡ true → d.base_x < 2 ^ 16 → Passing 0 t d bytes c false at → (e : Decoder)
      → e ≡ put_behind d (take at bytes) c
      → Midway t (Evt3 d) bytes at (Evt3 e)
  midway3 {c} {at} on column u e is-put =
      let q = u.seeking in
      let came : u.state ≡ run reader3 d (words_of word_size3 (take at bytes))
      =
      q.came ∙ ap (run reader3 d)
      (sym (words_taken word_size3 (omega arith) q.words bytes (omega (arith, q.is_at, q.within)))
      ∙ ap (λ (k : ℕ). words_of word_size3 (take k bytes)) (sym q.is_at)) in
      let is : e ≡ u.state = is-put ∙ put_is d (take at bytes) u.state on column came c u.is in
      rw is (midway t (Evt3 d) bytes q)

  -- none
  pub midway_none3 : Bounded3 (length bytes / word_size3) d → Midway t (Evt3 d) bytes 0 (Evt3 d)
  midway_none3 b = midway t (Evt3 d) bytes (seeking_start sound3 b)
