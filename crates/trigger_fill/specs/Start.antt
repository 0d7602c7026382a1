-- The triggers of a decoder are those of its times, from the first time word on where it isn't started.
use Rattle.std.specs.Prelude.{◌≡◌, Bool, List, [], ◌∷◌, ℕ, ◌+◌, ◌*◌, ◌/◌, ◌%◌, ◌^◌, eqb, ltb, ℤ, length}
use Rattle.std.proofs.Math.Path.{refl}
use Rattle.std.proofs.Common.{sym, ap, ◌∙◌, eqb-true}
use Rattle.std.proofs.Math.Bool.{true, false, cond}
use native.Mathlib.Omega.{arith}
use Rattle.laws_stream.specs.{Machine.Machine, Machine.emits, Words.words_of, Words.length-words, Stream.decode}
use Rattle.evt_types.specs.{Clock.either, Layout.type2, Layout.type3, Layout.time3, Layout.upper, Layout.upper_type, Layout.upper_time, Layout.upper_low}
use Rattle.evt_types.specs.Layout.{upper_id, upper-value}
use Rattle.evt_types.specs.{Layout.grain3, Layout.trigger_type, Layout.trigger_id3, Layout.trigger_value3, Trigger.Trigger, Trigger.HandedTriggers}
use Rattle.evt2_decoder.specs.{declared.Evt2Decoder.Evt2Decoder, Evt2.fresh2, Evt2.step2, Triggers.trigger2, Triggers.triggers2}
use Rattle.evt21_decoder.specs.{declared.Evt21Decoder.Evt21Decoder, Evt21.as2, Evt21.of2, Evt21.fresh21, Triggers.triggers21}
use Rattle.evt2_decoder.specs.Range.{below2}
use Rattle.evt3_decoder.specs.{declared.Decoder.Decoder, Evt3.fresh3, Evt3.step3, Evt3.period3, Evt3.threshold3, Triggers.trigger3, Triggers.triggers3}
use Rattle.evt3_decoder.specs.Range.{below3, near3}
use Rattle.evt2_decoder.specs.Evt2 as Evt2
use Rattle.evt3_decoder.specs.Evt3 as Evt3
use Rattle.evt_codec.specs.declared.{codec.Codec.Codec, codec.Codec.TheVariants.Evt2, codec.Codec.TheVariants.Evt21, codec.Codec.TheVariants.Evt3}
use Rattle.evt_codec.specs.Triggers.{triggers_from}
use Rattle.read_fill.specs.Decode.{Bounded}
use Rattle.trigger_fill.specs.declared.{form.Form.Form, outset.Outset.Outset, times.Times.Times}
use Rattle.trigger_fill.specs.Form.{form2, form21, form3, Known, known2, known21, known3, kind_in, set_to, time_word, fine_word, ticked}
use Rattle.trigger_fill.specs.Form.{triggered, pulses, pulses_from, Paced, size-pos, paced_fewer, words-within, words_left, tick_time, no_trigger_lem}
use Rattle.trigger_fill.specs.Pulse.{Place}
use Rattle.trigger_fill.specs.Follow.{skipped, skipped-most, Follows, follows}
use Rattle.laws_stream.proofs.{LoopLaws.tracks_same, WordsLaws.words_dropped}

abbrev pub is_time : Form → ℕ → Bool
is_time f w = eqb (kind_in f w) 8

-- where the triggers can start
abbrev pub start_of : Form → Bool → List ℕ → ℕ
start_of f started l = skipped started (is_time f) (words_of f.size l) * f.size

-- what the loop takes from there
pub record Started (f : Form) (c : Times) (i : ℕ) (l : List ℕ) (gs : List Trigger) : Type 0 where
  pub known : Known f
  pub place : Place f l c i
  pub same : pulses_from f c i l ≡ gs

starts : {f : Form} → Known f → {S : Type 0} {M : Machine S ℕ Trigger} {part : S → Times} {live : S → Bool} {fresh : S}
    → Follows M (pulses f) part live (is_time f) fresh → (s : S) (l : List ℕ) → (live s ≡ false → s ≡ fresh) → Paced f (length l / f.size) (part s)
    → Started f (part s) (start_of f (live s) l) l (decode f.size M s l)
starts {f} known {S} {M} {part} {live} {fresh} like s l off paced =
    let ws = words_of f.size l in
    let k = skipped (live s) (is_time f) ws in
    let h = words-within known k l (omega (arith, skipped-most (live s) (is_time f) ws, length-words f.size l)) in
    record {
      known = known;
      place = record { within = h; paced = paced_fewer (words_left known (k * f.size) l) paced };
      same = ap (emits (pulses f) (part s)) (words_dropped f.size (size-pos known) k l h) ∙ sym (follows like s ws off);
    }

-- and what it hands over
pub handed : {f : Form} {c : Times} {i : ℕ} {l : List ℕ} {gs : List Trigger} → Started f c i l gs → {r : ℕ} {ts₀ : List ℤ} {ids₀ values₀ : List ℕ} {ts : List ℤ}
    {ids values : List ℕ} → (r ≡ length (pulses_from f c i l)) × HandedTriggers (pulses_from f c i l) ts₀ ids₀ values₀ ts ids values
    → (r ≡ length gs) × HandedTriggers gs ts₀ ids₀ values₀ ts ids values
handed u h = rw u.same at h

-- ---- EVT2

abbrev pub times2 : Evt2Decoder → Times
times2 d = record { base = d.time_high; time = d.time_high; loops = d.high_loops }

module _ (d : Evt2Decoder) (w : ℕ) where
  steps2 : times2 (step2 d w) ≡ ticked form2 (times2 d) w
  unfolding step2 ticked
  steps2 = go (eqb (type2 w) 8) d.initialised (ltb (type2 w) 2)
    where
      go : (b s e : Bool) → times2 (Evt2.step_as (cond b Evt2.time_high_lem (cond s (cond e Evt2.event Evt2.skip) Evt2.skip)) d w)
          ≡ cond b (time_word form2 (times2 d) w) (cond b (fine_word form2 (times2 d) w) (times2 d))
      go true s e = refl
      go false true true = refl
      go false true false = refl
      go false false e = refl

  keeps2 : d.initialised ≡ true → (step2 d w).initialised ≡ true
  unfolding step2
  keeps2 on = Evt2.by_kinds (λ k. (Evt2.step_as k d w).initialised ≡ true) (type2 w) d.initialised refl (λ o q. on) on

  same2 : d.initialised ≡ true → trigger2 d w ≡ triggered form2 (times2 d) w
  unfolding trigger2 triggered
  same2 on = rw on

follows2 : Follows triggers2 (pulses form2) times2 (λ d. d.initialised) (is_time form2) fresh2
unfolding step2 trigger2
follows2 = record {
  stays = keeps2;
  steps = λ d w on. steps2 d w;
  same = same2;
  mute = λ w. refl;
  idle = λ w h. rw h;
  begins = λ w h. (rw h, steps2 fresh2 w, no_trigger_lem form2 (times2 fresh2) w (λ e. omega (arith, eqb-true (type2 w) 8 h)));
}

-- ---- EVT2.1: a word does what its upper half does in EVT2

abbrev times21 : Evt21Decoder → Times
times21 d = times2 (as2 d)

module _ (c : Times) (w : ℕ) where
  tick_upper : ticked form2 c (upper w) ≡ ticked form21 c w
  unfolding ticked
  tick_upper = rw (upper_type w, upper_time w)

  trigger_upper : triggered form2 c (upper w) ≡ triggered form21 c w
  unfolding triggered
  trigger_upper = rw (upper_type w, upper_low w, upper_id w, upper-value w)

time_upper : (w : ℕ) → is_time form2 (upper w) ≡ is_time form21 w
time_upper w = ap (λ (k : ℕ). eqb k 8) (upper_type w)

follows21 : Follows triggers21 (pulses form21) times21 (λ d. d.initialised) (is_time form21) fresh21
follows21 = record {
  stays = λ d w. keeps2 (as2 d) (upper w);
  steps = λ d w on. steps2 (as2 d) (upper w) ∙ tick_upper (times21 d) w;
  same = λ d w on. same2 (as2 d) (upper w) on ∙ trigger_upper (times21 d) w;
  mute = λ w. follows2.mute (upper w);
  idle = λ w h. ap of2 (follows2.idle (upper w) (time_upper w ∙ h));
  begins = λ w h.
      let b = follows2.begins (upper w) (time_upper w ∙ h) in
      (b.0, b.1 ∙ tick_upper (times21 fresh21) w, sym (trigger_upper (times21 fresh21) w) ∙ b.2);
}

-- ---- EVT3

abbrev pub times3 : Decoder → Times
times3 d = record { base = d.time_base; time = d.time; loops = d.high_loops }

module _ (d : Decoder) (w : ℕ) (on : d.initialised ≡ true) where
  steps3 : times3 (step3 d w) ≡ ticked form3 (times3 d) w
  unfolding step3 ticked
  steps3 = go (eqb (type3 w) 8) (eqb (type3 w) 6) refl refl
    where
      Kept : Evt3.Kind → Type 0
      Kept r = times3 (Evt3.step_as r d w) ≡ times3 d

      go : (b e : Bool) → eqb (type3 w) 8 ≡ b → eqb (type3 w) 6 ≡ e
          → times3 (step3 d w) ≡ cond b (time_word form3 (times3 d) w) (cond e (fine_word form3 (times3 d) w) (times3 d))
      go true e is_b is-e = ap times3 (Evt3.started_word d w (type3 w) refl 8 (eqb-true (type3 w) 8 is_b) on).0
      go false true is_b is-e = ap times3 (Evt3.started_word d w (type3 w) refl 6 (eqb-true (type3 w) 6 is-e) on).0
      go false false is_b is-e =
          ap (λ (b : Bool). times3 (Evt3.step_as (Evt3.kind_of (type3 w) b) d w)) on
          ∙ rw (is_b, is-e) (either Kept (eqb (type3 w) 0) refl (either Kept (eqb (type3 w) 2) refl (either Kept (eqb (type3 w) 3) refl
          (either Kept (eqb (type3 w) 4) refl (either Kept (eqb (type3 w) 5) refl refl)))))

  keeps3 : (step3 d w).initialised ≡ true
  unfolding step3
  keeps3 = Evt3.by_kinds (λ k. (Evt3.step_as k d w).initialised ≡ true) (type3 w) d.initialised
      (λ o. refl) (λ o. refl) (λ o. on) (λ o. on) (λ o. on) (λ o. on) (λ o. on) (λ o. on) on

  same3 : trigger3 d w ≡ triggered form3 (times3 d) w
  unfolding trigger3 triggered
  same3 =
      let e : d.time ≡ d.time + w / 2 ^ 22 % 2 ^ 0 = omega arith in
      rw on (ap (λ (t : ℕ). cond (eqb (type3 w) trigger_type) (record { t = t; id = trigger_id3 w; value = trigger_value3 w } ∷ []) []) e)

follows3 : Follows triggers3 (pulses form3) times3 (λ d. d.initialised) (is_time form3) fresh3
unfolding step3 trigger3
follows3 = record {
  stays = keeps3;
  steps = steps3;
  same = same3;
  mute = λ w. refl;
  idle = λ w h. rw h;
  begins = λ w h.
      let is = eqb-true (type3 w) 8 h in
      let raw = time3 w * grain3 in
      let q = tracks_same period3 threshold3 0 0 raw raw (omega arith) (omega arith) in
      let set : time_word form3 (times3 fresh3) w ≡ set_to raw 0 = λ i. set_to (q.1 i) (q.0 i) in
      let first = ap times3 (Evt3.first_word fresh3 w (type3 w) refl is refl).0 in
      (rw h, first ∙ sym (tick_time form3 (times3 fresh3) w is ∙ set), no_trigger_lem form3 (times3 fresh3) w (λ e. omega arith));
}

-- ---- any

abbrev pub outset_of : Codec → Outset
outset_of (Evt2 d) = record { started = d.initialised; times = times2 d }
outset_of (Evt21 d) = record { started = d.initialised; times = times21 d }
outset_of (Evt3 d) = record { started = d.initialised; times = times3 d }

abbrev pub form_of : Codec → Form
form_of (Evt2 d) = form2
form_of (Evt21 d) = form21
form_of (Evt3 d) = form3

pub start : (c : Codec) (l : List ℕ) → Bounded (length l) c
    → let o = outset_of c in Started (form_of c) o.times (start_of (form_of c) o.started l) l (triggers_from c l)
start (Evt2 d) l b =
    starts known2 follows2 d l b.regular.unstarted (record { loops = omega (arith, b.loops); base = below2 d b.regular; near = omega arith })
start (Evt21 d) l b =
    starts known21 follows21 d l (λ off. ap of2 (b.regular.unstarted off))
    (record { loops = omega (arith, b.loops); base = below2 (as2 d) b.regular; near = omega arith })
start (Evt3 d) l b =
    starts known3 follows3 d l b.regular.unstarted
    (record { loops = omega (arith, b.loops); base = below3 d b.regular; near = near3 d b.regular })

-- by its encoding
pub begun : (c : Codec) (l : List ℕ) → Bounded (length l) c → {o : Outset} → o ≡ outset_of c → {f : Form} → form_of c ≡ f
    → Started f o.times (start_of f o.started l) l (triggers_from c l)
begun c l b is_o is_f = rw (is_o, ← is_f) (start c l b)
