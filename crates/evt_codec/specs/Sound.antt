-- What every encoding's reader keeps: from a decoder in range (10) no sum wraps over as many bytes as are read (4), times stay below 2^63, a word has no more
-- events than is said.
use Rattle.std.specs.Prelude.{◌≡◌, refl, Bool, true, false, List, [], ℕ, suc, ◌+◌, ◌*◌, ◌/◌, ◌^◌, ◌≤◌, ◌<◌, length}
use Rattle.std.proofs.Common.{sym, ap, subst, ◌∙◌, true≢false, arith, zero-mul, lt-ltb}
use Rattle.laws_stream.specs.{Machine.All, Stream.after, Words.words_of, Words.length-words}
use Rattle.evt_types.specs.{declared.Encoding.Encoding, declared.vector.Vector.Vector, Event.events_of, Event.events_timed, Event.events-masked, Event.Narrow}
use Rattle.evt_types.specs.{Event.no_events, Event.no_events_lem, Trigger.Trigger, Trigger.trigger_if, Trigger.trigger_other}
use Rattle.evt_types.specs.Layout.{type2, time_low2, type3, time3, grain3, trigger_type, upper, upper_type, mask21}
use Rattle.evt_types.specs.declared.Encoding.TheVariants as E
use Rattle.evt2_decoder.specs.{declared.Evt2Decoder.Evt2Decoder, Evt2.step2, Evt2.vector2, Triggers.few_triggers2, Triggers.trigger2, Triggers.trigger_in2}
use Rattle.evt2_decoder.specs.Range.{Bounded2}
use Rattle.evt2_decoder.specs.Range.{bounded_range2}
use Rattle.evt21_decoder.specs.{declared.Evt21Decoder.Evt21Decoder, Evt21.as2, Evt21.wide, Evt21.vector21, Range.few21, Range.bounded_step21}
use Rattle.evt21_decoder.specs.{Range.bounded_narrow21}
use Rattle.evt21_decoder.specs.{Range.bounded_range21, Range.fresh_range21, Triggers.trigger21, Triggers.few_triggers21, Triggers.trigger_alone21}
use Rattle.evt3_decoder.specs.{declared.Decoder.Decoder, Evt3.step3, Evt3.vector3, Evt3.period3, Evt3.threshold3, Triggers.few_triggers3, Triggers.trigger3}
use Rattle.evt3_decoder.specs.Triggers.{trigger_in3}
use Rattle.evt3_decoder.specs.Range.{Paced3, regular_range3}
use Rattle.evt2_decoder.specs.Evt2 as Evt2
use Rattle.evt3_decoder.specs.Evt3 as Evt3
use Rattle.evt_codec.specs.declared.{codec.Codec.Codec, codec.Codec.TheVariants.Evt2, codec.Codec.TheVariants.Evt21, codec.Codec.TheVariants.Evt3}
use Rattle.evt_codec.specs.Reader.{Reader, carries2, carries21, carries_as, carries3, evt2, evt21, evt3, reader_of, view}
use Rattle.evt_codec.specs.Codec.{word_size, in_range_c, Bounded, Able, Fitting}
use Rattle.laws_stream.proofs.LoopLaws.{loops_one}
use Rattle.evt2_decoder.proofs.Evt2Laws.{few2}
use Rattle.evt2_decoder.proofs.{RangeLaws.bounded_narrow2, RangeLaws.bounded_step2, RangeLaws.fresh_range2, RangeLaws.regular_step2}
use Rattle.evt2_decoder.proofs.{TriggersLaws.trigger_alone2}
use Rattle.evt3_decoder.proofs.{RangeLaws.bounded_narrow3, RangeLaws.bounded_step3, RangeLaws.fresh_range3, RangeLaws.regular_step3}
use Rattle.evt3_decoder.proofs.{TriggersLaws.trigger_alone3}

pub record Sound (R : Reader) : Type 0 where
  pub some : 0 < R.size
  pub emits : (s : R.State) (w : ℕ) → R.machine.emit s w ≡ events_of (R.vector s w)
  pub few : (s : R.State) (w : ℕ) → (R.vector s w).mask < 2 ^ R.most
  pub spread : (n : ℕ) → R.most * (n / R.size) ≤ 6 * n
  -- a trigger stands alone in its word
  pub few_triggers : (s : R.State) (w : ℕ) → length (R.trigger s w) ≤ 1
  pub apart : (s : R.State) (w : ℕ) → 0 < length (R.machine.emit s w) → R.trigger s w ≡ []
  -- an event's time is the decoder's after its word; a word of another type carries none
  pub stamped : (s : R.State) (w : ℕ) → All (λ e. e.t ≡ R.time (R.machine.step s w)) (R.machine.emit s w)
  pub silent : (s : R.State) (w : ℕ) → R.carries w ≡ false → R.machine.emit s w ≡ []
  -- what is started stays so
  pub stays : (s : R.State) (w : ℕ) → R.started s ≡ true → R.started (R.machine.step s w) ≡ true
  pub regular : (n : ℕ) (s : R.State) → R.Able n s → R.Regular s
  pub regular_steps : (s : R.State) (w : ℕ) → R.Regular s → R.Regular (R.machine.step s w)
  pub unstarted : (s : R.State) → R.Regular s → R.started s ≡ false → R.time s ≡ 0
  -- a state that takes n words more
  pub steps : (n : ℕ) (s : R.State) (w : ℕ) → R.Bounded (suc n) s → R.Bounded n (R.machine.step s w)
  pub narrow : (n : ℕ) (s : R.State) (w : ℕ) → R.Bounded n s → Narrow (R.vector s w)
  pub less : {m n : ℕ} (s : R.State) → m ≤ n → R.Bounded (n / R.size) s → R.Bounded (m / R.size) s
  pub able : (n : ℕ) (s : R.State) → R.Bounded n s → R.Able n s
  pub fits : (n : ℕ) (s : R.State) → R.Able n s → R.Fitting s → R.Bounded n s
  pub able_steps : (n : ℕ) (s : R.State) (w : ℕ) → R.Able (suc n) s → R.Able n (R.machine.step s w)
  pub time< : (n : ℕ) (s : R.State) → R.Able n s → R.time s < 2 ^ 63
  pub times< : (n : ℕ) (s : R.State) (w : ℕ) → R.Able n s → (R.vector s w).t < 2 ^ 63
  -- in range
  pub range : (bytes : ℕ) (s : R.State) → R.in_range s ≡ true → bytes ≤ 2 ^ 30 → R.Able (bytes / R.size) s
  pub fresh_fits : R.Fitting R.fresh
  pub fresh_range : R.in_range R.fresh ≡ true
  pub fresh_stays : (l : List ℕ) → length l ≤ 2 ^ 30 → R.in_range (after R.size R.machine R.fresh l) ≡ true

-- ---- EVT2

time2 : (n : ℕ) (d : Evt2Decoder) → Bounded2 n d → d.time < 2 ^ 63
time2 n d b = go d.initialised refl
  where
    go : (t : Bool) → d.initialised ≡ t → d.time < 2 ^ 63
    go true e = let k = b.regular.started e in omega (arith, k.near, k.high, b.loops)
    go false e = rw (b.regular.unstarted e) (omega arith)

none_stamped : (v : Vector) (t : ℕ) → v.mask ≡ 0 → All (λ e. e.t ≡ t) (events_of v)
none_stamped v t z = rw (events-masked v z) tt

-- a word of a trigger's type has no event
alone : (started : Bool) (type : ℕ) (g : Trigger) (v : Vector) → (type ≡ trigger_type → v ≡ no_events) → 0 < length (events_of v) → trigger_if started type g ≡ []
alone started type g v h some = trigger_other started type g (λ e. let z = ap length (ap events_of (h e) ∙ no_events_lem) in omega (arith, z))

apart2 : (d : Evt2Decoder) (w : ℕ) → 0 < length (events_of (vector2 d w)) → trigger2 d w ≡ []
unfolding trigger2
apart2 d w = alone d.initialised (type2 w) (trigger_in2 d w) (vector2 d w) (λ e. (trigger_alone2 d w e).1)

stamped2 : (d : Evt2Decoder) (w : ℕ) → All (λ e. e.t ≡ (step2 d w).time) (events_of (vector2 d w))
unfolding step2 vector2
stamped2 d w = Evt2.by_kinds (λ k. All (λ e. e.t ≡ (Evt2.step_as k d w).time) (events_of (Evt2.vector_as k d w))) (type2 w) d.initialised
    (none_stamped _ _ refl) (λ on q. events_timed (λ t. t ≡ d.time_high + time_low2 w) _ refl) (none_stamped _ _ refl)

silent2 : (d : Evt2Decoder) (w : ℕ) → carries2 w ≡ false → events_of (vector2 d w) ≡ []
unfolding vector2
silent2 d w z = Evt2.by_kinds (λ k. events_of (Evt2.vector_as k d w) ≡ []) (type2 w) d.initialised (events-masked _ refl)
    (λ on q. absurd (true≢false (sym (lt-ltb (type2 w) 2 q) ∙ z))) (events-masked _ refl)

stays2 : (d : Evt2Decoder) (w : ℕ) → d.initialised ≡ true → (step2 d w).initialised ≡ true
unfolding step2
stays2 d w h = Evt2.by_kinds (λ k. (Evt2.step_as k d w).initialised ≡ true) (type2 w) d.initialised refl (λ s l. h) h

pub sound2 : Sound evt2
sound2 = record {
  some = omega arith;
  emits = λ d w. refl;
  few = few2;
  spread = λ n. omega arith;
  few_triggers = few_triggers2;
  apart = apart2;
  stamped = stamped2;
  silent = silent2;
  stays = stays2;
  regular = λ n d b. b.regular;
  regular_steps = regular_step2;
  unstarted = λ d r off. ap (λ (d : Evt2Decoder). d.time) (r.unstarted off);
  steps = bounded_step2;
  narrow = λ n d w b. bounded_narrow2 w b;
  less = λ d h b. record { regular = b.regular; loops = omega (arith, b.loops) };
  able = λ n d b. b;
  fits = λ n d a f. a;
  able_steps = bounded_step2;
  time< = time2;
  times< = λ n d w b. (bounded_narrow2 w b).t<;
  range = λ bytes d r h. bounded_range2 (bytes / 4) d r (omega arith);
  fresh_fits = tt;
  fresh_range = refl;
  fresh_stays = fresh_range2;
}

-- ---- EVT2.1: as EVT2 over the upper halves

stamped21 : (d : Evt21Decoder) (w : ℕ) → All (λ e. e.t ≡ (step2 (as2 d) (upper w)).time) (events_of (vector21 d w))
unfolding step2 vector2
stamped21 d w =
    Evt2.by_kinds (λ k. All (λ e. e.t ≡ (Evt2.step_as k (as2 d) (upper w)).time) (events_of (wide (Evt2.vector_as k (as2 d) (upper w)) (mask21 w))))
    (type2 (upper w)) d.initialised
    (none_stamped _ _ (zero-mul (mask21 w))) (λ on q. events_timed (λ t. t ≡ d.time_high + time_low2 (upper w)) _ refl)
    (none_stamped _ _ (zero-mul (mask21 w)))

silent21 : (d : Evt21Decoder) (w : ℕ) → carries21 w ≡ false → events_of (vector21 d w) ≡ []
unfolding vector2
silent21 d w z =
    Evt2.by_kinds (λ k. events_of (wide (Evt2.vector_as k (as2 d) (upper w)) (mask21 w)) ≡ []) (type2 (upper w)) d.initialised
    (events-masked _ (zero-mul (mask21 w))) (λ on q. absurd (true≢false (sym (lt-ltb (type2 (upper w)) 2 q) ∙ z))) (events-masked _ (zero-mul (mask21 w)))

apart21 : (d : Evt21Decoder) (w : ℕ) → 0 < length (events_of (vector21 d w)) → trigger21 d w ≡ []
unfolding trigger2
apart21 d w = alone d.initialised (type2 (upper w)) (trigger_in2 (as2 d) (upper w)) (vector21 d w) (λ e. (trigger_alone21 d w (sym (upper_type w) ∙ e)).1)

pub sound21 : Sound evt21
sound21 = record {
  some = omega arith;
  emits = λ d w. refl;
  few = few21;
  spread = λ n. omega arith;
  few_triggers = few_triggers21;
  apart = apart21;
  stamped = stamped21;
  silent = silent21;
  stays = λ d w on. stays2 (as2 d) (upper w) on;
  regular = λ n d b. b.regular;
  regular_steps = λ d w r. regular_step2 (as2 d) (upper w) r;
  unstarted = λ d r off. ap (λ (d : Evt2Decoder). d.time) (r.unstarted off);
  steps = bounded_step21;
  narrow = λ n d w b. bounded_narrow21 w b;
  less = λ d h b. record { regular = b.regular; loops = omega (arith, b.loops) };
  able = λ n d b. b;
  fits = λ n d a f. a;
  able_steps = bounded_step21;
  time< = λ n d b. time2 n (as2 d) b;
  times< = λ n d w b. (bounded_narrow21 w b).t<;
  range = λ bytes d r h. bounded_range21 (bytes / 8) d r (omega arith);
  fresh_fits = tt;
  fresh_range = refl;
  fresh_stays = fresh_range21;
}

-- ---- EVT3

few3 : (d : Decoder) (w : ℕ) → (vector3 d w).mask < 2 ^ 12
unfolding vector3
few3 d w = Evt3.by_kinds (λ k. (Evt3.vector_as k d w).mask < 2 ^ 12) (type3 w) d.initialised
    (λ o. omega arith) (λ o. omega arith) (λ o. omega arith) (λ o. omega arith) (λ o. omega arith) (λ o. omega arith) (λ o. omega arith)
    (λ o. omega arith) (omega arith)

loops3 : (d : Decoder) (w : ℕ) → (step3 d w).high_loops ≤ suc d.high_loops
unfolding step3
loops3 d w =
    let same : d.high_loops ≤ suc d.high_loops = omega arith in
    Evt3.by_kinds (λ k. (Evt3.step_as k d w).high_loops ≤ suc d.high_loops) (type3 w) d.initialised
    (λ o. same) (λ o. (loops_one period3 threshold3 d.time_base d.high_loops (time3 w * grain3)).1)
    (λ o. same) (λ o. same) (λ o. same) (λ o. same) (λ o. same) (λ o. same) same

time3-lt : (n : ℕ) (d : Decoder) → Paced3 n d → d.time < 2 ^ 63
time3-lt n d b = go d.initialised refl
  where
    go : (t : Bool) → d.initialised ≡ t → d.time < 2 ^ 63
    go true e = let k = (b.regular.started e).0 in omega (arith, k.near, k.high, b.loops)
    go false e = rw (b.regular.unstarted e) (omega arith)

stamp3 : (d : Decoder) (w : ℕ) → d.time < 2 ^ 63 → (vector3 d w).t < 2 ^ 63
unfolding vector3
stamp3 d w h = Evt3.by_kinds (λ k. (Evt3.vector_as k d w).t < 2 ^ 63) (type3 w) d.initialised
    (λ o. omega arith) (λ o. omega arith) (λ o. omega arith) (λ o. omega arith) (λ o. h) (λ o. omega arith) (λ o. h) (λ o. h) (omega arith)

apart3 : (d : Decoder) (w : ℕ) → 0 < length (events_of (vector3 d w)) → trigger3 d w ≡ []
unfolding trigger3
apart3 d w = alone d.initialised (type3 w) (trigger_in3 d w) (vector3 d w) (λ e. (trigger_alone3 d w e).1)

stamped3 : (d : Decoder) (w : ℕ) → All (λ e. e.t ≡ (step3 d w).time) (events_of (vector3 d w))
unfolding step3 vector3
stamped3 d w =
    let now : (v : Vector) → v.t ≡ d.time → All (λ e. e.t ≡ d.time) (events_of v) = λ v h. events_timed (λ t. t ≡ d.time) v h in
    Evt3.by_kinds (λ k. All (λ e. e.t ≡ (Evt3.step_as k d w).time) (events_of (Evt3.vector_as k d w))) (type3 w) d.initialised
    (λ o. none_stamped _ _ refl) (λ o. none_stamped _ _ refl) (λ o. none_stamped _ _ refl) (λ o. none_stamped _ _ refl)
    (λ o. now _ refl) (λ o. none_stamped _ _ refl) (λ o. now _ refl) (λ o. now _ refl) (none_stamped _ _ refl)

silent3 : (d : Decoder) (w : ℕ) → carries3 w ≡ false → events_of (vector3 d w) ≡ []
unfolding vector3
silent3 d w = go d.initialised
  where
    no : {A : Type 0} → true ≡ false → A
    no e = absurd (true≢false e)

    started : carries_as (type3 w) ≡ false → events_of (Evt3.vector_as (Evt3.kind_on (type3 w)) d w) ≡ []
    started = Evt3.by_type (λ k. carries_as k ≡ false → events_of (Evt3.vector_as (Evt3.kind_on k) d w) ≡ []) (type3 w)
        (λ z. events-masked _ refl) (λ z. no z) (λ z. events-masked _ refl) (λ z. no z) (λ z. no z) (λ z. events-masked _ refl) (λ z. events-masked _ refl)
        (λ e0 e2 e3 e4 e5 e6 e8 z. rw (e0, e2, e3, e4, e5, e6, e8) (events-masked _ refl))

    go : (b : Bool) → carries3 w ≡ false → events_of (Evt3.vector_as (Evt3.kind_of (type3 w) b) d w) ≡ []
    go true z = started z
    go false z = Evt3.by_kinds (λ k. events_of (Evt3.vector_as k d w) ≡ []) (type3 w) false
        (λ o. events-masked _ refl) (λ o. no (sym o)) (λ o. no (sym o)) (λ o. no (sym o)) (λ o. no (sym o)) (λ o. no (sym o)) (λ o. no (sym o))
        (λ o. no (sym o)) (events-masked _ refl)

stays3 : (d : Decoder) (w : ℕ) → d.initialised ≡ true → (step3 d w).initialised ≡ true
unfolding step3
stays3 d w h = Evt3.by_kinds (λ k. (Evt3.step_as k d w).initialised ≡ true) (type3 w) d.initialised
    (λ o. refl) (λ o. refl) (λ o. h) (λ o. h) (λ o. h) (λ o. h) (λ o. h) (λ o. h) h

pub sound3 : Sound evt3
sound3 = record {
  some = omega arith;
  emits = λ d w. refl;
  few = few3;
  spread = λ n. omega arith;
  few_triggers = few_triggers3;
  apart = apart3;
  stamped = stamped3;
  silent = silent3;
  stays = stays3;
  regular = λ n d b. b.regular;
  regular_steps = regular_step3;
  unstarted = λ d r off. ap (λ (d : Decoder). d.time) (r.unstarted off);
  steps = bounded_step3;
  narrow = λ n d w b. bounded_narrow3 w b;
  less = λ d h b. record { regular = b.regular; loops = omega (arith, b.loops); column = b.column };
  able = λ n d b. record { regular = b.regular; loops = b.loops };
  fits = λ n d a f. record { regular = a.regular; loops = a.loops; column = f };
  able_steps = λ n d w b. record { regular = regular_step3 d w b.regular; loops = omega (arith, b.loops, loops3 d w) };
  time< = time3-lt;
  times< = λ n d w b. stamp3 d w (time3-lt n d b);
  range = λ bytes d r h. let k = regular_range3 d r in record { regular = k.0; loops = omega (arith, k.1) };
  fresh_fits = omega arith;
  fresh_range = refl;
  fresh_stays = fresh_range3;
}

-- ---- every encoding's

-- words have at most 8 bytes
pub small2 : evt2.size ≤ 8
small2 = omega arith

pub small21 : evt21.size ≤ 8
small21 = omega arith

pub small3 : evt3.size ≤ 8
small3 = omega arith

pub sound_of : (e : Encoding) → Sound (reader_of e)
sound_of E.Evt2 = sound2
sound_of E.Evt21 = sound21
sound_of E.Evt3 = sound3

pub sound : (c : Codec) → Sound (view c).reader
sound (Evt2 d) = sound2
sound (Evt21 d) = sound21
sound (Evt3 d) = sound3

module _ (R : Reader) (l : List ℕ) {s : R.State} where
  pub reader_bounded : R.Bounded (length l / R.size) s → R.Bounded (length (words_of R.size l)) s
  reader_bounded b = subst (λ (n : ℕ). R.Bounded n s) (sym (length-words R.size l)) b

  pub reader_able : R.Able (length l / R.size) s → R.Able (length (words_of R.size l)) s
  reader_able a = subst (λ (n : ℕ). R.Able n s) (sym (length-words R.size l)) a

module _ (c : Codec) where
  pub able_range : (bytes : ℕ) → in_range_c c ≡ true → bytes ≤ 2 ^ 30 → Able bytes c
  able_range bytes r h = (sound c).range bytes (view c).state r h

  pub able_bounded : (bytes : ℕ) → Bounded bytes c → Able bytes c
  able_bounded bytes b = (sound c).able (bytes / word_size c) (view c).state b

  pub able_fitting : (bytes : ℕ) → Able bytes c → Fitting c → Bounded bytes c
  able_fitting bytes a f = (sound c).fits (bytes / word_size c) (view c).state a f

  -- by the number of words
  module _ (l : List ℕ) where
    pub bounded_words : Bounded (length l) c → (view c).reader.Bounded (length (words_of (word_size c) l)) (view c).state
    bounded_words b = reader_bounded (view c).reader l b

    pub able_words : Able (length l) c → (view c).reader.Able (length (words_of (word_size c) l)) (view c).state
    able_words a = reader_able (view c).reader l a
