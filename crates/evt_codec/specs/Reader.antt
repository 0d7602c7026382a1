-- What the decoder of an encoding is, in one record. Whatever holds of a decoder of any encoding is said and proved over it, once.
use Rattle.std.specs.Prelude.{Bool, ◌||◌, List, ℕ, ◌<◌, ◌^◌, eqb, ltb}
use Rattle.laws_stream.specs.Machine.{Machine}
use Rattle.evt_types.specs.{declared.Encoding.Encoding, declared.vector.Vector.Vector, Event.Event, Trigger.Trigger, Layout.word_size2, Layout.word_size3}
use Rattle.evt_types.specs.Layout.{type2, type3, upper, word_size21}
use Rattle.evt_types.specs.declared.Encoding.TheVariants as E
use Rattle.evt_codec.specs.declared.{codec.Codec.Codec, codec.Codec.TheVariants.Evt2, codec.Codec.TheVariants.Evt21, codec.Codec.TheVariants.Evt3}
use Rattle.evt2_decoder.specs.{declared.Evt2Decoder.Evt2Decoder, Evt2.fresh2, Evt2.in_range2, Evt2.vector2, Evt2.reader2, Triggers.trigger2, Range.Bounded2}
use Rattle.evt2_decoder.specs.Range.{Regular2}
use Rattle.evt21_decoder.specs.{declared.Evt21Decoder.Evt21Decoder, Evt21.as2, Evt21.fresh21, Evt21.in_range21, Evt21.vector21, Evt21.reader21}
use Rattle.evt21_decoder.specs.{Triggers.trigger21, Range.Bounded21}
use Rattle.evt3_decoder.specs.{declared.Decoder.Decoder, Evt3.fresh3, Evt3.in_range3, Evt3.vector3, Evt3.reader3, Triggers.trigger3, Range.Bounded3}
use Rattle.evt3_decoder.specs.Range.{Paced3, Regular3}

pub record Reader : Type 1 where
  pub encoding : Encoding
  pub State : Type 0
  -- the bytes of a word, and the most events that one carries
  pub size : ℕ
  pub most : ℕ
  pub fresh : State
  -- what a word does to a state and the events that it carries; these as columns and a mask; its trigger
  pub machine : Machine State ℕ Event
  pub vector : State → ℕ → Vector
  pub trigger : State → ℕ → List Trigger
  -- whether a word is of a type that carries events
  pub carries : ℕ → Bool
  pub started : State → Bool
  pub coarse : State → ℕ
  pub time : State → ℕ
  pub loops : State → ℕ
  -- rule 10, and what every state keeps that came from one in range
  pub in_range : State → Bool
  pub Regular : State → Type 0
  -- the state takes n words more and no sum wraps: in all, and but for what the types of its fields say by themselves
  pub Bounded : ℕ → State → Type 0
  pub Able : ℕ → State → Type 0
  pub Fitting : State → Type 0
  pub codec : State → Codec

-- types 0 and 1 of EVT2, 2, 4 and 5 of EVT3
abbrev pub carries2 : ℕ → Bool
carries2 w = ltb (type2 w) 2

abbrev pub carries_as : (type : ℕ) → Bool
carries_as k = eqb k 2 || (eqb k 4 || eqb k 5)

abbrev pub carries3 : ℕ → Bool
carries3 w = carries_as (type3 w)

abbrev pub evt2 : Reader
evt2 = record {
  encoding = E.Evt2;
  State = Evt2Decoder;
  size = word_size2;
  most = 1;
  fresh = fresh2;
  machine = reader2;
  vector = vector2;
  trigger = trigger2;
  carries = carries2;
  started = λ d. d.initialised;
  coarse = λ d. d.time_high;
  time = λ d. d.time;
  loops = λ d. d.high_loops;
  in_range = in_range2;
  Regular = Regular2;
  Bounded = Bounded2;
  Able = Bounded2;
  Fitting = λ d. Unit;
  codec = Evt2;
}

-- of EVT2.1 too
abbrev pub carries21 : ℕ → Bool
carries21 w = carries2 (upper w)

abbrev pub evt21 : Reader
evt21 = record {
  encoding = E.Evt21;
  State = Evt21Decoder;
  size = word_size21;
  most = 32;
  fresh = fresh21;
  machine = reader21;
  vector = vector21;
  trigger = trigger21;
  carries = carries21;
  started = λ d. d.initialised;
  coarse = λ d. d.time_high;
  time = λ d. d.time;
  loops = λ d. d.high_loops;
  in_range = in_range21;
  Regular = λ d. Regular2 (as2 d);
  Bounded = Bounded21;
  Able = Bounded21;
  Fitting = λ d. Unit;
  codec = Evt21;
}

abbrev pub evt3 : Reader
evt3 = record {
  encoding = E.Evt3;
  State = Decoder;
  size = word_size3;
  most = 12;
  fresh = fresh3;
  machine = reader3;
  vector = vector3;
  trigger = trigger3;
  carries = carries3;
  started = λ d. d.initialised;
  coarse = λ d. d.time_base;
  time = λ d. d.time;
  loops = λ d. d.high_loops;
  in_range = in_range3;
  Regular = Regular3;
  Bounded = Bounded3;
  Able = Paced3;
  Fitting = λ d. d.base_x < 2 ^ 16;
  codec = Evt3;
}

abbrev pub reader_of : Encoding → Reader
reader_of E.Evt2 = evt2
reader_of E.Evt21 = evt21
reader_of E.Evt3 = evt3

-- a decoder of some encoding, taken apart
pub record View : Type 1 where
  pub reader : Reader
  pub state : reader.State

abbrev pub view : Codec → View
view (Evt2 d) = record { reader = evt2; state = d }
view (Evt21 d) = record { reader = evt21; state = d }
view (Evt3 d) = record { reader = evt3; state = d }

abbrev pub viewed : (R : Reader) → R.State → View
viewed R s = record { reader = R; state = s }
