-- A decoder of any encoding, over what its encoding's reader says.
use Rattle.std.specs.Prelude.{◌≡◌, refl, Bool, cond, List, ℕ, ◌/◌, ltb, length, take}
use Rattle.std.proofs.Common.{ap}
use Rattle.laws_stream.specs.{Words.value, Stream.decode, Stream.after}
use Rattle.evt_types.specs.{declared.Encoding.Encoding, declared.vector.Vector.Vector, Event.Event, Event.no_events}
use Rattle.evt_types.specs.declared.Encoding.TheVariants as E
use Rattle.evt_codec.specs.declared.{codec.Codec.Codec, codec.Codec.TheVariants.Evt2, codec.Codec.TheVariants.Evt21, codec.Codec.TheVariants.Evt3}
use Rattle.evt_codec.specs.Reader.{View, view, reader_of}

abbrev pub fresh_c : Encoding → Codec
fresh_c e = (reader_of e).codec (reader_of e).fresh

abbrev pub word_size : Codec → ℕ
word_size c = (view c).reader.size

abbrev pub encoding_of : Codec → Encoding
encoding_of c = (view c).reader.encoding

-- whether it is started, its coarse time and its time, the loops that it counted
abbrev pub started_c : Codec → Bool
started_c c = (view c).reader.started (view c).state

abbrev pub coarse_c : Codec → ℕ
coarse_c c = (view c).reader.coarse (view c).state

abbrev pub time_c : Codec → ℕ
time_c c = (view c).reader.time (view c).state

abbrev pub loops_c : Codec → ℕ
loops_c c = (view c).reader.loops (view c).state

abbrev pub in_range_c : Codec → Bool
in_range_c c = (view c).reader.in_range (view c).state

-- the first word of some bytes
abbrev pub on_word : Codec → List ℕ → Codec
on_word c l = (view c).reader.codec ((view c).reader.machine.step (view c).state (value (take (word_size c) l)))

abbrev pub of_word : Codec → List ℕ → Vector
of_word c l = (view c).reader.vector (view c).state (value (take (word_size c) l))

-- with fewer bytes than a word nothing happens
abbrev pub step_c : Codec → List ℕ → Codec
step_c c l = cond (ltb (length l) (word_size c)) c (on_word c l)

abbrev pub vector_c : Codec → List ℕ → Vector
vector_c c l = cond (ltb (length l) (word_size c)) no_events (of_word c l)

-- all events of some bytes, and the decoder after them: a broken last word is passed over
abbrev pub events_from : Codec → List ℕ → List Event
events_from c l = decode (word_size c) (view c).reader.machine (view c).state l

abbrev pub state_after : (c : Codec) → List ℕ → (view c).reader.State
state_after c l = after (word_size c) (view c).reader.machine (view c).state l

abbrev pub codec_after : Codec → List ℕ → Codec
codec_after c l = (view c).reader.codec (state_after c l)

-- the decoder can take n bytes more, and no sum wraps: in all, and but for what the types of its fields say by themselves
abbrev pub Bounded : ℕ → Codec → Type 0
Bounded n c = (view c).reader.Bounded (n / word_size c) (view c).state

abbrev pub Able : ℕ → Codec → Type 0
Able n c = (view c).reader.Able (n / word_size c) (view c).state

abbrev pub Fitting : Codec → Type 0
Fitting c = (view c).reader.Fitting (view c).state

-- ---- taken apart again, and put together

pub codec_view : (c : Codec) → (view c).reader.codec (view c).state ≡ c
codec_view (Evt2 d) = refl
codec_view (Evt21 d) = refl
codec_view (Evt3 d) = refl

pub view_codec : (c : Codec) (s : (view c).reader.State) → ◌≡◌ {A = View} (view ((view c).reader.codec s)) (record { reader = (view c).reader; state = s })
view_codec (Evt2 d) s = refl
view_codec (Evt21 d) s = refl
view_codec (Evt3 d) s = refl

pub view-after : (c : Codec) (l : List ℕ) → ◌≡◌ {A = View} (view (codec_after c l)) (record { reader = (view c).reader; state = state_after c l })
view-after c l = view_codec c (state_after c l)

-- the encoding stays
pub encoding_after : (c : Codec) (l : List ℕ) → encoding_of (codec_after c l) ≡ encoding_of c
encoding_after c l = ap (λ (v : View). v.reader.encoding) (view-after c l)

pub encoding_fresh : (e : Encoding) → encoding_of (fresh_c e) ≡ e
encoding_fresh E.Evt2 = refl
encoding_fresh E.Evt21 = refl
encoding_fresh E.Evt3 = refl

-- by the encoding
pub view_of : (e : Encoding) (s : (reader_of e).State) → ◌≡◌ {A = View} (view ((reader_of e).codec s)) (record { reader = reader_of e; state = s })
view_of E.Evt2 s = refl
view_of E.Evt21 s = refl
view_of E.Evt3 s = refl

pub view-fresh : (e : Encoding) → ◌≡◌ {A = View} (view (fresh_c e)) (record { reader = reader_of e; state = (reader_of e).fresh })
view-fresh e = view_of e (reader_of e).fresh
