-- Triggers of a decoder of any encoding.
use Rattle.std.specs.Prelude.{◌≡◌, Bool, cond, List, [], ℕ, ◌≤◌, ◌<◌, ltb, length, take}
use Rattle.std.proofs.Common.{lt-ltb, le-ltb}
use Rattle.laws_stream.specs.{Words.value, Words.words_of, Stream.decode, Beside.emits_before, Beside.emitting}
use Rattle.evt_types.specs.{Event.Event, Trigger.Trigger}
use Rattle.evt_codec.specs.{declared.codec.Codec.Codec, Reader.view, Codec.word_size}

-- of the first word of some bytes
abbrev pub trigger_of : Codec → List ℕ → List Trigger
trigger_of c l = (view c).reader.trigger (view c).state (value (take (word_size c) l))

-- fewer bytes than a word have none
abbrev pub trigger_c : Codec → List ℕ → List Trigger
trigger_c c l = cond (ltb (length l) (word_size c)) [] (trigger_of c l)

pub trigger_few : (c : Codec) (l : List ℕ) → length l < word_size c → trigger_c c l ≡ []
trigger_few c l h = rw (lt-ltb (length l) (word_size c) h)

pub trigger_whole : (c : Codec) (l : List ℕ) → word_size c ≤ length l → trigger_c c l ≡ trigger_of c l
trigger_whole c l h = rw (le-ltb (length l) (word_size c) h)

-- of all whole words of some bytes, in their order: through the same states as the events
abbrev pub triggers_from : Codec → List ℕ → List Trigger
triggers_from c l = decode (word_size c) (emitting (view c).reader.machine (view c).reader.trigger) (view c).state l

-- of the words before the one with which the events that are kept reach n
abbrev pub triggers_before : (Event → Bool) → ℕ → Codec → List ℕ → List Trigger
triggers_before keep n c l = emits_before (view c).reader.machine (view c).reader.trigger keep n (view c).state (words_of (word_size c) l)
