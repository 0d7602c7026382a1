-- How far a seek goes from a decoder of any encoding, and what it tells.
use Rattle.std.specs.Prelude.{◌≡◌, List, ℕ, ◌+◌, ◌*◌, ◌≤◌, length, drop}
use Rattle.laws_stream.specs.{Words.words_of, Seek.Reach, Seek.reach}
use Rattle.evt3_decoder.specs.declared.Decoder.{Decoder}
use Rattle.evt_codec.specs.{declared.codec.Codec.Codec, declared.codec.Codec.TheVariants.Evt3, Reader.View, Reader.view}
use Rattle.read_fill.specs.Decode.{Bounded}
use Rattle.read_seek.specs.declared.Sought.{Sought}

-- over the words before the first that takes the decoder's time to t1 or later
abbrev pub reach_from : (t0 t1 : ℕ) → (v : View) → List ℕ → Reach v.reader.State
reach_from t0 t1 v l =
    let R = v.reader in
    reach R.machine R.time R.carries t0 t1 v.state (words_of R.size l)

abbrev pub reach3 : (t0 t1 : ℕ) → Decoder → List ℕ → Reach Decoder
reach3 t0 t1 d l = reach_from t0 t1 (view (Evt3 d)) l

-- of words of n bytes
abbrev pub sought_as : {S : Type 0} → (n : ℕ) → (S → Codec) → Reach S → Sought
sought_as n codec r = record { at = r.words * n; stray = r.stray; codec = codec r.state }

abbrev pub sought_from : (t0 t1 : ℕ) → View → List ℕ → Sought
sought_from t0 t1 v l = sought_as v.reader.size v.reader.codec (reach_from t0 t1 v l)

abbrev pub sought_of : (t0 t1 : ℕ) → Codec → List ℕ → Sought
sought_of t0 t1 c l = sought_from t0 t1 (view c) l

-- ---- on the way

-- where `at` bytes were passed over before
abbrev pub further : (at : ℕ) → Sought → Sought
further at s = record { at = at + s.at; stray = s.stray; codec = s.codec }

-- from the decoder c', `at` bytes on, a seek finds what it finds from c
pub record Midway (t : ℕ) (c : Codec) (l : List ℕ) (at : ℕ) (c' : Codec) : Type 0 where
  pub within : at ≤ length l
  pub able : Bounded (length (drop at l)) c'
  pub same : sought_of 0 t c l ≡ further at (sought_of 0 t c' (drop at l))
