-- What decoding the first word of some bytes promises.
use Rattle.std.specs.Prelude.{◌≡◌, refl, Bool, true, false, cond, List, ℕ, ◌≤◌, ◌<◌, length, take}
use Rattle.std.proofs.Common.{ap, ◌∙◌, lt-ltb, le-ltb}
use Rattle.laws_stream.specs.Words.{value}
use Rattle.std.specs.Prelude.{Result}
use Rattle.evt_types.specs.declared.Refusal.{Refusal}
use Rattle.evt_types.specs.declared.vector.EventVector.{EventVector}
use Rattle.evt_types.specs.{declared.vector.Vector.Vector, Event.no_events, Owed.Owed}
use Rattle.evt_codec.specs.declared.{codec.Codec.Codec}
use Rattle.evt_types.specs.declared.vector.Decoded.{Decoded}
use Rattle.evt_codec.specs.{Reader.view, Codec.in_range_c, Codec.word_size, Codec.step_c, Codec.vector_c}

abbrev pub DecodedC : Codec → List ℕ → Decoded Codec → Type 0
DecodedC c l r = Owed (in_range_c c) c (step_c c l) (vector_c c l) r.next r.answer

-- of a decoder as a codec
module _ {D : Type 0} (f : D → Codec) where
  under_cond : (ok : Bool) (a b : D) → f (cond ok a b) ≡ cond ok (f a) (f b)
  under_cond true a b = refl
  under_cond false a b = refl

  owed_under : {ok : Bool} {d after : D} {v : Vector} {next : D} {a : Result EventVector Refusal} → Owed ok d after v next a → Owed ok (f d) (f after) v (f next) a
  owed_under {ok} {d} {after} o = record { is_next = ap f o.is_next ∙ under_cond ok after d; is_told = o.is_told; is_answer = o.is_answer }

module _ (c : Codec) (l : List ℕ) where
  pub owed_idle : {next : Codec} {a : Result EventVector Refusal} → length l < word_size c → Owed (in_range_c c) c c no_events next a
      → Owed (in_range_c c) c (step_c c l) (vector_c c l) next a
  owed_idle h o = rw (lt-ltb (length l) (word_size c) h) o

  -- a whole word
  pub owed_word : (w : ℕ) {next : (view c).reader.State} {a : Result EventVector Refusal} → word_size c ≤ length l → w ≡ value (take (word_size c) l)
      → Owed (in_range_c c) (view c).state ((view c).reader.machine.step (view c).state w) ((view c).reader.vector (view c).state w) next a
      → Owed (in_range_c c) ((view c).reader.codec (view c).state) (step_c c l) (vector_c c l) ((view c).reader.codec next) a
  owed_word w h e o = rw (le-ltb (length l) (word_size c) h) (owed_under (view c).reader.codec (rw e at o))
