-- What follows from the claim: streams handed over any number of times, and numbers that hold through every cut.
use Rattle.std.specs.Prelude.{◌≡◌, List, [], ◌∷◌, ℕ, ◌≤◌}
use Rattle.laws_stream.specs.Machine.{Note}
use Rattle.evt_types.specs.{Event.Event, declared.Encoding.Encoding}
use Rattle.laws_handover.specs.Handover.{Call, accepted_events, Front, start_of, others, joined, resuming}
use Rattle.laws_handover.specs.Proof.{joined_words}

-- ---- ANY NUMBER OF HANDOVERS: what is joined is again a stream that can be cut, read and resumed

-- where the stream so far is cut, and the list of the writer that goes on
pub record Resumption : Type 0 where
  pub cut : ℕ
  pub calls : List Call

module _ (e : Encoding) (f : Front) where
  abbrev pub bytes_after : List ℕ → List Resumption → List ℕ
  bytes_after bytes [] = bytes
  bytes_after bytes (r ∷ rs) = bytes_after (joined e f r.cut bytes (resuming e f r.cut bytes) r.calls) rs

  abbrev pub words_after : List ℕ → List (Note ℕ Event) → List Resumption → List (Note ℕ Event)
  words_after bytes ws [] = ws
  words_after bytes ws (r ∷ rs) =
      let s = resuming e f r.cut bytes in words_after (joined e f r.cut bytes s r.calls) (joined_words e f r.cut ws s r.calls) rs

  -- each cut stands at the front's end or behind it, and the writer that resumes from what is left is given the events that the cut left out
  abbrev pub Owed : List ℕ → List (Note ℕ Event) → List Resumption → Type 0
  Owed bytes ws [] = Unit
  Owed bytes ws (r ∷ rs) =
      let s = resuming e f r.cut bytes in
      (start_of e f ≤ r.cut) × (accepted_events s r.calls ≡ others e f r.cut ws)
      × Owed (joined e f r.cut bytes s r.calls) (joined_words e f r.cut ws s r.calls) rs
