-- What a writer has sent, and the words that are due where it changes.
use Rattle.std.specs.Prelude.{◌≡◌, refl, Bool, true, false, List, [], ◌∷◌, ℕ, zero, suc, ◌-◌, ◌^◌, ◌≤◌, ◌<◌, eqb}
use Rattle.std.proofs.Common.{arith, ne_eqb}
use Rattle.laws_stream.specs.Machine.{Note}
use Rattle.std.specs.Prelude.{Option, Some, None}
use Rattle.evt_types.specs.{Event.Event}
use Rattle.write_buffer.specs.declared.EncoderState.{EncoderState}

-- a fresh writer has sent no half and no row
abbrev pub fresh_state : EncoderState
fresh_state = record { time_high = None; time_low = None; y = None }

abbrev pub sent_is : Option ℕ → ℕ → Bool
sent_is None q = false
sent_is (Some g) q = eqb g q

-- the state after n inputs: as it was where there was none
abbrev pub state_at : (n : ℕ) (first after : EncoderState) → EncoderState
state_at zero v s = v
state_at (suc n) v s = s

pub state_some : (n : ℕ) (v s : EncoderState) → 0 < n → state_at n v s ≡ s
state_some zero v s h = absurd (omega arith)
state_some (suc n) v s h = refl

pub state_none : (n : ℕ) (v s : EncoderState) → n ≤ 0 → state_at n v s ≡ v
state_none zero v s h = refl
state_none (suc n) v s h = absurd (omega arith)

-- a word that carries no event
abbrev pub quiet : ℕ → Note ℕ Event
quiet w = record { word = w; events = [] }

-- the event word of one event
abbrev pub carries : ℕ → Event → Note ℕ Event
carries w e = record { word = w; events = e ∷ [] }

-- a word that is due unless its content was sent
abbrev pub due : (sent : Bool) → ℕ → List (Note ℕ Event)
due true w = []
due false w = quiet w ∷ []

-- ---- inside a loop what was sent is one number: nothing is 2^64 - 1, which no half and no row is

abbrev pub sent_number : Option ℕ → ℕ
sent_number None = 2 ^ 64 - 1
sent_number (Some g) = g

pub number_is : (s : Option ℕ) (q : ℕ) → q < 2 ^ 60 → eqb (sent_number s) q ≡ sent_is s q
number_is None q h = ne_eqb (2 ^ 64 - 1) q (λ e. omega arith)
number_is (Some g) q h = refl
