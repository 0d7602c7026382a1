-- The window of a pass: which events have a number, and which of these are handed over.
use Rattle.std.specs.Prelude.{◌≡◌, refl, Bool, false, ◌&&◌, ◌||◌, List, [], ◌∷◌, ℕ, suc, leb, ltb}
use Rattle.std.proofs.Common.{ap}
use Rattle.laws_stream.specs.{Machine.Machine, Slice.onto}
use Rattle.laws_stream.specs.Select as Select
use Rattle.evt_types.specs.Event.{Event}
use Rattle.read_columns.specs.Inside.{inside, clock}
use Rattle.read_window.specs.declared.Window.{Window}

-- numbers n0 to before n1, times t0 to before t1
abbrev pub selection_of : Window → Select.Selection
selection_of win = record { n0 = win.n0; n1 = win.n1; t0 = win.t0; t1 = win.t1 }

abbrev pub is_within : Window → ℕ → Bool
is_within win t = leb win.t0 t && ltb t win.t1

abbrev pub is_spanned : Window → (k t : ℕ) → Bool
is_spanned win k t = Select.spans (selection_of win) k t

abbrev pub is_stopped : Window → ℕ → Bool → ℕ → Bool
is_stopped win k started time = leb win.n1 k || (started && leb win.t1 time)

-- what the rule of selection reads: a machine, whether a state of it is started, and a state's time; events outside width x height have no number
abbrev pub reading : {S : Type 0} → Machine S ℕ Event → (S → Bool) → (S → ℕ) → Window → Select.Reading S ℕ Event
reading M live time win = record { machine = M; inside = inside win.width win.height; clock = clock; live = live; time = time }

-- ---- the choice among events, whatever machine they come from

abbrev pub any_reading : Window → Select.Reading Unit ℕ Event
any_reading = reading (record { step = λ s w. s; emit = λ s w. [] }) (λ s. false) (λ s. 0)

abbrev pub choose : Window → ℕ → List Event → List Event
choose win = Select.chosen (any_reading win) (selection_of win)

pub chosen-choose : {S : Type 0} (M : Machine S ℕ Event) (live : S → Bool) (time : S → ℕ) (win : Window) (k : ℕ) (es : List Event)
    → Select.chosen (reading M live time win) (selection_of win) k es ≡ choose win k es
chosen-choose M live time win k [] = refl
chosen-choose M live time win k (e ∷ es) = ap (onto (is_spanned win k e.t) e) (chosen-choose M live time win (suc k) es)
