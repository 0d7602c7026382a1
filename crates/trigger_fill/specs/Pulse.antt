-- The loop over the words of a started decoder: what holds at index i, at the start, after a word, at the end.
use Rattle.std.specs.Prelude.{◌≡◌, List, [], ◌∷◌, ◌++◌, ℕ, ◌+◌, ◌≤◌, ◌<◌, length, drop, ℤ}
use Rattle.std.proofs.Common.{sym, ap, ◌∙◌, arith}
use Rattle.laws_stream.specs.{Words.words_of, Words.words-next, Words.words-end}
use Rattle.evt_types.specs.{Ahead.ahead, Ahead.ahead-some, Trigger.Trigger, Trigger.shortest3, Trigger.HandedTriggers, Trigger.Pulsing}
use Rattle.evt_types.specs.{Trigger.pulsing_start, Trigger.pulsing_end}
use Rattle.trigger_fill.specs.declared.{form.Form.Form, times.Times.Times}
use Rattle.trigger_fill.specs.{Form.Known, Form.Paced, Form.ticked, Form.triggered, Form.pulses_from, Form.size-pos, Form.paced_tick}
use Rattle.trigger_fill.specs.Put.{Put, put_room, put_next}

-- the word at an index, and those behind it
pub word-here : {f : Form} → Known f → (l : List ℕ) (i : ℕ) → i + f.size ≤ length l → (w : ℕ) → w ≡ ahead f.size l i
    → words_of f.size (drop i l) ≡ w ∷ words_of f.size (drop (i + f.size) l)
word-here {f} known l i h w is =
    words-next f.size (size-pos known) l i h
    ∙ ap (λ (w : ℕ). w ∷ words_of f.size (drop (i + f.size) l)) (sym (is ∙ ahead-some f.size l i h))

-- at index i
pub record Place (f : Form) (l : List ℕ) (c : Times) (i : ℕ) : Type 0 where
  pub within : i ≤ length l
  pub paced : Paced f (length (words_of f.size (drop i l))) c

pub record Pulse (f : Form) (l : List ℕ) (all : List Trigger) (ts₀ : List ℤ) (ids₀ values₀ : List ℕ) (ts : List ℤ) (ids values : List ℕ) (c : Times) (n i : ℕ)
    : Type 0 where
  pub place : Place f l c i
  pub pulsing : Pulsing all ts₀ ids₀ values₀ (pulses_from f c i l) n ts ids values

module _ {f : Form} (known : Known f) {l : List ℕ} {c : Times} {i : ℕ} (p : Place f l c i) where
  -- no word is left
  pub none_left : length l < i + f.size → pulses_from f c i l ≡ []
  none_left h = rw (words-end f.size (size-pos known) l i h)

  module _ (h : i + f.size ≤ length l) (w : ℕ) (is : w ≡ ahead f.size l i) where
    -- the next word's come first
    pub first_of_lem : pulses_from f c i l ≡ triggered f c w ++ pulses_from f (ticked f c w) (i + f.size) l
    first_of_lem = rw (word-here known l i h w is)

    pub place_next : Place f l (ticked f c w) (i + f.size)
    place_next = record { within = h; paced = paced_tick known w (rw (word-here known l i h w is) at p.paced) }

pub pulse_start : {f : Form} {l : List ℕ} {c : Times} {i : ℕ} {ts₀ : List ℤ} {ids₀ values₀ : List ℕ} → Place f l c i
    → Pulse f l (pulses_from f c i l) ts₀ ids₀ values₀ ts₀ ids₀ values₀ c 0 i
pulse_start p = record { place = p; pulsing = pulsing_start }

module _ {f : Form} (known : Known f) {l : List ℕ} {all : List Trigger} {ts₀ : List ℤ} {ids₀ values₀ : List ℕ} (room : length all ≤ shortest3 ts₀ ids₀ values₀)
    {ts : List ℤ} {ids values : List ℕ} {c : Times} {n i : ℕ} (u : Pulse f l all ts₀ ids₀ values₀ ts ids values c n i) where
  pub pulse_end : length l < i + f.size → (n ≡ length all) × HandedTriggers all ts₀ ids₀ values₀ ts ids values
  pulse_end h =
      let p : Pulsing all ts₀ ids₀ values₀ [] n ts ids values = rw (none_left known u.place h) at u.pulsing in
      (omega (arith, p.count), pulsing_end room p)

  module _ (h : i + f.size ≤ length l) (w : ℕ) (is : w ≡ ahead f.size l i) where
    parted : Pulsing all ts₀ ids₀ values₀ (triggered f c w ++ pulses_from f (ticked f c w) (i + f.size) l) n ts ids values
    parted = rw (first_of_lem known u.place h w is) at u.pulsing

    pub pulse_room : n + length (triggered f c w) ≤ shortest3 ts ids values
    pulse_room = put_room (triggered f c w) (pulses_from f (ticked f c w) (i + f.size) l) parted room

    pub pulse_next : {r : ℕ} {ts' : List ℤ} {ids' values' : List ℕ} → Put (triggered f c w) n r ts ids values ts' ids' values' → (c' : Times)
        → c' ≡ ticked f c w → Pulse f l all ts₀ ids₀ values₀ ts' ids' values' c' r (i + f.size)
    pulse_next put c' e =
        let left = pulses_from f (ticked f c w) (i + f.size) l in
        rw e (record { place = place_next known u.place h w is; pulsing = put_next (triggered f c w) left parted room put })
