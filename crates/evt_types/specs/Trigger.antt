-- Triggers: pulses on the camera's trigger input, what one word tells of them, and three columns of them.
use Rattle.std.specs.Prelude.{◌≡◌, refl, Bool, true, false, cond, List, [], ◌∷◌, ◌++◌, map, ℕ, ◌+◌, ◌≤◌, ◌<◌, ◌^◌, min, eqb, length, drop, set, ℤ, pos}
use Rattle.std.proofs.Common.{subst, sym, arith, eq-eqb, ne_eqb, eqb-true}
use Rattle.laws_stream.specs.{Machine.Machine, Machine.run, Machine.emits, Beside.others, Beside.without_idle}
use Rattle.laws_stream.specs.Columns.{Column, column_start, column-one, column-end, written-front}
use Rattle.std.specs.Prelude.{Option, Some, None, Result, Ok, Err}
use Rattle.evt_types.specs.declared.Refusal.{Refusal}
use Rattle.evt_types.specs.declared.{RawTrigger.RawTrigger}
use Rattle.evt_types.specs.declared.Refusal.TheVariants.{StateOutOfRange}
use Rattle.evt_types.specs.{Outcome.Outcome, Outcome.refuse, Outcome.give, Outcome.on_outcome, Outcome.verdict, Told.Told, Told.told, Told.accepted}
use Rattle.evt_types.specs.{Event.Event, Layout.trigger_type}

-- time t in microseconds, channel, value (0 or 1)
pub record Trigger : Type 0 where
  pub t : ℕ
  pub id : ℕ
  pub value : ℕ

-- it fits the struct
pub record Small (g : Trigger) : Type 0 where
  pub t< : g.t < 2 ^ 63
  pub id< : g.id < 2 ^ 8
  pub value< : g.value < 2 ^ 8

abbrev pub raw_trigger : Trigger → RawTrigger
raw_trigger g = record { t = pos g.t; id = g.id; value = g.value }

-- ---- one word, which has at most one

-- a word of the trigger's type has g, once the time is set
abbrev pub trigger_if : (started : Bool) → (type : ℕ) → Trigger → List Trigger
trigger_if started type g = cond started (cond (eqb type trigger_type) (g ∷ []) []) []

-- 10 for a decoder that isn't in range
abbrev pub trigger_outcome : (ok : Bool) → List Trigger → Outcome (List Trigger)
trigger_outcome ok gs = cond ok (give gs) (refuse StateOutOfRange)

abbrev pub first_trigger : List Trigger → Option RawTrigger
first_trigger [] = None
first_trigger (g ∷ gs) = Some (raw_trigger g)

abbrev pub trigger_answer : Outcome (List Trigger) → Result (Option RawTrigger) Refusal
trigger_answer = on_outcome Err (λ gs. Ok (first_trigger gs))

-- time, channel and value, or nothing
abbrev pub trigger_values : List Trigger → List ℕ
trigger_values [] = []
trigger_values (g ∷ gs) = g.t ∷ g.id ∷ g.value ∷ []

-- what an answer tells
abbrev pub told_trigger : Result (Option RawTrigger) Refusal → Told
told_trigger (Ok (Some g)) = record { number = 0; values = g.t ∷ pos g.id ∷ pos g.value ∷ [] }
told_trigger (Ok None) = accepted []
told_trigger (Err r) = told r

pub record OwedTrigger (outcome : Outcome (List Trigger)) (r : Result (Option RawTrigger) Refusal) : Type 0 where
  pub is_told : told_trigger r ≡ verdict trigger_values outcome
  pub is_answer : r ≡ trigger_answer outcome

owed_trigger : (o : Outcome (List Trigger)) (r : Result (Option RawTrigger) Refusal) → r ≡ trigger_answer o → OwedTrigger o r
owed_trigger o r e = subst (OwedTrigger o) (sym e) (go o)
  where
    go : (o : Outcome (List Trigger)) → OwedTrigger o (trigger_answer o)
    go (refuse r) = record { is_told = refl; is_answer = refl }
    go (give []) = record { is_told = refl; is_answer = refl }
    go (give (g ∷ gs)) = record { is_told = refl; is_answer = refl }

module _ {ok : Bool} (gs : List Trigger) where
  pub owed_in_range : (g : Option RawTrigger) → ok ≡ true → g ≡ first_trigger gs → OwedTrigger (trigger_outcome ok gs) (Ok g)
  owed_in_range g h e = owed_trigger (trigger_outcome ok gs) (Ok g) (rw (h, e))

  pub owed_out_of_range : ok ≡ false → OwedTrigger (trigger_outcome ok gs) (Err StateOutOfRange)
  owed_out_of_range h = owed_trigger (trigger_outcome ok gs) (Err StateOutOfRange) (rw h)

-- ---- which a word of type k has

module _ (started : Bool) (k : ℕ) (g : Trigger) where
  pub trigger_here : started ≡ true → k ≡ trigger_type → trigger_if started k g ≡ g ∷ []
  trigger_here on h = rw (on, eq-eqb k trigger_type h)

  pub trigger_early : started ≡ false → trigger_if started k g ≡ []
  trigger_early off = rw off

  pub trigger_other : (k ≡ trigger_type → ⊥) → trigger_if started k g ≡ []
  trigger_other h = rw (ne_eqb k trigger_type h) (same started)
    where
      same : (b : Bool) → cond {A = List Trigger} b [] [] ≡ []
      same true = refl
      same false = refl

  pub trigger_few : length (trigger_if started k g) ≤ 1
  trigger_few = go started (eqb k trigger_type)
    where
      go : (a b : Bool) → length (cond a (cond b (g ∷ []) []) []) ≤ 1
      go true true = omega arith
      go true false = omega arith
      go false b = omega arith

-- ---- trigger words among others

-- where they leave the state as it is and carry no event, without them the events are the same, and the state behind them
module _ {S : Type 0} (M : Machine S ℕ Event) (type : ℕ → ℕ) where
  abbrev pub is_trigger : ℕ → Bool
  is_trigger w = eqb (type w) trigger_type

  abbrev pub NoTriggerMatters : Type 0
  NoTriggerMatters = (s : S) (ws : List ℕ) → (run M s (others is_trigger ws) ≡ run M s ws) × (emits M s (others is_trigger ws) ≡ emits M s ws)

  pub without_triggers : ((s : S) (w : ℕ) → type w ≡ trigger_type → (M.step s w ≡ s) × (M.emit s w ≡ [])) → NoTriggerMatters
  without_triggers alone = without_idle M is_trigger (λ s w h. alone s w (eqb-true (type w) trigger_type h))

-- ---- three columns

abbrev pub col_time : Trigger → ℤ
col_time g = pos g.t

abbrev pub col_id : Trigger → ℕ
col_id g = g.id

abbrev pub col_value : Trigger → ℕ
col_value g = g.value

-- the shortest counts
abbrev pub shortest3 : List ℤ → List ℕ → List ℕ → ℕ
shortest3 ts ids values = min (length ts) (min (length ids) (length values))

-- the triggers stand in front, and behind them all is as it was
pub record HandedTriggers (gs : List Trigger) (ts₀ : List ℤ) (ids₀ values₀ : List ℕ) (ts : List ℤ) (ids values : List ℕ) : Type 0 where
  pub column-t : ts ≡ map col_time gs ++ drop (length gs) ts₀
  pub column_id : ids ≡ map col_id gs ++ drop (length gs) ids₀
  pub column-value : values ≡ map col_value gs ++ drop (length gs) values₀

-- On the way: n triggers are written, and with `left` written from n on the columns hold all of `gs`.
pub record Pulsing (gs : List Trigger) (ts₀ : List ℤ) (ids₀ values₀ : List ℕ) (left : List Trigger) (n : ℕ)
    (ts : List ℤ) (ids values : List ℕ) : Type 0 where
  pub count : n + length left ≡ length gs
  pub in_t : Column col_time gs 0 ts₀ left n ts
  pub in_id : Column col_id gs 0 ids₀ left n ids
  pub in_value : Column col_value gs 0 values₀ left n values

module _ {ts₀ : List ℤ} {ids₀ values₀ : List ℕ} where
  pub triggers_none : HandedTriggers [] ts₀ ids₀ values₀ ts₀ ids₀ values₀
  triggers_none = record { column-t = refl; column_id = refl; column-value = refl }

module _ {gs : List Trigger} {ts₀ : List ℤ} {ids₀ values₀ : List ℕ} where
  pub pulsing_start : Pulsing gs ts₀ ids₀ values₀ gs 0 ts₀ ids₀ values₀
  pulsing_start = record { count = omega arith; in_t = column_start col_time; in_id = column_start col_id; in_value = column_start col_value }

  module _ (room : length gs ≤ shortest3 ts₀ ids₀ values₀) where
    pub pulsing_room : {g : Trigger} {left : List Trigger} {n : ℕ} {ts : List ℤ} {ids values : List ℕ} → Pulsing gs ts₀ ids₀ values₀ (g ∷ left) n ts ids values
        → (n < length ts) × (n < length ids) × (n < length values)
    pulsing_room p = (omega (arith, p.count, p.in_t.long), omega (arith, p.count, p.in_id.long), omega (arith, p.count, p.in_value.long))

    pub pulsing_end : {n : ℕ} {ts : List ℤ} {ids values : List ℕ} → Pulsing gs ts₀ ids₀ values₀ [] n ts ids values
        → HandedTriggers gs ts₀ ids₀ values₀ ts ids values
    pulsing_end p = record {
      column-t = written-front col_time gs ts₀ _ (column-end col_time (omega arith) p.in_t);
      column_id = written-front col_id gs ids₀ _ (column-end col_id (omega arith) p.in_id);
      column-value = written-front col_value gs values₀ _ (column-end col_value (omega arith) p.in_value);
    }

  pub pulsing_one : (g : Trigger) {left : List Trigger} {n : ℕ} {ts : List ℤ} {ids values : List ℕ} → Pulsing gs ts₀ ids₀ values₀ (g ∷ left) n ts ids values
      → Pulsing gs ts₀ ids₀ values₀ left (n + 1) (set ts n (col_time g)) (set ids n (col_id g)) (set values n (col_value g))
  pulsing_one g p = record {
    count = omega (arith, p.count);
    in_t = column-one col_time g p.in_t;
    in_id = column-one col_id g p.in_id;
    in_value = column-one col_value g p.in_value;
  }
