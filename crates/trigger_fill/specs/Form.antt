-- What of a decoder tells the times of triggers, as a machine of its own: one for all encodings, over an encoding's numbers.
use Rattle.std.specs.Prelude.{◌≡◌, refl, Bool, true, false, cond, List, [], ◌∷◌, ℕ, suc, ◌+◌, ◌*◌, ◌/◌, ◌%◌, ◌^◌, ◌≤◌, ◌<◌, eqb, length, drop}
use Rattle.std.proofs.Common.{mul-le-mul_right, arith, length-drop}
use borrow.Author.Tests.{eq-eqb, ne_eqb, eqb-true, eqb-false}
use Rattle.laws_stream.specs.{Loop.loops_after, Loop.time_after, Loop.in_period, Machine.Machine, Machine.emits}
use Rattle.laws_stream.specs.Words.{words_of, length-words}
use Rattle.evt_types.specs.{Trigger.Trigger, Trigger.Small, Layout.word_size2, Layout.word_size21, Layout.word_size3, Layout.grain2, Layout.grain3}
use Rattle.evt_types.specs.Layout.{trigger_type}
use Rattle.evt2_decoder.specs.Evt2.{period2, threshold2}
use Rattle.evt3_decoder.specs.Evt3.{period3, threshold3}
use Rattle.trigger_fill.specs.declared.{form.Form.Form, times.Times.Times}
use Rattle.laws_stream.proofs.LoopLaws.{loops_one}

-- EVT2's, of words above a mask. No type sets the time below a grain: a trigger's own word has it
abbrev pub form2_above : (size from : ℕ) → Form
form2_above size from = record {
  size = size;
  shift = from + 28;
  from = from;
  width = 28;
  fine = 8;
  grain = grain2;
  period = period2;
  threshold = threshold2;
  late = 15 * 2 ^ 30;
  low = 6;
  channel = 5;
}

abbrev pub form2 : Form
form2 = form2_above word_size2 0

abbrev pub form21 : Form
form21 = form2_above word_size21 32

abbrev pub form3 : Form
form3 = record {
  size = word_size3;
  shift = 12;
  from = 0;
  width = 12;
  fine = 6;
  grain = grain3;
  period = period3;
  threshold = threshold3;
  late = 15 * 2 ^ 20;
  low = 0;
  channel = 4;
}

pub data Known : Form → Type 0 where
  known2 : Known form2
  known21 : Known form21
  known3 : Known form3

-- of a format's constant, as a loop reads it
pub known_at : {f form : Form} → f ≡ form → Known form → Known f
known_at e known = rw e known

-- a word's type, and the bits below it
abbrev pub kind_in : Form → ℕ → ℕ
kind_in f w = w / 2 ^ f.shift % 2 ^ 4

abbrev pub low_in : Form → ℕ → ℕ
low_in f w = w / 2 ^ f.from % 2 ^ f.width

abbrev pub set_to : (coarse loops : ℕ) → Times
set_to coarse loops = record { base = coarse; time = coarse; loops = loops }

abbrev pub time_word : Form → Times → ℕ → Times
time_word f c w =
    let raw = low_in f w * f.grain in
    set_to (time_after f.period f.threshold c.base c.loops raw) (loops_after f.period f.threshold c.base c.loops raw)

abbrev pub fine_word : Form → Times → ℕ → Times
fine_word f c w = record { base = c.base; time = c.base + low_in f w; loops = c.loops }

-- of a started decoder
unfoldable pub ticked : Form → Times → ℕ → Times
ticked f c w = cond (eqb (kind_in f w) 8) (time_word f c w) (cond (eqb (kind_in f w) f.fine) (fine_word f c w) c)

abbrev pub trigger_in : Form → Times → ℕ → Trigger
trigger_in f c w = record {
  t = c.time + w / 2 ^ (f.from + 22) % 2 ^ f.low;
  id = w / 2 ^ (f.from + 8) % 2 ^ f.channel;
  value = w / 2 ^ f.from % 2 ^ 1;
}

unfoldable pub triggered : Form → Times → ℕ → List Trigger
triggered f c w = cond (eqb (kind_in f w) trigger_type) (trigger_in f c w ∷ []) []

abbrev pub pulses : Form → Machine Times ℕ Trigger
pulses f = record { step = ticked f; emit = triggered f }

-- of the words from an index on
abbrev pub pulses_from : Form → Times → ℕ → List ℕ → List Trigger
pulses_from f c i l = emits (pulses f) c (words_of f.size (drop i l))

-- n words more can be taken, and no sum wraps
pub record Paced (f : Form) (n : ℕ) (c : Times) : Type 0 where
  pub loops : (c.loops + n) * f.period ≤ 3 * 2 ^ 61
  pub base : c.base < suc c.loops * f.period
  pub near : c.time < c.base + f.grain

pub paced_at : {f form : Form} {n : ℕ} {c : Times} → f ≡ form → Paced form n c → Paced f n c
paced_at e p = rw e p

-- ---- laws

pub size-pos : {f : Form} → Known f → 0 < f.size
size-pos known2 = omega arith
size-pos known21 = omega arith
size-pos known3 = omega arith

pub size_few : {f : Form} → Known f → f.size ≤ 8
size_few known2 = omega arith
size_few known21 = omega arith
size_few known3 = omega arith

pub shift_few : {f : Form} → Known f → f.shift < 64
shift_few known2 = omega arith
shift_few known21 = omega arith
shift_few known3 = omega arith

pub low_few : {f : Form} → Known f → (f.from < 64) × (f.width < 64)
low_few known2 = (omega arith, omega arith)
low_few known21 = (omega arith, omega arith)
low_few known3 = (omega arith, omega arith)

pub fields_few : {f : Form} → Known f → (f.from + 22 < 64) × (f.low < 64) × (f.channel < 64)
fields_few known2 = (omega arith, omega arith, omega arith)
fields_few known21 = (omega arith, omega arith, omega arith)
fields_few known3 = (omega arith, omega arith, omega arith)

fewer_loops : (f : Form) (m n : ℕ) → m ≤ n → n * f.period ≤ 3 * 2 ^ 61 → m * f.period ≤ 3 * 2 ^ 61
fewer_loops f m n h p = omega (arith, mul-le-mul_right {m = m} {n = n} f.period h, p)

pub paced_fewer : {f : Form} {m n : ℕ} {c : Times} → m ≤ n → Paced f n c → Paced f m c
paced_fewer {f} {m} {n} {c} h p = record { loops = fewer_loops f (c.loops + m) (c.loops + n) (omega arith) p.loops; base = p.base; near = p.near }

pub paced_none : {f : Form} {n : ℕ} {c : Times} → Paced f n c → Paced f 0 c
paced_none p = paced_fewer (omega arith) p

-- k words of some bytes; the words from an index on
pub words-within : {f : Form} → Known f → (k : ℕ) (l : List ℕ) → k ≤ length l / f.size → k * f.size ≤ length l
words-within known2 k l h = omega arith
words-within known21 k l h = omega arith
words-within known3 k l h = omega arith

pub words_left : {f : Form} → Known f → (i : ℕ) (l : List ℕ) → length (words_of f.size (drop i l)) ≤ length l / f.size
words_left known2 i l = omega (arith, length-words word_size2 (drop i l), length-drop i l)
words_left known21 i l = omega (arith, length-words word_size21 (drop i l), length-drop i l)
words_left known3 i l = omega (arith, length-words word_size3 (drop i l), length-drop i l)

-- a time word's time is in the period
pub raw_in : {f : Form} → Known f → (w : ℕ) → (0 < f.grain) × (low_in f w * f.grain < f.period)
raw_in known2 w = (omega arith, omega arith)
raw_in known21 w = (omega arith, omega arith)
raw_in known3 w = (omega arith, omega arith)

-- what it asks for
pub raw_fits : {f : Form} → Known f → (w : ℕ) → low_in f w * f.grain < 2 ^ 64
raw_fits known2 w = omega arith
raw_fits known21 w = omega arith
raw_fits known3 w = omega arith

pub after_fits : {f : Form} → Known f → {n : ℕ} {c : Times} → Paced f n c → (w : ℕ) →
    let next = low_in f w * f.grain + c.loops * f.period in
    (next + f.threshold < 2 ^ 64) × (next + f.period < 2 ^ 64) × (c.loops + 1 < 2 ^ 64)
after_fits known2 p w = (omega (arith, p.loops), omega (arith, p.loops), omega (arith, p.loops))
after_fits known21 p w = (omega (arith, p.loops), omega (arith, p.loops), omega (arith, p.loops))
after_fits known3 p w = (omega (arith, p.loops), omega (arith, p.loops), omega (arith, p.loops))

pub late_fits : {f : Form} → Known f → {n : ℕ} {c : Times} → Paced f n c → c.loops * f.period + f.late < 2 ^ 64
late_fits known2 p = omega (arith, p.loops)
late_fits known21 p = omega (arith, p.loops)
late_fits known3 p = omega (arith, p.loops)

pub fine_fits : {f : Form} → Known f → {n : ℕ} {c : Times} → Paced f n c → (w : ℕ) → c.base + low_in f w < 2 ^ 64
fine_fits known2 p w = omega (arith, p.loops, p.base)
fine_fits known21 p w = omega (arith, p.loops, p.base)
fine_fits known3 p w = omega (arith, p.loops, p.base)

pub small_trigger : {f : Form} → Known f → {n : ℕ} {c : Times} → Paced f n c → (w : ℕ) → Small (trigger_in f c w)
small_trigger known2 p w = record { t< = omega (arith, p.loops, p.base, p.near); id< = omega arith; value< = omega arith }
small_trigger known21 p w = record { t< = omega (arith, p.loops, p.base, p.near); id< = omega arith; value< = omega arith }
small_trigger known3 p w = record { t< = omega (arith, p.loops, p.base, p.near); id< = omega arith; value< = omega arith }

paced_time : {f : Form} → Known f → {n : ℕ} {c : Times} (w : ℕ) → Paced f (suc n) c → Paced f n (time_word f c w)
paced_time {f} known {n} {c} w p =
    let raw = low_in f w * f.grain in
    let one = loops_one f.period f.threshold c.base c.loops raw in
    let within = in_period f.period f.threshold c.base c.loops raw (raw_in known w).1 in
    let loops = fewer_loops f (loops_after f.period f.threshold c.base c.loops raw + n) (c.loops + suc n) (omega (arith, one)) p.loops in
    record { loops = loops; base = within.1; near = omega (arith, (raw_in known w).0) }

fine_low : {f : Form} → Known f → (w : ℕ) → (kind_in f w ≡ 8 → ⊥) → kind_in f w ≡ f.fine → low_in f w < f.grain
fine_low known2 w h e = absurd (h e)
fine_low known21 w h e = absurd (h e)
fine_low known3 w h e = omega arith

pub paced_fine : {f : Form} → Known f → {n : ℕ} {c : Times} (w : ℕ) → (kind_in f w ≡ 8 → ⊥) → kind_in f w ≡ f.fine → Paced f n c → Paced f n (fine_word f c w)
paced_fine known w h e p = record { loops = p.loops; base = p.base; near = omega (arith, fine_low known w h e) }

-- ---- by a word's type

module _ (f : Form) (c : Times) (w : ℕ) where
  -- a time word; one that sets the time below a grain; another
  pub by_kind : (P : Type 0) → (kind_in f w ≡ 8 → P) → ((kind_in f w ≡ 8 → ⊥) → kind_in f w ≡ f.fine → P)
      → ((kind_in f w ≡ 8 → ⊥) → (kind_in f w ≡ f.fine → ⊥) → P) → P
  by_kind P time fine other = go (eqb (kind_in f w) 8) (eqb (kind_in f w) f.fine) refl refl
    where
      go : (a b : Bool) → eqb (kind_in f w) 8 ≡ a → eqb (kind_in f w) f.fine ≡ b → P
      go true b e g = time (eqb-true (kind_in f w) 8 e)
      go false true e g = fine (eqb-false (kind_in f w) 8 e) (eqb-true (kind_in f w) f.fine g)
      go false false e g = other (eqb-false (kind_in f w) 8 e) (eqb-false (kind_in f w) f.fine g)

  pub tick_time : kind_in f w ≡ 8 → ticked f c w ≡ time_word f c w
  unfolding ticked
  tick_time h = rw (eq-eqb (kind_in f w) 8 h)

  pub tick_fine : (kind_in f w ≡ 8 → ⊥) → kind_in f w ≡ f.fine → ticked f c w ≡ fine_word f c w
  unfolding ticked
  tick_fine h e = rw (ne_eqb (kind_in f w) 8 h, eq-eqb (kind_in f w) f.fine e)

  pub tick_other : (kind_in f w ≡ 8 → ⊥) → (kind_in f w ≡ f.fine → ⊥) → ticked f c w ≡ c
  unfolding ticked
  tick_other h e = rw (ne_eqb (kind_in f w) 8 h, ne_eqb (kind_in f w) f.fine e)

  pub trigger_word : kind_in f w ≡ trigger_type → triggered f c w ≡ trigger_in f c w ∷ []
  unfolding triggered
  trigger_word h = rw (eq-eqb (kind_in f w) trigger_type h)

  pub no_trigger_lem : (kind_in f w ≡ trigger_type → ⊥) → triggered f c w ≡ []
  unfolding triggered
  no_trigger_lem h = rw (ne_eqb (kind_in f w) trigger_type h)

pub paced_tick : {f : Form} → Known f → {n : ℕ} {c : Times} (w : ℕ) → Paced f (suc n) c → Paced f n (ticked f c w)
paced_tick {f} known {n} {c} w p =
    let less : Paced f n c = paced_fewer (omega arith) p in
    by_kind f c w (Paced f n (ticked f c w))
    (λ h. rw (tick_time f c w h) (paced_time known w p))
    (λ h e. rw (tick_fine f c w h e) (paced_fine known w h e less))
    (λ h e. rw (tick_other f c w h e) less)
