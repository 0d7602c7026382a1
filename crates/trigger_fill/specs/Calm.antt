-- Words that carry no trigger and leave the time late in its period, or not late, as it was: they count no loop, and the times behind them are by the last
-- words that set them.
use Rattle.std.specs.Prelude.{◌≡◌, Bool, true, false, cond, not, List, [], ◌∷◌, ◌++◌, ℕ, ◌+◌, ◌-◌, ◌*◌, ◌/◌, ◌%◌, ◌^◌, ◌≤◌, ◌<◌, eqb, leb, length, get_or}
use Rattle.std.proofs.Math.Path.{refl}
use Rattle.std.proofs.Common.{sym, ap, ◌∙◌, true≢false, arith}
use borrow.Author.Tests.{eq-eqb, ne_eqb, eqb-true, eqb-false, leb-true, leb-false}
use Rattle.laws_stream.specs.Machine.{All, emits}
use Rattle.evt_types.specs.{Ahead.ahead, Ahead.ahead-two, Ahead.ahead_four, Ahead.ahead_eight, Layout.trigger_type}
use Rattle.trigger_fill.specs.declared.{form.Form.Form, times.Times.Times}
use Rattle.trigger_fill.specs.Form.{form2, form21, form3, Known, known2, known21, known3, kind_in, low_in, set_to, fine_word, ticked, pulses, Paced}
use Rattle.trigger_fill.specs.Form.{raw_in, paced_fine, by_kind, tick_time, tick_fine, tick_other, no_trigger_lem}
use Rattle.laws_stream.proofs.LoopLaws.{tracks_same}

-- a word's highest byte
abbrev pub top_in : Form → ℕ → ℕ
top_in f w = w / 2 ^ (f.shift - 4) % 2 ^ 8

-- that of the word at i is its last byte
pub top_byte : {f : Form} → Known f → (l : List ℕ) (i : ℕ) → i + f.size ≤ length l → ((k : ℕ) → get_or l k 0 < 256)
    → top_in f (ahead f.size l i) ≡ get_or l (i + (f.size - 1)) 0
top_byte known2 l i h small = omega (arith, ahead_four l i _ (omega arith) refl, small i, small (i + 1), small (i + 2), small (i + 3))
top_byte known21 l i h small =
    omega (
      arith,
      ahead_eight l i _ (omega arith) refl,
      small i,
      small (i + 1),
      small (i + 2),
      small (i + 3),
      small (i + 4),
      small (i + 5),
      small (i + 6),
      small (i + 7),
    )
top_byte known3 l i h small = omega (arith, ahead-two l i _ (omega arith) refl, small i, small (i + 1))

-- a trigger, or a time word that is late in its period where the time isn't, or the other way round
abbrev pub notable_top : (late : Bool) → ℕ → Bool
notable_top late t = cond (eqb (t / 16) trigger_type) true (cond late (cond (eqb (t / 16) 8) (not (eqb t 143)) false) (eqb t 143))

abbrev pub notable : (late : Bool) → Form → ℕ → Bool
notable late f w = notable_top late (top_in f w)

-- whether the time is late: only then a time word may count a loop
abbrev pub Side : (late : Bool) → Form → Times → Type 0
Side true f c = c.loops * f.period + f.late ≤ c.base
Side false f c = c.base < c.loops * f.period + f.late

abbrev pub late_of : Form → Times → Bool
late_of f c = leb (c.loops * f.period + f.late) c.base

pub side_of : (f : Form) (c : Times) → Side (late_of f c) f c
side_of f c = go (late_of f c) refl
  where
    go : (late : Bool) → late_of f c ≡ late → Side late f c
    go true e = leb-true (c.loops * f.period + f.late) c.base e
    go false e = leb-false (c.loops * f.period + f.late) c.base e

-- a word that counts none
abbrev pub same_loop : Form → Times → ℕ → Times
same_loop f c w = set_to (low_in f w * f.grain + c.loops * f.period) c.loops

unfoldable pub eased : Form → Times → ℕ → Times
eased f c w = cond (eqb (kind_in f w) 8) (same_loop f c w) (cond (eqb (kind_in f w) f.fine) (fine_word f c w) c)

-- words that count none
unfoldable pub settled : Form → Times → List ℕ → Times
settled f c [] = c
settled f c (w ∷ ws) = settled f (eased f c w) ws

module _ (f : Form) (c : Times) where
  pub settled-nil : settled f c [] ≡ c
  unfolding settled
  settled-nil = refl

  pub settled-next : (w : ℕ) (ws : List ℕ) → settled f c (w ∷ ws) ≡ settled f (eased f c w) ws
  unfolding settled
  settled-next w ws = refl

module _ (f : Form) (c : Times) (w : ℕ) where
  pub ease_time : kind_in f w ≡ 8 → eased f c w ≡ same_loop f c w
  unfolding eased
  ease_time h = rw (eq-eqb (kind_in f w) 8 h)

  pub ease_fine : (kind_in f w ≡ 8 → ⊥) → kind_in f w ≡ f.fine → eased f c w ≡ fine_word f c w
  unfolding eased
  ease_fine h e = rw (ne_eqb (kind_in f w) 8 h, eq-eqb (kind_in f w) f.fine e)

  pub ease_other : (kind_in f w ≡ 8 → ⊥) → (kind_in f w ≡ f.fine → ⊥) → eased f c w ≡ c
  unfolding eased
  ease_other h e = rw (ne_eqb (kind_in f w) 8 h, ne_eqb (kind_in f w) f.fine e)

  pub ease_loops : (eased f c w).loops ≡ c.loops
  ease_loops = by_kind f c w ((eased f c w).loops ≡ c.loops) (λ h. rw (ease_time h)) (λ h e. rw (ease_fine h e))
      (λ h e. rw (ease_other h e))

pub settled-append : (f : Form) (c : Times) (a b : List ℕ) → settled f c (a ++ b) ≡ settled f (settled f c a) b
unfolding settled
settled-append f c [] b = refl
settled-append f c (w ∷ a) b = settled-append f (eased f c w) a b

pub settled_loops : (f : Form) (c : Times) (a : List ℕ) → (settled f c a).loops ≡ c.loops
unfolding settled
settled_loops f c [] = refl
settled_loops f c (w ∷ a) = settled_loops f (eased f c w) a ∙ ease_loops f c w

-- ---- they count no loop and have no trigger

no_pulse : (late : Bool) (t : ℕ) → notable_top late t ≡ false → t / 16 ≡ trigger_type → ⊥
no_pulse late t h e = true≢false (sym (ap (λ (b : Bool). cond b true (cond late (cond (eqb (t / 16) 8) (not (eqb t 143)) false) (eqb t 143)))
    (eq-eqb (t / 16) trigger_type e)) ∙ h)

-- a time word stays on the side
stays : (late : Bool) (t : ℕ) → notable_top late t ≡ false → t / 16 ≡ 8 → eqb t 143 ≡ late
stays late t h e = go late (eqb t 143) (rw (ne_eqb (t / 16) trigger_type (omega arith), eq-eqb (t / 16) 8 e) at h)
  where
    go : (late b : Bool) → cond late (not b) b ≡ false → b ≡ late
    go true true h = refl
    go true false h = sym h
    go false true h = h
    go false false h = refl

plain : {f : Form} → Known f → (late : Bool) (w : ℕ) → notable late f w ≡ false → kind_in f w ≡ trigger_type → ⊥
plain known2 late w calm e = no_pulse late (top_in form2 w) calm (omega arith)
plain known21 late w calm e = no_pulse late (top_in form21 w) calm (omega arith)
plain known3 late w calm e = no_pulse late (top_in form3 w) calm (omega arith)

top_parts : {f : Form} → Known f → (w : ℕ) → top_in f w ≡ kind_in f w * 16 + low_in f w / 2 ^ (f.width - 4)
top_parts known2 w = omega arith
top_parts known21 w = omega arith
top_parts known3 w = omega arith

low_small : {f : Form} → Known f → (w : ℕ) → low_in f w / 2 ^ (f.width - 4) < 16
low_small known2 w = omega arith
low_small known21 w = omega arith
low_small known3 w = omega arith

-- where its time lies
late_raw : {f : Form} → Known f → (w : ℕ) → kind_in f w ≡ 8 → top_in f w ≡ 143 → f.late ≤ low_in f w * f.grain
late_raw known2 w e h = omega (arith, top_parts known2 w)
late_raw known21 w e h = omega (arith, top_parts known21 w)
late_raw known3 w e h = omega (arith, top_parts known3 w)

early_raw : {f : Form} → Known f → (w : ℕ) → kind_in f w ≡ 8 → (top_in f w ≡ 143 → ⊥) → low_in f w * f.grain < f.late
early_raw known2 w e h = omega (arith, top_parts known2 w)
early_raw known21 w e h = omega (arith, top_parts known21 w)
early_raw known3 w e h = omega (arith, top_parts known3 w)

raw_side : {f : Form} → Known f → (late : Bool) (w : ℕ) → notable late f w ≡ false → kind_in f w ≡ 8 → (c : Times) → Side late f (same_loop f c w)
raw_side {f} known late w calm e c = go late (stays late (top_in f w) calm (omega (arith, top_parts known w, low_small known w)))
  where
    go : (late : Bool) → eqb (top_in f w) 143 ≡ late → Side late f (same_loop f c w)
    go true h = omega (arith, late_raw known w e (eqb-true (top_in f w) 143 h))
    go false h = omega (arith, early_raw known w e (eqb-false (top_in f w) 143 h))

late-le : {f : Form} → Known f → (f.late ≤ f.threshold) × (f.period ≤ f.late + f.threshold)
late-le known2 = (omega arith, omega arith)
late-le known21 = (omega arith, omega arith)
late-le known3 = (omega arith, omega arith)

-- no loop: two times on the same side differ by less than the threshold
no_loop : {f : Form} → Known f → (late : Bool) {n : ℕ} {c : Times} (w : ℕ) → Paced f n c → Side late f c → Side late f (same_loop f c w)
    → c.base < low_in f w * f.grain + c.loops * f.period + f.threshold
no_loop known true w p here there = omega (arith, late-le known, p.base)
no_loop known false w p here there = omega (arith, late-le known)

fine_side : (late : Bool) (f : Form) (c : Times) (w : ℕ) → Side late f c → Side late f (fine_word f c w)
fine_side true f c w side = side
fine_side false f c w side = side

module _ {f : Form} (known : Known f) (late : Bool) {n : ℕ} {c : Times} (p : Paced f n c) (side : Side late f c) (w : ℕ) (calm : notable late f w ≡ false) where
  calm_tick : ticked f c w ≡ eased f c w
  calm_tick = by_kind f c w (ticked f c w ≡ eased f c w)
      (λ h. let raw = low_in f w * f.grain in
      let q = tracks_same f.period f.threshold c.base c.loops raw (raw + c.loops * f.period) refl
      (no_loop known late w p side (raw_side known late w calm h c)) in
      tick_time f c w h ∙ (λ i. set_to (q.1 i) (q.0 i)) ∙ sym (ease_time f c w h))
      (λ h e. tick_fine f c w h e ∙ sym (ease_fine f c w h e))
      (λ h e. tick_other f c w h e ∙ sym (ease_other f c w h e))

  calm_side : Side late f (eased f c w)
  calm_side = by_kind f c w (Side late f (eased f c w))
      (λ h. rw (ease_time f c w h) (raw_side known late w calm h c))
      (λ h e. rw (ease_fine f c w h e) (fine_side late f c w side))
      (λ h e. rw (ease_other f c w h e) side)

-- ---- no sum wraps

paced_same : {f : Form} → Known f → {n : ℕ} {c : Times} (w : ℕ) → Paced f n c → Paced f n (same_loop f c w)
paced_same known w p = let raw = raw_in known w in record { loops = p.loops; base = omega (arith, raw); near = omega (arith, raw) }

pub paced_eased : {f : Form} → Known f → {n : ℕ} {c : Times} (w : ℕ) → Paced f n c → Paced f n (eased f c w)
paced_eased {f} known {n} {c} w p = by_kind f c w (Paced f n (eased f c w))
    (λ h. rw (ease_time f c w h) (paced_same known w p))
    (λ h e. rw (ease_fine f c w h e) (paced_fine known w h e p))
    (λ h e. rw (ease_other f c w h e) p)

pub paced_settled : {f : Form} → Known f → {n : ℕ} {c : Times} (a : List ℕ) → Paced f n c → Paced f n (settled f c a)
unfolding settled
paced_settled known [] p = p
paced_settled {f = f} known {c = c} (w ∷ a) p = paced_settled known {c = eased f c w} a (paced_eased known w p)

-- ---- over words that aren't notable

pub calm_over : {f : Form} → Known f → (late : Bool) {n : ℕ} {c : Times} → Paced f n c → Side late f c → (a b : List ℕ) → All (λ w. notable late f w ≡ false) a
    → emits (pulses f) c (a ++ b) ≡ emits (pulses f) (settled f c a) b
unfolding settled
calm_over known late p side [] b calm = refl
calm_over {f} known late {n} {c} p side (w ∷ a) b calm =
    rw (no_trigger_lem f c w (plain known late w calm.0), calm_tick known late p side w calm.0)
    (calm_over known late {c = eased f c w} (paced_eased known w p) (calm_side known late p side w calm.0) a b calm.1)
