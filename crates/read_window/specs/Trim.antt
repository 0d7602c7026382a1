-- Which bits of a word's mask a window hands over.
use Rattle.std.specs.Prelude.{◌≡◌, refl, Bool, true, false, ◌&&◌, List, [], ◌∷◌, map, ℕ, zero, suc, ◌+◌, ◌-◌, ◌*◌, ◌/◌, ◌%◌, ◌≤◌, ◌<◌, ◌^◌, min}
use Rattle.std.specs.Prelude.{length, leb, ltb, not, ◌||◌}
use Rattle.std.proofs.Common.{sym, ap, ◌∙◌, ⊎_elim, arith, add-suc, suc-add, add-zero, add-one, shl_exact, leb-true, ltb-true, lt-ltb, le-ltb}
use Rattle.std.proofs.lemmas.List.{length-map}
use Rattle.std.specs.Int.Bits.{bit_and, bit_or, or_step, or_zero_r}
use Rattle.std.proofs.lemmas.Nat.{and_le_l, or_lt}
use Rattle.std.specs.Int.Count.{ones, count_trailing_zeros, trailing_of_zero}
use Rattle.std.proofs.Math.Pow.{pow-lt}
use Rattle.std.proofs.lemmas.Bool.{lt-leb}
use Rattle.laws_stream.specs.{Machine.All, Machine.all_mapped, Machine.all_of, Machine.all_map, Machine.and_both, Mask.trailing_wide, Slice.onto}
use Rattle.laws_stream.specs.{Slice.sift-all}
use Rattle.laws_stream.specs.Mask.{Inc, bits, parity, bits-zero, bits_even, bits_odd, clear_lt, trailing_lt}
use Rattle.laws_stream.specs.Select as Select
use Rattle.evt_types.specs.{declared.vector.Vector.Vector, Event.Event, Event.event_at, Event.events_of, Event.Narrow, Num.is_inside}
use Rattle.read_columns.specs.Inside.{inside, inside_at, inside_none, inside-next, inside_one, inside_out, events_at, events_none, events_few, first_of}
use Rattle.read_columns.specs.Inside.{sift_few}
use Rattle.read_window.specs.declared.{Window.Window, trim.Trimmed.Trimmed}
use Rattle.read_window.specs.Window.{is_within, is_spanned, selection_of, any_reading, choose}
use Rattle.laws_stream.proofs.MaskLaws.{bits-count, bits-one, bits_in, low_bit}

-- v with another mask
abbrev pub masked : Vector → ℕ → Vector
masked v m = record { x = v.x; y = v.y; t = v.t; p = v.p; mask = m }

-- those of the events of v's bits m that have a number
abbrev pub numbered_at : Window → Vector → ℕ → List Event
numbered_at win = inside_at win.width win.height

abbrev pub numbered : Window → Vector → List Event
numbered win v = numbered_at win v v.mask

-- of v's events, numbered from k on where they are inside, the mask leaves those in the window, and `extra` more have a number
pub record Picked (v : Vector) (win : Window) (k : ℕ) (r : Trimmed) : Type 0 where
  pub small : r.mask < 2 ^ 32
  pub hands : events_of (masked v r.mask) ≡ choose win k (numbered win v)
  pub counts : length (events_of (masked v r.mask)) + r.extra ≡ length (numbered win v)

abbrev pub is_whole : Vector → Window → ℕ → Bool
is_whole v win k = ltb v.y win.height && (leb (v.x + 32) win.width && (leb win.n0 k && (leb (k + 32) win.n1 && is_within win v.t)))

abbrev pub is_skipped : Vector → Window → ℕ → Bool
is_skipped v win k = leb (v.x + 32) win.width && (not (is_within win v.t) || leb (k + 32) win.n0)

-- ---- v with another mask

pub narrow_masked : (v : Vector) (m : ℕ) → Narrow v → m < 2 ^ 32 → Narrow (masked v m)
narrow_masked v m n h = record { x< = n.x<; y< = n.y<; t< = n.t<; p< = n.p<; mask< = h }

pub masked-count : (v : Vector) (m : ℕ) → m < 2 ^ 32 → ones m ≡ length (events_of (masked v m))
masked-count v m h = sym (length-map (bits 32 v.x m) (event_at v) ∙ bits-count 32 v.x m h)

-- v without its lowest bit
abbrev pub cleared : Vector → Vector
cleared v = masked v (bit_and v.mask (v.mask - 1))

pub cleared_fits : (v : Vector) (k j : ℕ) → Narrow v → 0 < v.mask → k + v.mask < 2 ^ 63 → j ≤ k + 1 → Narrow (cleared v) × (j + (cleared v).mask < 2 ^ 63)
cleared_fits v k j n some h l =
    let less = clear_lt v.mask some in
    (narrow_masked v (cleared v).mask n (omega (arith, n.mask<)), omega arith)

-- ---- the choice among some events

module _ (win : Window) where
  -- all numbers are below n0
  choose_early : (k : ℕ) (es : List Event) → k + length es ≤ win.n0 → choose win k es ≡ []
  choose_early k [] h = refl
  choose_early k (e ∷ es) h = rw (lt-leb win.n0 k (omega arith)) (choose_early (suc k) es (omega arith))

  off : (a c : Bool) → (a && (c && false)) ≡ false
  off true true = refl
  off true false = refl
  off false c = refl

  -- no time is within
  choose_untimely : (k : ℕ) (es : List Event) → All (λ e. is_within win e.t ≡ false) es → choose win k es ≡ []
  choose_untimely k [] h = refl
  choose_untimely k (e ∷ es) h = rw (h.0, off (leb win.n0 k) (ltb k win.n1)) (choose_untimely (suc k) es h.1)

  -- every time and number is in the window
  choose-all : (k : ℕ) (es : List Event) → win.n0 ≤ k → k + length es ≤ win.n1 → All (λ e. is_within win e.t ≡ true) es → choose win k es ≡ es
  choose-all k es a b h = Select.chosen_time (any_reading win) (selection_of win) k es a b ∙ sift-all (λ e. is_within win e.t) es h

-- ---- what holds of every choice

pub numbered_few : (win : Window) (v : Vector) → v.mask < 2 ^ 32 → length (numbered win v) ≤ 32
numbered_few win v h = omega (arith, sift_few (inside win.width win.height) (events_of v), events_few v 32 h)

pub picked_few : {v : Vector} {win : Window} {k : ℕ} {r : Trimmed} → v.mask < 2 ^ 32 → Picked v win k r → r.extra ≤ 32
picked_few {v} {win} h q = omega (arith, q.counts, numbered_few win v h)

module _ (v : Vector) (win : Window) (k : ℕ) where
  -- ---- no event is inside

  no_inside : numbered win v ≡ [] → Picked v win k (record { mask = 0; extra = 0 })
  no_inside none = record { small = omega arith; hands = rw (none, events_none v); counts = rw (none, events_none v) }

  pub picked_none : v.mask ≡ 0 → Picked v win k (record { mask = 0; extra = 0 })
  picked_none z = no_inside (rw z (inside_none win.width win.height v))

  pub picked_out : win.height ≤ v.y → Picked v win k (record { mask = 0; extra = 0 })
  picked_out h = no_inside (inside_out win.width win.height v h v.mask)

  -- ---- every event is inside

  module _ (h : v.mask < 2 ^ 32) where
    all-inside : v.y < win.height → v.x + 32 ≤ win.width → numbered win v ≡ events_of v
    all-inside y x = sift-all (inside win.width win.height) (events_of v) (all_mapped _ (event_at v) (bits 32 v.x v.mask)
        (all_map (λ c. (v.x ≤ c) × (c < v.x + 32)) (λ c. inside win.width win.height (event_at v c) ≡ true)
        (λ c q. rw (lt-ltb (min c 65535) win.width (omega (arith, q.1)), lt-ltb v.y win.height y))
        (bits 32 v.x v.mask) (bits_in 32 32 v.x v.mask h)))

    all_timed : (b : Bool) → is_within win v.t ≡ b → All (λ e. is_within win e.t ≡ b) (events_of v)
    all_timed b e = all_mapped _ (event_at v) (bits 32 v.x v.mask) (all_of _ (λ c. e) (bits 32 v.x v.mask))

    pub picked_whole : is_whole v win k ≡ true → Picked v win k (record { mask = v.mask; extra = 0 })
    picked_whole w =
        let a = and_both _ _ w in
        let c = and_both _ _ a.1 in
        let d = and_both _ _ c.1 in
        let e = and_both _ _ d.1 in
        let most : k + 32 ≤ win.n1 = leb-true _ _ e.0 in
        let all = all-inside (ltb-true _ _ a.0) (leb-true _ _ c.0) in
        record {
          small = h;
          hands = rw all (sym (choose-all win k (events_of v) (leb-true _ _ d.0) (omega (arith, most, events_few v 32 h)) (all_timed true e.1)));
          counts = rw all (omega arith);
        }

    skipped_none : (t : Bool) → is_within win v.t ≡ t → (not t || leb (k + 32) win.n0) ≡ true → choose win k (events_of v) ≡ []
    skipped_none true e o = choose_early win k (events_of v) (omega (arith, leb-true (k + 32) win.n0 o, events_few v 32 h))
    skipped_none false e o = choose_untimely win k (events_of v) (all_timed false e)

    pub picked_skipped : v.y < win.height → is_skipped v win k ≡ true → Picked v win k (record { mask = 0; extra = ones v.mask })
    picked_skipped y s =
        let a = and_both _ _ s in
        let all = all-inside y (leb-true _ _ a.0) in
        record {
          small = omega arith;
          hands = rw (all, skipped_none (is_within win v.t) refl a.1) (events_none v);
          counts = rw (all, events_none v) (omega (arith, length-map (bits 32 v.x v.mask) (event_at v), bits-count 32 v.x v.mask h));
        }

  -- ---- the lowest bit alone

  module _ (one : v.mask ≡ 1) (c : v.x < 65536) where
    first-kept : events_of (masked v 1) ≡ first_of v ∷ []
    first-kept =
        let x : min v.x 65535 ≡ v.x = omega arith in
        rw (bits-one 31 v.x, x)

    first_is : (b : Bool) → is_inside win.width win.height v.x v.y ≡ b → numbered win v ≡ onto b (first_of v) []
    first_is b i = inside_one win.width win.height v one c ∙ rw i

    pub single_in : is_inside win.width win.height v.x v.y ≡ true → is_spanned win k v.t ≡ true → Picked v win k (record { mask = 1; extra = 0 })
    single_in i s = record { small = omega arith; hands = rw (first_is true i, s) first-kept; counts = rw (first_is true i, first-kept) }

    pub single-numbered : is_inside win.width win.height v.x v.y ≡ true → is_spanned win k v.t ≡ false
        → Picked v win k (record { mask = 0; extra = 1 })
    single-numbered i s = record { small = omega arith; hands = rw (first_is true i, s) (events_none v); counts = rw (first_is true i, events_none v) }

    pub single_out : is_inside win.width win.height v.x v.y ≡ false → Picked v win k (record { mask = 0; extra = 0 })
    single_out i = no_inside (first_is false i)

-- ---- bit by bit: the lowest set bit goes first, and is then cleared

inc_from : (at to : ℕ) (l : List ℕ) → Inc (suc at) to l → Inc at to l
inc_from at to [] h = tt
inc_from at to (x ∷ l) h = (omega (arith, h.0), h.1, h.2)

bits_rise : (k at m : ℕ) → Inc at (at + k) (bits k at m)
unfolding bits
bits_rise zero at m = tt
bits_rise (suc k) at m =
    let ih : Inc (suc at) (at + suc k) (bits k (suc at) (m / 2)) = rw (add-suc, ← suc-add) (bits_rise k (suc at) (m / 2)) in
    ⊎_elim
    (λ (e : m % 2 ≡ 0). rw (bits_even k at m e) (inc_from at (at + suc k) (bits k (suc at) (m / 2)) ih))
    (λ (e : m % 2 ≡ 1). rw (bits_odd k at m e) (omega arith, omega arith, ih))
    (parity m)

-- the next set bit is higher
clear_rises : (m : ℕ) → 0 < m → m < 2 ^ 32 → count_trailing_zeros 64 m < count_trailing_zeros 64 (bit_and m (m - 1))
clear_rises m h l = go (bit_and m (m - 1)) refl
  where
    go : (n : ℕ) → bit_and m (m - 1) ≡ n → count_trailing_zeros 64 m < count_trailing_zeros 64 n
    go zero e = rw (trailing_of_zero 64) (trailing_lt 64 64 m h (omega arith) (omega arith))
    go (suc n) e =
        let small : suc n < 2 ^ 32 = omega (arith, and_le_l m (m - 1)) in
        let two = rw (low_bit 32 0 m h l, e, low_bit 32 0 (suc n) (omega arith) small) at (bits_rise 32 0 m) in
        rw (trailing_wide 64 32 m h (omega arith) l, trailing_wide 64 32 (suc n) (omega arith) (omega arith) small) (omega (arith, two.2.0))

-- a bit below those of m comes first
bits-onto : (k at m i : ℕ) → i < k → All (λ c. at + i < c) (bits k at m) → bits k at (bit_or m (1 * 2 ^ i)) ≡ (at + i) ∷ bits k at m
bits-onto zero at m i l h = absurd (omega arith)
bits-onto (suc k) at m zero l h =
    ⊎_elim
    (λ (e : m % 2 ≡ 0).
    let half : bit_or m 1 / 2 ≡ m / 2 = rw (or_step m 1, e, or_zero_r (m / 2)) (omega arith) in
    let odd : bit_or m 1 % 2 ≡ 1 = rw (or_step m 1, e) (omega arith) in
    bits_odd k at (bit_or m 1) odd ∙ rw (half, add-zero at, bits_even k at m e))
    (λ (e : m % 2 ≡ 1). absurd (omega (arith, (rw (bits_odd k at m e) at h).0)))
    (parity m)
bits-onto (suc k) at m (suc i) l h =
    ⊎_elim
    (λ (e : m % 2 ≡ 0).
    let b : 1 * 2 ^ suc i / 2 ≡ 1 * 2 ^ i = omega arith in
    let z : 1 * 2 ^ suc i % 2 ≡ 0 = omega arith in
    let half : bit_or m (1 * 2 ^ suc i) / 2 ≡ bit_or (m / 2) (1 * 2 ^ i) = rw (or_step m (1 * 2 ^ suc i), e, b, z) (omega arith) in
    let even : bit_or m (1 * 2 ^ suc i) % 2 ≡ 0 = rw (or_step m (1 * 2 ^ suc i), e, z) (omega arith) in
    let up : All (λ c. suc at + i < c) (bits k (suc at) (m / 2))
    = all_map (λ c. at + suc i < c) _ (λ c q. omega arith) (bits k (suc at) (m / 2)) (rw (bits_even k at m e) at h) in
    bits_even k at (bit_or m (1 * 2 ^ suc i)) even ∙ rw (half, bits-onto k (suc at) (m / 2) i (omega arith) up, bits_even k at m e, add-suc, suc-add))
    (λ (e : m % 2 ≡ 1). absurd (omega (arith, (rw (bits_odd k at m e) at h).0)))
    (parity m)

-- what is left has no bit below the lowest of v
pub record PickedBits (v : Vector) (win : Window) (k : ℕ) (r : Trimmed) : Type 0 where
  pub picked : Picked v win k r
  pub above : All (λ c. v.x + count_trailing_zeros 64 v.mask ≤ c) (bits 32 v.x r.mask)

module _ (v : Vector) (win : Window) (k : ℕ) where
  pub picked_no_bits : {extra : ℕ} → Picked v win k (record { mask = 0; extra = extra }) → PickedBits v win k (record { mask = 0; extra = extra })
  picked_no_bits p = record { picked = p; above = rw (bits-zero 32 v.x) tt }

  module _ (some : 0 < v.mask) (h : v.mask < 2 ^ 32) (r : Trimmed) where
    abbrev i : ℕ
    i = count_trailing_zeros 64 v.mask

    -- the lowest bit's event, and the others
    next : (b : Bool) → is_inside win.width win.height (min (v.x + i) 65535) v.y ≡ b
        → numbered win v ≡ onto b (event_at v (v.x + i)) (numbered win (cleared v))
    next b e = inside-next win.width win.height v v.mask some h ∙ rw e

    higher : {j : ℕ} → PickedBits (cleared v) win j r → All (λ c. v.x + i < c) (bits 32 v.x r.mask)
    higher q =
        let rises = clear_rises v.mask some h in
        all_map _ _ (λ c l. omega arith) (bits 32 v.x r.mask) q.above

    still_above : {j : ℕ} → PickedBits (cleared v) win j r → All (λ c. v.x + i ≤ c) (bits 32 v.x r.mask)
    still_above q = all_map _ _ (λ c l. omega arith) (bits 32 v.x r.mask) (higher q)

    pub picked_out_bit : win.width ≤ min (v.x + i) 65535 → PickedBits (cleared v) win k r → PickedBits v win k r
    picked_out_bit w q =
        let e = next false (rw (le-ltb (min (v.x + i) 65535) win.width w)) in
        record { picked = record { small = q.picked.small; hands = rw e q.picked.hands; counts = rw e q.picked.counts }; above = still_above q }

    module _ (x : min (v.x + i) 65535 < win.width) (y : v.y < win.height) (q : PickedBits (cleared v) win (k + 1) r) where
      first_in : numbered win v ≡ event_at v (v.x + i) ∷ numbered win (cleared v)
      first_in = next true (rw (lt-ltb (min (v.x + i) 65535) win.width x, lt-ltb v.y win.height y))

      -- from the number after k
      hands_on : events_at v r.mask ≡ choose win (suc k) (numbered win (cleared v))
      hands_on = rw add-one at q.picked.hands

      pub picked_keep_bit : is_spanned win k v.t ≡ true → PickedBits v win k (record { mask = bit_or r.mask (1 * 2 ^ i % 2 ^ 64); extra = r.extra })
      picked_keep_bit s =
          let low : i < 32 = trailing_lt 64 32 v.mask some h (omega arith) in
          let bits_are = bits-onto 32 v.x r.mask i low (higher q) in
          let kept : events_at v (bit_or r.mask (1 * 2 ^ i)) ≡ event_at v (v.x + i) ∷ events_at v r.mask = ap (map (event_at v)) bits_are in
          rw (shl_exact {a = 1} 1 i 64 (omega arith) (omega arith)) (record {
            picked = record {
              small = or_lt 32 r.mask (1 * 2 ^ i) q.picked.small (omega (arith, pow-lt low));
              hands = rw (kept, first_in, s) (ap (λ (l : List Event). event_at v (v.x + i) ∷ l) hands_on);
              counts = rw (kept, first_in) (omega (arith, q.picked.counts));
            };
            above = rw bits_are (omega arith, still_above q);
          })

      pub picked_pass_bit : is_spanned win k v.t ≡ false → PickedBits v win k (record { mask = r.mask; extra = r.extra + 1 })
      picked_pass_bit s = record {
        picked = record {
          small = q.picked.small;
          hands = rw (first_in, s) hands_on;
          counts = rw (first_in) (omega (arith, q.picked.counts));
        };
        above = still_above q;
      }
