-- The maximum time, column and row of events.
use Rattle.std.specs.Prelude.{◌≡◌, List, [], ◌++◌, map, ℕ, ◌+◌, ◌-◌, ◌≤◌, ◌<◌, ◌^◌, max, min}
use Rattle.std.proofs.Common.{sym, ap, ◌∙◌, arith}
use Rattle.std.specs.Int.Count.{count_leading_zeros}
use Rattle.std.proofs.lemmas.Nat.{leading_top}
use Rattle.laws_stream.specs.{Order.greatest, Order.greatest-append, Order.greatest-map, Mask.bits, Mask.bits-zero}
use Rattle.evt_types.specs.{declared.vector.Vector.Vector, Event.Event, Event.event_at, Event.events_of}
use Rattle.read_window.specs.declared.extent.Extent.{Extent}
use Rattle.laws_stream.proofs.MaskLaws.{greatest-leading}

-- of events: the maximum time, the maximum column plus 1, the maximum row plus 1, each 0 of none
abbrev pub extent_of : List Event → Extent
extent_of es = record { latest = greatest (λ e. e.t) es; width = greatest (λ e. e.x + 1) es; height = greatest (λ e. e.y + 1) es }

abbrev pub joined : Extent → Extent → Extent
joined a b = record { latest = max a.latest b.latest; width = max a.width b.width; height = max a.height b.height }

-- of those noted before, and these
abbrev pub extent_with : Extent → List Event → Extent
extent_with n es = joined n (extent_of es)

abbrev pub no_extent : Extent
no_extent = record { latest = 0; width = 0; height = 0 }

-- ---- laws

extent_is : {a b c a' b' c' : ℕ} → a ≡ a' → b ≡ b' → c ≡ c'
    → ◌≡◌ {A = Extent} (record { latest = a; width = b; height = c }) (record { latest = a'; width = b'; height = c' })
extent_is p q r = λ i. record { latest = p i; width = q i; height = r i }

pub extent_none : (n : Extent) → extent_with n [] ≡ n
extent_none n = extent_is (omega arith) (omega arith) (omega arith)

pub extent_start : (es : List Event) → extent_with no_extent es ≡ extent_of es
extent_start es = extent_is (omega arith) (omega arith) (omega arith)

pub extent_append : (n : Extent) (a b : List Event) → extent_with n (a ++ b) ≡ extent_with (extent_with n a) b
extent_append n a b = extent_is
    (omega (arith, greatest-append (λ (e : Event). e.t) a b))
    (omega (arith, greatest-append (λ (e : Event). e.x + 1) a b))
    (omega (arith, greatest-append (λ (e : Event). e.y + 1) a b))

-- of a word without events
pub extent_quiet : (n : Extent) (v : Vector) → v.mask ≡ 0 → n ≡ extent_with n (events_of v)
extent_quiet n v z =
    sym (ap (λ (m : ℕ). extent_with n (map (event_at v) (bits 32 v.x m))) z
    ∙ ap (λ (l : List ℕ). extent_with n (map (event_at v) l)) (bits-zero 32 v.x) ∙ extent_none n)

-- of one with events, by the highest bit
module _ (v : Vector) (some : v.mask ≡ 0 → ⊥) (h : v.mask < 2 ^ 32) where
  pub zeros_lt : count_leading_zeros 64 v.mask < 64
  zeros_lt = omega (arith, (leading_top 64 v.mask (omega arith) (omega arith)).1)

  by_top : (f : Event → ℕ) → ((a b : ℕ) → a ≤ b → f (event_at v a) ≤ f (event_at v b))
      → greatest f (events_of v) ≡ f (event_at v (v.x + (63 - count_leading_zeros 64 v.mask)))
  by_top f rises =
      greatest-map f (event_at v) (bits 32 v.x v.mask)
      ∙ greatest-leading (λ a. f (event_at v a)) rises 32 64 v.x v.mask (omega arith) h (omega arith)

  pub extent_top : (n : Extent)
      → extent_with n (events_of v) ≡ joined n (record { latest = v.t; width = min (v.x + (63 - count_leading_zeros 64 v.mask)) 65535 + 1; height = v.y + 1 })
  extent_top n =
      ap (joined n)
      (extent_is (by_top (λ e. e.t) (λ a b l. omega arith)) (by_top (λ e. e.x + 1) (λ a b l. omega arith)) (by_top (λ e. e.y + 1) (λ a b l. omega arith)))
