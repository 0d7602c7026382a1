-- Events, and the events of one word.
use Rattle.std.specs.Prelude.{◌≡◌, refl, Bool, true, false, cond, List, [], ◌∷◌, map, ℕ, ◌+◌, ◌-◌, ◌<◌, ◌^◌, min, eqb, pos}
use Rattle.std.proofs.Common.{ap, arith, eqb-true}
use Rattle.std.specs.Int.Bits.{bit_and}
use Rattle.std.specs.Int.Count.{count_trailing_zeros}
use Rattle.std.proofs.lemmas.Bool.{eqb-false}
use Rattle.laws_stream.specs.{Machine.All, Machine.all_of, Machine.all_mapped, Mask.bits, Mask.bits-zero}
use Rattle.std.specs.Prelude.{Option, Some, None}
use Rattle.evt_types.specs.declared.{RawEvent.RawEvent, vector.EventVector.EventVector}
use Rattle.evt_types.specs.declared.{vector.Vector.Vector}
use Rattle.laws_stream.proofs.MaskLaws.{low_bit}

-- column x, row y, time t in microseconds, polarity p (0 or 1)
pub record Event : Type 0 where
  pub t : ℕ
  pub x : ℕ
  pub y : ℕ
  pub p : ℕ

abbrev pub raw_of : Event → RawEvent
raw_of e = record { x = e.x; y = e.y; t = pos e.t; p = e.p }

-- the event of a vector at column c, saturated at 65,535
abbrev pub event_at : Vector → ℕ → Event
event_at v c = record { t = v.t; x = min c 65535; y = v.y; p = v.p }

-- one for each set bit of the mask, the lowest first
abbrev pub events_of : Vector → List Event
events_of v = map (event_at v) (bits 32 v.x v.mask)

abbrev pub no_events : Vector
no_events = record { x = 0; y = 0; t = 0; p = 0; mask = 0 }

pub no_events_lem : events_of no_events ≡ []
no_events_lem = ap (map (event_at no_events)) (bits-zero 32 0)

-- all have its time
pub events_timed : (P : ℕ → Type 0) (v : Vector) → P v.t → All (λ e. P e.t) (events_of v)
events_timed P v h = all_mapped (λ e. P e.t) (event_at v) (bits 32 v.x v.mask) (all_of _ (λ c. h) (bits 32 v.x v.mask))

-- a vector without a bit has none
pub events-masked : (v : Vector) → v.mask ≡ 0 → events_of v ≡ []
events-masked v z = rw (z, bits-zero 32 v.x)

-- it fits the smaller struct
pub record Narrow (v : Vector) : Type 0 where
  pub x< : v.x < 2 ^ 16
  pub y< : v.y < 2 ^ 16
  pub t< : v.t < 2 ^ 63
  pub p< : v.p < 2
  pub mask< : v.mask < 2 ^ 32

abbrev pub narrowed : Vector → EventVector
narrowed v = record { x = v.x; y = v.y; t = pos v.t; p = v.p; mask = v.mask }

-- ---- the events of the public struct, one after another

abbrev pub raw_at : EventVector → ℕ → RawEvent
raw_at v c = record { x = min c 65535; y = v.y; t = v.t; p = v.p }

abbrev pub raw_events : EventVector → List RawEvent
raw_events v = map (raw_at v) (bits 32 v.x v.mask)

abbrev pub with_mask : EventVector → ℕ → EventVector
with_mask v m = record { x = v.x; y = v.y; t = v.t; p = v.p; mask = m }

-- the lowest bit's event, and the vector with that bit cleared
abbrev pub next_of : EventVector → Option (RawEvent × EventVector)
next_of v = cond (eqb v.mask 0) None (Some (raw_at v (v.x + count_trailing_zeros 32 v.mask), with_mask v (bit_and v.mask (v.mask - 1))))

abbrev pub listed : Option (RawEvent × EventVector) → List RawEvent
listed None = []
listed (Some (e, v)) = e ∷ raw_events v

-- so `next` hands over the events in order
pub next_lists : (v : EventVector) → v.mask < 2 ^ 32 → raw_events v ≡ listed (next_of v)
next_lists v h = go (eqb v.mask 0) refl
  where
    go : (b : Bool) → eqb v.mask 0 ≡ b
        → raw_events v ≡ listed (cond b None (Some (raw_at v (v.x + count_trailing_zeros 32 v.mask), with_mask v (bit_and v.mask (v.mask - 1)))))
    go true e = rw (eqb-true v.mask 0 e, bits-zero)
    go false e = let ne = eqb-false v.mask 0 e in ap (map (raw_at v)) (low_bit 32 v.x v.mask (omega arith) h)

-- and they are the word's
pub raw_events_lem : (v : Vector) → raw_events (narrowed v) ≡ map raw_of (events_of v)
raw_events_lem v = go (bits 32 v.x v.mask)
  where
    go : (l : List ℕ) → map (raw_at (narrowed v)) l ≡ map raw_of (map (event_at v) l)
    go [] = refl
    go (c ∷ l) = ap (λ (r : List RawEvent). raw_at (narrowed v) c ∷ r) (go l)
