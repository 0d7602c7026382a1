-- How many of a mask's events lie inside the sensor: the bits below its edge; in EVT3 counted by a table.
use Rattle.std.specs.Prelude.{◌≡◌, List, ℕ, ◌+◌, ◌*◌, ◌/◌, ◌%◌, ◌^◌, ◌≤◌, ◌<◌, length, get_or}
use Rattle.std.proofs.Common.{ap, ◌∙◌, arith}
use Rattle.std.specs.Int.Count.{ones}
use Rattle.std.proofs.lemmas.Nat.{ones_cat, ones-le}
use Rattle.std.proofs.lemmas.List.{length-map}
use Rattle.laws_stream.specs.Mask.{bits}
use Rattle.evt_types.specs.{declared.vector.Vector.Vector, Event.event_at}
use Rattle.read_columns.specs.Inside.{inside_of, column_bound, kept_bits, clipped, kept_small, inside-clipped}
use Rattle.read_count.specs.Tables.{table_of, table_at}
use Rattle.laws_stream.proofs.MaskLaws.{bits-count}

-- how many bits are set in each number of six bits
unfoldable pub bit_counts : List ℕ
bit_counts = table_of ones 64

-- the bits that are left of a mask clipped to the sensor
abbrev pub inside_count : (x y mask bound height : ℕ) → ℕ
inside_count x y mask bound height = ones (kept_bits x y mask bound height)

-- ---- a count by the table, of six bits at a time

bit_counts-at : (l : List ℕ) (k : ℕ) → l ≡ bit_counts → k < 64 → get_or l k 0 ≡ ones k
unfolding bit_counts
bit_counts-at l k e h = ap (λ (l : List ℕ). get_or l k 0) e ∙ table_at ones 64 k h

pub count-bits_of : (l : List ℕ) → l ≡ bit_counts → (m : ℕ) → m < 2 ^ 12 → (a b : ℕ) → a ≡ m / 2 ^ 0 % 2 ^ 6 → b ≡ m / 2 ^ 6 % 2 ^ 6
    → get_or l a 0 + get_or l b 0 ≡ ones m
count-bits_of l e m h a b is-a is_b =
    let w : m ≡ b * 2 ^ 6 + a = omega arith in
    omega (arith, bit_counts-at l a e (omega arith), bit_counts-at l b e (omega arith), ap ones w, ones_cat 6 b a (omega arith))

pub count-bits_few : (m : ℕ) → m < 2 ^ 12 → ones m ≤ 12
count-bits_few m h = ones-le 12 m h

-- ---- the events inside

pub inside_counted : (width height : ℕ) (v : Vector) → v.x < 65536 → v.mask < 2 ^ 32
    → length (inside_of width height v) ≡ inside_count v.x v.y v.mask (column_bound width) height
inside_counted width height v column small =
    let m = clipped width height v in
    ap length (inside-clipped width height v column small) ∙ length-map (bits 32 v.x m) (event_at v)
    ∙ bits-count 32 v.x m (kept_small 32 v.x v.y v.mask (column_bound width) height small)
