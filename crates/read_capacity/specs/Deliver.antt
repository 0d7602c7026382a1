-- All events or none: what is answered, and what the columns hold.
use Rattle.std.specs.Prelude.{◌≡◌, cond, List, [], ◌++◌, map, ℕ, ◌-◌, ◌*◌, ◌/◌, ◌≤◌, ◌<◌, min, leb, ℤ, length, drop}
use Rattle.evt_codec.specs.{declared.codec.Codec.Codec, Reader.view, Codec.word_size}
use Rattle.evt_types.specs.{Columns.col_x, Columns.col_y, Columns.col_t, Columns.col_p, Event.Event}
use Rattle.read_window.specs.declared.Window.{Window}
use Rattle.std.specs.Prelude.{Result, Ok, Err}

-- ---- columns

abbrev pub shortest : (xs ys : List ℕ) (ts : List ℤ) (ps : List ℕ) → ℕ
shortest xs ys ts ps = min (min (length xs) (length ys)) (min (length ts) (length ps))

-- the events stand in front, and behind them all is as it was
pub record Handed (es : List Event) (xs₀ ys₀ : List ℕ) (ts₀ : List ℤ) (ps₀ xs ys : List ℕ) (ts : List ℤ) (ps : List ℕ) : Type 0 where
  pub column-x : xs ≡ map col_x es ++ drop (length es) xs₀
  pub column-y : ys ≡ map col_y es ++ drop (length es) ys₀
  pub column-t : ts ≡ map col_t es ++ drop (length es) ts₀
  pub column_p : ps ≡ map col_p es ++ drop (length es) ps₀

-- ---- all events or none

abbrev pub delivered_of : List Event → (room : ℕ) → Result ℕ ℕ
delivered_of es room = cond (leb (length es) room) (Ok (length es)) (Err (length es))

abbrev pub fitting : List Event → (room : ℕ) → List Event
fitting es room = cond (leb (length es) room) es []

pub record Delivers (es : List Event) (r : Result ℕ ℕ) (xs₀ ys₀ : List ℕ) (ts₀ : List ℤ) (ps₀ xs ys : List ℕ) (ts : List ℤ) (ps : List ℕ) : Type 0 where
  pub answer : r ≡ delivered_of es (shortest xs₀ ys₀ ts₀ ps₀)
  pub columns : Handed (fitting es (shortest xs₀ ys₀ ts₀ ps₀)) xs₀ ys₀ ts₀ ps₀ xs ys ts ps

-- ---- bounds

-- more events than this n bytes can't have
abbrev pub most_from : Codec → (n : ℕ) → ℕ
most_from c n = n / word_size c * (view c).reader.most

-- nor a window of numbers n0 to before n1
abbrev pub most_over : Window → Codec → (n : ℕ) → ℕ
most_over win c n = min (win.n1 - win.n0) (most_from c n)

-- n places hold the events; where n is more than the room, it is their number
pub record Enough (es : List Event) (room n : ℕ) : Type 0 where
  pub holds : length es ≤ n
  pub exact : room < n → n ≡ length es
