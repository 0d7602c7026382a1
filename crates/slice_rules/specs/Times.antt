-- Times of slices as natural numbers: a negative bound acts as 0, since no event and no decoder has a negative time.
use Rattle.std.specs.Prelude.{◌≡◌, refl, ◌&&◌, List, ℕ, leb, ltb, ℤ, pos, negsuc}
use Rattle.std.proofs.Common.{sym, arith, le-ltb}
use Rattle.std.proofs.Math.Dec.{leb-zero}
use Rattle.std.specs.Int.Signed.{le_z, lt_z}
use Rattle.std.specs.Prelude.{Some}
use Rattle.laws_stream.specs.{Machine.emits, Slice.sift, Slice.until, Slice.within, Words.words_of}
use Rattle.evt_codec.specs.{declared.codec.Codec.Codec, Reader.view}
use Rattle.read_columns.specs.Inside.{inside, clock}
pub use Rattle.evt_types.specs.Num.{natural}
use Rattle.read_window.specs.declared.Window.{Window}
use Rattle.read_select.specs.Uses.{is_timely, until_over}
use Rattle.read_rules.specs.Read.{kept}
use Rattle.slice_rules.specs.Slice.{is_during, is_at, events_until}

from-natural : (z : ℤ) (t : ℕ) → le_z z (pos t) ≡ leb (natural z) t
from-natural (pos n) t = refl
from-natural (negsuc n) t = sym (leb-zero t)

pub before-natural : (z : ℤ) (t : ℕ) → lt_z (pos t) z ≡ ltb t (natural z)
before-natural (pos n) t = refl
before-natural (negsuc n) t = sym (le-ltb t 0 (omega arith))

pub during_natural : (t0 t1 : ℤ) → is_during t0 t1 ≡ within clock (natural t0) (natural t1)
during_natural t0 t1 = λ i e. from-natural t0 e.t i && before-natural t1 e.t i

pub at-natural : (t1 : ℤ) → is_at t1 ≡ (λ started time. started && leb (natural t1) time)
at-natural t1 = λ i started time. started && from-natural t1 time i

-- the events of a slice by time, by the window of a pass: n0 and n1 are its numbers
module _ (w h n0 n1 : ℕ) (t0 t1 : ℤ) where
  abbrev pub time_window : Window
  time_window = record { width = w; height = h; n0 = n0; n1 = n1; t0 = natural t0; t1 = natural t1 }

  pub time_over : (c : Codec) (l : List ℕ)
      → sift (is_during t0 t1) (kept (Some (record { width = w; height = h })) (events_until t1 c l)) ≡ sift (is_timely time_window) (until_over time_window c l)
  time_over c l =
      let R = (view c).reader in
      λ i. sift (during_natural t0 t1 i) (sift (inside w h) (emits R.machine (view c).state
      (until R.machine (λ s. at-natural t1 i (R.started s) (R.time s)) (view c).state (words_of R.size l))))
