-- Laws of specs/Laws.antt.
use Rattle.evt_codec.specs.declared.codec.Codec.{Codec}
use Rattle.evt_types.specs.{Columns.Wrote, Event.Event}
use Rattle.read_capacity.specs.{Deliver.Delivers, Deliver.Enough, Deliver.shortest, Laws.handed-wrote, Laws.handed_none, Laws.inner, Laws.over}
use Rattle.std.specs.Prelude.{Ok, Err}
use Rattle.read_fill.specs.{Decode.filled_all_of, declared.FilledAll.FilledAll}
use Rattle.read_select.specs.{Pass.filled, declared.Filled.Filled}
use Rattle.read_window.specs.declared.Window.{Window}
use Rattle.std.proofs.{Common.ap, Common.arith, Common.le-leb, lemmas.Bool.lt-leb}
use Rattle.std.specs.Prelude.{List, false, leb, length, true, ℕ, ℤ, ◌<◌, ◌≡◌, ◌≤◌}

-- ---- what was written

module _ {xs₀ ys₀ : List ℕ} {ts₀ : List ℤ} {ps₀ : List ℕ} where
  pub delivers_all : (es : List Event) (room n m : ℕ) {xs ys : List ℕ} {ts : List ℤ} {ps : List ℕ} → room ≡ shortest xs₀ ys₀ ts₀ ps₀ → Enough es room n
      → n ≤ room → m ≡ length es → Wrote es 0 xs₀ ys₀ ts₀ ps₀ xs ys ts ps
      → Delivers es (Ok m) xs₀ ys₀ ts₀ ps₀ xs ys ts ps
  delivers_all es room n m r enough h e w =
      let fits : leb (length es) (shortest xs₀ ys₀ ts₀ ps₀) ≡ true = le-leb (length es) (shortest xs₀ ys₀ ts₀ ps₀) (omega (arith, enough.holds)) in
      record { answer = rw (fits, e); columns = rw fits (handed-wrote w) }

  pub delivers_none : (es : List Event) (room n : ℕ) → room ≡ shortest xs₀ ys₀ ts₀ ps₀ → Enough es room n → room < n
      → Delivers es (Err n) xs₀ ys₀ ts₀ ps₀ xs₀ ys₀ ts₀ ps₀
  delivers_none es room n r enough h =
      let is : n ≡ length es = enough.exact h in
      let short : leb (length es) (shortest xs₀ ys₀ ts₀ ps₀) ≡ false = lt-leb (length es) (shortest xs₀ ys₀ ts₀ ps₀) (omega arith) in
      record { answer = rw (short, is); columns = rw short handed_none }

-- ---- all events inside a sensor

module _ (width height : ℕ) (c : Codec) (bytes : List ℕ) where
  pub delivers_inside : (room n : ℕ) (t : FilledAll) {xs₀ ys₀ : List ℕ} {ts₀ : List ℤ} {ps₀ xs ys : List ℕ} {ts : List ℤ} {ps : List ℕ}
      → room ≡ shortest xs₀ ys₀ ts₀ ps₀ → Enough (inner width height c bytes) room n → n ≤ room
      → t ≡ filled_all_of width height c bytes → Wrote (inner width height c bytes) 0 xs₀ ys₀ ts₀ ps₀ xs ys ts ps → Delivers (inner width height c bytes) (Ok t.count) xs₀ ys₀ ts₀ ps₀ xs ys ts ps
  delivers_inside room n t r enough h is w = delivers_all (inner width height c bytes) room n t.count r enough h (ap (λ (t : FilledAll). t.count) is) w

-- ---- a pass hands over no more than its window has numbers, nor than its bytes have events

module _ (win : Window) (k : ℕ) (c : Codec) (bytes : List ℕ) where
  pub delivers_filled : (room n : ℕ) (t : Filled) {xs₀ ys₀ : List ℕ} {ts₀ : List ℤ} {ps₀ xs ys : List ℕ} {ts : List ℤ} {ps : List ℕ}
      → room ≡ shortest xs₀ ys₀ ts₀ ps₀ → Enough (over win k c bytes) room n → n ≤ room
      → t ≡ filled win k c bytes → Wrote (over win k c bytes) 0 xs₀ ys₀ ts₀ ps₀ xs ys ts ps → Delivers (over win k c bytes) (Ok t.count) xs₀ ys₀ ts₀ ps₀ xs ys ts ps
  delivers_filled room n t r enough h is w = delivers_all (over win k c bytes) room n t.count r enough h (ap (λ (t : Filled). t.count) is) w
