-- A pass hands over no more than its bounds say, and what was written or needed is what specs/Deliver.antt defines.
use Rattle.std.specs.Prelude.{◌≡◌, refl, Bool, true, false, ◌&&◌, List, [], ◌∷◌, ℕ, suc, ◌-◌, ◌≤◌, min, max, leb, ltb, ℤ, length, take}
use Rattle.std.proofs.Common.{ap, subst, arith, mul_comm, leb-true, ltb-true}
use Rattle.evt_types.specs.{Columns.col_x, Columns.col_y, Columns.col_t, Columns.col_p, Columns.Wrote, Columns.Fits}
use Rattle.evt_types.specs.{Event.Event}
use Rattle.laws_stream.specs.{Columns.written-front, Slice.onto, Words.words_of}
use Rattle.laws_stream.specs.Select as Select
use Rattle.evt_codec.specs.{declared.codec.Codec.Codec, Reader.view, Codec.word_size}
use Rattle.read_count.specs.{declared.CountedAll.CountedAll, Count.counted_all_of}
use Rattle.read_fill.specs.{Decode.inside_events, Laws.inside_few}
use Rattle.read_window.specs.{declared.Window.Window, Window.selection_of}
use Rattle.read_select.specs.{declared.SurveyTotals.SurveyTotals, Pass.reading_by, Pass.handed_over, Pass.surveyed}
use Rattle.read_select.specs.{Uses.numbered_over, Uses.over_few}
use Rattle.read_capacity.specs.Deliver.{Handed, most_from, most_over, Enough}

-- ---- what was written

pub fits_room : (n a b c d : ℕ) → n ≤ min (min a b) (min c d) → Fits n a b c d
fits_room n a b c d h = record { fit_x = omega arith; fit_y = omega arith; fit_t = omega arith; fit_p = omega arith }

module _ {xs₀ ys₀ : List ℕ} {ts₀ : List ℤ} {ps₀ : List ℕ} where
  pub handed-wrote : {es : List Event} {xs ys : List ℕ} {ts : List ℤ} {ps : List ℕ} → Wrote es 0 xs₀ ys₀ ts₀ ps₀ xs ys ts ps
      → Handed es xs₀ ys₀ ts₀ ps₀ xs ys ts ps
  handed-wrote {es} w = record {
    column-x = written-front col_x es xs₀ _ w.is_x;
    column-y = written-front col_y es ys₀ _ w.is_y;
    column-t = written-front col_t es ts₀ _ w.is_t;
    column_p = written-front col_p es ps₀ _ w.is_p;
  }

  pub handed_none : Handed [] xs₀ ys₀ ts₀ ps₀ xs₀ ys₀ ts₀ ps₀
  handed_none = record { column-x = refl; column-y = refl; column-t = refl; column_p = refl }

-- what fits a room that holds enough
pub enough_fits : (es : List Event) (room n a b c d : ℕ) → room ≡ min (min a b) (min c d) → Enough es room n → n ≤ room → Fits (length es) a b c d
enough_fits es room n a b c d r enough h = fits_room (length es) a b c d (omega (arith, enough.holds))

pub enough_most : (es : List Event) (room most : ℕ) → length es ≤ most → most ≤ room → Enough es room most
enough_most es room most h l = record { holds = h; exact = λ m. absurd (omega arith) }

pub enough_just : (es : List Event) (room n : ℕ) → n ≡ length es → Enough es room n
enough_just es room n e = record { holds = omega arith; exact = λ m. e }

-- ---- all events inside a sensor

module _ (width height : ℕ) (c : Codec) (bytes : List ℕ) where
  abbrev pub inner : List Event
  inner = inside_events width height c bytes

  pub few_inside : length inner ≤ most_from c (length bytes)
  few_inside = subst (λ (n : ℕ). length inner ≤ n) (mul_comm (view c).reader.most _) (inside_few width height c bytes)

  pub need-all-most : (room most : ℕ) → most ≡ most_from c (length bytes) → most ≤ room → Enough inner room most
  need-all-most room most e h = enough_most inner room most (omega (arith, few_inside)) h

  pub need-all-count : (room : ℕ) (t : CountedAll) → t ≡ counted_all_of width height c bytes → Enough inner room t.count
  need-all-count room t is = enough_just inner room t.count (ap (λ (t : CountedAll). t.count) is)

-- ---- a pass hands over no more than its window has numbers, nor than its bytes have events

module _ {S : Type 0} (R : Select.Reading S ℕ Event) (span : Select.Selection) where
  chosen-span : (k : ℕ) (es : List Event) → length (Select.chosen R span k es) ≤ span.n1 - max span.n0 k
  chosen-span k [] = omega arith
  chosen-span k (e ∷ es) =
      go (leb span.n0 k) refl (ltb k span.n1) refl (leb span.t0 (R.clock e) && ltb (R.clock e) span.t1) (chosen-span (suc k) es)
    where
      go : (a : Bool) → leb span.n0 k ≡ a → (b : Bool) → ltb k span.n1 ≡ b → (c : Bool)
          → length (Select.chosen R span (suc k) es) ≤ span.n1 - max span.n0 (suc k)
          → length (onto (a && (b && c)) e (Select.chosen R span (suc k) es)) ≤ span.n1 - max span.n0 k
      go false p b q c h = omega arith
      go true p false q c h = omega arith
      go true p true q false h = omega arith
      go true p true q true h = omega (arith, h, leb-true span.n0 k p, ltb-true k span.n1 q)

  handed-span : (k : ℕ) (s : S) (ws : List ℕ) → length (Select.handed R span k s ws) ≤ span.n1 - span.n0
  handed-span k s ws = rw Select.handed-after (omega (arith, chosen-span k (Select.numbered R s (take (Select.ended R span k s ws).consumed ws))))

module _ (win : Window) (k : ℕ) (c : Codec) (bytes : List ℕ) where
  abbrev pub over : List Event
  over = handed_over win k c bytes

  over-span : length over ≤ win.n1 - win.n0
  over-span = handed-span (reading_by (view c).reader win) (selection_of win) k (view c).state (words_of (word_size c) bytes)

  pub numbered-most : length (numbered_over win c bytes) ≤ most_from c (length bytes)
  numbered-most = few_inside win.width win.height c bytes

  few_over : (most : ℕ) → most ≡ most_over win c (length bytes) → length over ≤ most
  few_over most e = omega (arith, over-span, over_few win k c bytes, numbered-most)

  pub need-most : (room most : ℕ) → most ≡ most_over win c (length bytes) → most ≤ room → Enough over room most
  need-most room most e h = enough_most over room most (few_over most e) h

  pub need-count : (room : ℕ) (t : SurveyTotals) → t ≡ surveyed win k c bytes → Enough over room t.count
  need-count room t is = enough_just over room t.count (ap (λ (t : SurveyTotals). t.count) is)
