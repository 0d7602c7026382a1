-- An index that opening made is one of its own recording (specs/Own.antt): slices over it are never refused for their state, and are exact.
use Rattle.std.specs.Prelude.{◌≡◌, Bool, cond, List, ◌++◌, ℕ, ◌-◌, ◌≤◌, ltb, ℤ, length, drop}
use Rattle.std.proofs.Math.Path.{refl, ap}
use Rattle.std.proofs.Common.{sym, ◌∙◌, arith}
use Rattle.std.proofs.Math.Bool.{true, false}
use Rattle.std.proofs.Math.Dec.{eqb-suc-zero}
use Rattle.std.proofs.Math.ListN.{take}
use Rattle.std.proofs.Math.Seq.{take_at}
use Rattle.laws_stream.specs.{Slice.sift, Order.greatest}
use Rattle.evt_types.specs.declared.{Encoding.Encoding, Refusal.Refusal, Refusal.TheVariants.InvalidSensorSize}
use Rattle.std.specs.Prelude.{Option, Some, None, Result, Ok, Err}
use Rattle.evt_types.specs.declared.SensorSize.{SensorSize}
use Rattle.evt_types.specs.declared.{Refusal.TheVariants.InvalidSpacing, Refusal.TheVariants.TooFewRecords}
use Rattle.evt_types.specs.{Columns.col_x, Columns.col_y, Event.Event}
use Rattle.evt_types.specs.{Num.most_bytes, Outcome.Outcome, Outcome.refuse, Outcome.give}
use Rattle.header.specs.{Header.has_zero}
use Rattle.read_rules.specs.Read.{width_of, height_of, sizeless}
use Rattle.index_build.specs.declared.{Checkpoint.Checkpoint}
use Rattle.index_build.specs.{declared.Opening.Opening, Index.open_answer}
use Rattle.index_build.specs.{Index.open_records, Laws.length-firsts}
use Rattle.index_build.specs.Index.{kept_events, record_count, records_of, spacing_ok, Body, body_at, index_outcome}
use Rattle.index_records.specs.InRange.{index_in_range}
use Rattle.slice_rules.specs.Slice.{size_of, first_of, end_of, index_events, is_during, time_events, slice_check}
use Rattle.slice.specs.Own.{own_events, own_source, own_records, OwnPast, own_in_range, own-number, own_time, own_rules}

-- ---- what an acceptance says

pub record OpenedAs (l : List ℕ) (start : ℕ) (e : Encoding) (size : Option SensorSize) (spacing : ℕ) (o : Opening) (records : List Checkpoint) : Type 0 where
  pub within : start ≤ length l
  pub long : length l ≤ most_bytes
  pub allowed : spacing_ok e spacing ≡ true
  pub positive : has_zero (size_of (own_source size e start spacing l)) ≡ false
  pub is_source : o.source ≡ own_source size e start spacing l
  pub is_records : take o.records records ≡ own_records size e start spacing l

module _ (o : Opening) (records₀ records : List Checkpoint) where
  -- an outcome that is answered by o, its records standing in front
  abbrev pub Gives : Outcome Body → Type 0
  Gives q = (open_answer q ≡ Ok o) × (records ≡ open_records q ++ drop (length (open_records q)) records₀)

  never : {P : Type 0} (r : Refusal) → Gives (refuse r) → P
  never r u = let e : Err r ≡ Ok o = u.0 in let z : ◌≡◌ {A = ℕ} 0 1 = cc in absurd (omega arith)

same-opening : (a b : Opening) → ◌≡◌ {A = Result Opening Refusal} (Ok a) (Ok b) → a ≡ b
same-opening a b e = cc

-- a size that isn't zero stays so, and one that is derived isn't
positive_own : (size : Option SensorSize) (es : List Event) → has_zero size ≡ false → has_zero (Some (record { width = width_of size es; height = height_of size es })) ≡ false
unfolding has_zero
positive_own None es h = rw (eqb-suc-zero (greatest col_x es), eqb-suc-zero (greatest col_y es))
positive_own (Some s) es h = h

module _ (l : List ℕ) (start : ℕ) (e : Encoding) (size : Option SensorSize) (spacing : ℕ) (o : Opening) (records₀ records : List Checkpoint) where
  abbrev body : List ℕ
  body = drop start l

  abbrev need : ℕ
  need = record_count (length body) spacing

  abbrev made : Opening
  made = record { source = own_source size e start spacing l; records = need }

  length-own : length (own_records size e start spacing l) ≡ need
  unfolding records_of
  length-own = length-firsts _ need

  pub opened_body : (room : ℕ) → start ≤ length l → length l ≤ most_bytes → has_zero size ≡ false
      → Gives o records₀ records (index_outcome (body_at l start e size spacing) room)
      → OpenedAs l start e size spacing o records
  unfolding index_outcome
  opened_body room within long positive = go (spacing_ok e spacing) refl (ltb room need) (sizeless size (kept_events size e body))
    where
      go : (a : Bool) → spacing_ok e spacing ≡ a → (b c : Bool)
          → Gives o records₀ records (cond a
          (cond b (refuse (TooFewRecords need)) (cond c (refuse InvalidSensorSize) (give (body_at l start e size spacing))))
          (refuse InvalidSpacing))
          → OpenedAs l start e size spacing o records
      go false p b c u = never o records₀ records InvalidSpacing u
      go true p true c u = never o records₀ records (TooFewRecords need) u
      go true p false true u = never o records₀ records InvalidSensorSize u
      go true p false false u =
          let is : made ≡ o = same-opening made o u.0 in
          record {
            within = within;
            long = long;
            allowed = p;
            positive = positive_own size (own_events size e start l) positive;
            is_source = ap (λ (x : Opening). x.source) (sym is);
            is_records = (λ i. take (sym is i).records (u.1 i))
                ∙ take_at (own_records size e start spacing l) (drop (length (own_records size e start spacing l)) records₀) need length-own;
          }

-- ---- slices over it

module _ (l : List ℕ) (start : ℕ) (e : Encoding) (size : Option SensorSize) (spacing : ℕ) (o : Opening) (records : List Checkpoint)
    (w : OpenedAs l start e size spacing o records) where
  abbrev lent : List Checkpoint
  lent = take o.records records

  -- never 10
  pub opened_in_range : index_in_range o.source lent ≡ true
  opened_in_range = (λ i. index_in_range (w.is_source i) (w.is_records i)) ∙ own_in_range size e start spacing l w.within w.long w.allowed

  -- nor 4, 1, 8
  pub opened_rules : slice_check (length l) o.source (index_in_range o.source lent) ≡ give tt
  opened_rules =
      (λ i. slice_check (length l) (w.is_source i) (index_in_range (w.is_source i) (w.is_records i)))
      ∙ own_rules size e start spacing l w.within w.long w.allowed w.positive

  pub opened_number : (i0 i1 : ℕ)
      → index_events l o.source lent i0 i1
      ≡ take (end_of o.source i0 i1 - first_of o.source i0) (drop (first_of o.source i0) (own_events size e start l))
  opened_number i0 i1 =
      (λ i. index_events l (w.is_source i) (w.is_records i) i0 i1) ∙ own-number size e start spacing l w.within w.long w.allowed i0 i1
      ∙ sym (λ i. take (end_of (w.is_source i) i0 i1 - first_of (w.is_source i) i0) (drop (first_of (w.is_source i) i0) (own_events size e start l)))

  pub opened_time : (t0 t1 : ℤ) → OwnPast size e start l t0 t1 → time_events l o.source lent t0 t1 ≡ sift (is_during t0 t1) (own_events size e start l)
  opened_time t0 t1 past =
      (λ i. time_events l (w.is_source i) (w.is_records i) t0 t1) ∙ own_time size e start spacing l w.within w.long w.allowed t0 t1 past
