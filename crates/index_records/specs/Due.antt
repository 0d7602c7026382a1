-- What the next record of an index must be like, by rule 10, and the judging of records one after another, as the code does it.
-- proofs/Judged.antt has that this comes to the rule: `judged_in_range`.
use Rattle.std.specs.Prelude.{◌≡◌, refl, ℕ, suc, ◌+◌, ◌^◌, ◌<◌, ◌≤◌, Bool, true, false, cond, ◌&&◌, List, [], ◌∷◌}
use Rattle.std.specs.Prelude.{length, drop, not, pos, int_le, nat_eq, nat_le, nat_lt, Option, Some, None}
use Rattle.std.specs.Option.{option_eq}
use Rattle.std.proofs.Common.{sym, ap, ◌∙◌, arith, add-one, drop_of_length-le, drop-cons, lt-ltb}
use Rattle.std.proofs.Math.Bool.{and-true}
use Rattle.evt_codec.specs.Codec.{in_range_c}
use Rattle.index_build.specs.{declared.Checkpoint.Checkpoint, declared.RawSliceSource.RawSliceSource, Nth.nth, Nth.blank}
use Rattle.index_records.specs.{declared.Due.Due, InRange.record_in_range, Judge.is_other}

-- an offset that a record can stand at: none is from 2^64 on
abbrev pub place_of : ℕ → Option ℕ
place_of offset = cond (nat_lt offset (2 ^ 64)) (Some offset) None

abbrev pub due_first : RawSliceSource → Due
due_first s = record { offset = place_of s.data_offset; count = 0; time = pos 0 }

abbrev pub due_behind : RawSliceSource → Checkpoint → Due
due_behind s c = record { offset = place_of (c.byte_offset + s.spacing); count = c.event_index; time = c.time }

-- whether c is what is due
abbrev pub admits_of : RawSliceSource → Due → Checkpoint → Bool
admits_of s due c =
    option_eq nat_eq (Some c.byte_offset) due.offset
    && (not (is_other c.codec s.encoding)
    && (in_range_c c.codec
    && (nat_le due.count c.event_index
    && (nat_le c.event_index (2 ^ 33)
    && (nat_le c.event_index s.n_events
    && int_le due.time c.time)))))

-- r tells whether c is what is due, at whichever offset that is
abbrev pub Admits : RawSliceSource → Due → Checkpoint → Bool → Type 0
Admits s due c r = (offset : ℕ) → due.offset ≡ place_of offset → r ≡ record_in_range s offset due.count due.time c

-- ---- one after another

-- records by a test of each against what is due behind the one before it
abbrev pub judged_from : RawSliceSource → (test : Due → Checkpoint → Bool) → Due → List Checkpoint → Bool
judged_from s test due [] = true
judged_from s test due (c ∷ cs) = test due c && judged_from s test (due_behind s c) cs

-- whether there is a record, and each is what is due
abbrev pub judged_records : RawSliceSource → List Checkpoint → Bool
judged_records s l = nat_lt 0 (length l) && judged_from s (admits_of s) (due_first s) l

-- ---- a loop that judges

module _ (s : RawSliceSource) (l : List Checkpoint) where
  abbrev all : Bool
  all = judged_from s (admits_of s) (due_first s) l

  -- behind the first i records `due` is due: judging the rest comes to judging all
  pub record Judged (i : ℕ) (due : Due) : Type 0 where
    pub same : judged_from s (admits_of s) due (drop i l) ≡ all

  pub judged_first : Judged 0 (due_first s)
  judged_first = record { same = refl }

  module _ (i : ℕ) (due : Due) (j : Judged i due) (h : i < length l) (r : Bool) (is : r ≡ admits_of s due (nth l i)) where
    abbrev rest : Bool
    rest = judged_from s (admits_of s) (due_behind s (nth l i)) (drop (suc i) l)

    by_record : r && rest ≡ all
    by_record = ap (λ (b : Bool). b && rest) is ∙ sym (ap (judged_from s (admits_of s) due) (drop-cons l i blank h)) ∙ j.same

    pub judged_next : r ≡ true → (next : Due) → next ≡ due_behind s (nth l i) → Judged (i + 1) next
    judged_next e next behind = rw behind (record { same = rw add-one (ap (λ (b : Bool). b && rest) (sym e) ∙ by_record) })

    pub judged_stops : r ≡ false → false ≡ judged_records s l
    judged_stops e =
        ap (λ (b : Bool). b && rest) (sym e) ∙ by_record ∙ sym (ap (λ (b : Bool). b && all) (lt-ltb 0 (length l) (omega (arith, h))))

  pub judged_all : (i : ℕ) (due : Due) → Judged i due → length l ≤ i → nat_lt 0 (length l) ≡ judged_records s l
  judged_all i due j h =
      sym (and-true (nat_lt 0 (length l)))
      ∙ ap (λ (b : Bool). nat_lt 0 (length l) && b) (sym (ap (judged_from s (admits_of s) due) (drop_of_length-le l h)) ∙ j.same)
