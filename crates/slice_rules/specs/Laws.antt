-- The parts of a slice come to what specs/Slice.antt defines.
use Rattle.std.specs.Prelude.{◌≡◌, Bool, false, ℕ, ◌-◌, ◌≤◌, ◌^◌, min, ltb, ℤ, take}
use Rattle.std.proofs.Math.Path.{refl, sym, ap}
use Rattle.std.proofs.Common.{◌∙◌, true≢false, drop_of_length-le, leb-true, leb-false, ltb-false, lt-ltb, le-ltb}
use Rattle.std.proofs.Math.Bool.{true, cond}
use mathlib.Core.List.{List, [], ◌∷◌}
use native.Mathlib.Omega.{arith}
use Rattle.std.proofs.Math.Dec.{leb}
use Rattle.std.proofs.Math.ListN.{length, drop, length-drop}
use Rattle.laws_stream.specs.Part.{rest_of}
use Rattle.evt_types.specs.declared.Refusal.TheVariants.{ColumnsTooShort}
use Rattle.evt_codec.specs.Sound.{able_range}
use Rattle.evt_types.specs.{Event.Event, Num.most_bytes, Outcome.Outcome, Outcome.refuse, Outcome.give, Outcome.on_outcome, Outcome.given_if}
use Rattle.evt_types.specs.{Outcome.given-unless, declared.Refusal.Refusal}
use Rattle.header.specs.Header.{has_zero}
use Rattle.read_select.specs.Pass.{Ready}
use Rattle.std.specs.Prelude.{Result, Ok, Err}
use Rattle.read_capacity.specs.{Deliver.shortest, Deliver.Handed, Deliver.Delivers, Laws.handed_none}
use Rattle.index_build.specs.{declared.Checkpoint.Checkpoint, declared.RawSliceSource.RawSliceSource, Index.spacing_ok}
use Rattle.index_records.specs.{InRange.index_in_range, Choose.passes_of, Choose.Chose, JudgeLaws.Good, Start.last_passing}
use Rattle.slice_rules.specs.declared.{Asked.Asked}
use Rattle.slice_rules.specs.Slice.{size_of}
use Rattle.slice_rules.specs.Slice.{slice_check, room_outcome, slice_outcome, told_slice, slice_verdict, slice_handed, slice_answer, Slices}
use Rattle.slice_rules.specs.From.{answer_of, start_of, SlicesFrom, Startable}
use Rattle.index_records.proofs.Judged.{last_good, parted_passes}

-- ---- an outcome's promises

-- what an answer tells is the verdict
told-answer : (o : Outcome (List Event)) → told_slice (slice_answer o) ≡ slice_verdict o
told-answer (refuse r) = refl
told-answer (give es) = refl

slices : {o : Outcome (List Event)} {r : Result ℕ Refusal} {xs₀ ys₀ : List ℕ} {ts₀ : List ℤ} {ps₀ xs ys : List ℕ} {ts : List ℤ} {ps : List ℕ} → r ≡ slice_answer o
    → Handed (slice_handed o) xs₀ ys₀ ts₀ ps₀ xs ys ts ps
    → Slices o r xs₀ ys₀ ts₀ ps₀ xs ys ts ps
slices {o} e h = record { is_told = ap told_slice e ∙ told-answer o; is_answer = e; columns = h }

-- 5, or the events
delivered : {es : List Event} {d : Result ℕ ℕ} {xs₀ ys₀ : List ℕ} {ts₀ : List ℤ} {ps₀ xs ys : List ℕ} {ts : List ℤ} {ps : List ℕ}
    → Delivers es d xs₀ ys₀ ts₀ ps₀ xs ys ts ps
    → Slices (room_outcome es (shortest xs₀ ys₀ ts₀ ps₀)) (answer_of d) xs₀ ys₀ ts₀ ps₀ xs ys ts ps
delivered {es} {d} {xs₀} {ys₀} {ts₀} {ps₀} {xs} {ys} {ts} {ps} h = rw h.answer (go (leb (length es) room) refl h.columns)
  where
    room : ℕ
    room = shortest xs₀ ys₀ ts₀ ps₀

    go : (b : Bool) → leb (length es) room ≡ b → Handed (cond b es []) xs₀ ys₀ ts₀ ps₀ xs ys ts ps
        → Slices (room_outcome es room) (answer_of (cond b (Ok (length es)) (Err (length es)))) xs₀ ys₀ ts₀ ps₀ xs ys ts ps
    go true p h = rw (le-ltb room (length es) (leb-true (length es) room p)) (slices {o = give es} refl h)
    go false p h = rw (lt-ltb room (length es) (leb-false (length es) room p)) (slices {o = refuse (ColumnsTooShort (length es))} refl h)

-- ---- 4, 1, 8, 10, and so on

-- from an offset on, clamped to the end
pub rest_from : (l : List ℕ) (a at : ℕ) → at ≡ min a (length l) → take (length l - at) (drop at l) ≡ drop a l
rest_from l a at e = rest_of l at ∙ ap (λ (k : ℕ). drop k l) e ∙ clamped (leb a (length l)) refl
  where
    clamped : (b : Bool) → leb a (length l) ≡ b → drop (min a (length l)) l ≡ drop a l
    clamped true p = let h = leb-true a (length l) p in let m : min a (length l) ≡ a = omega arith in rw m
    clamped false p =
        let h = leb-false a (length l) p in
        let m : min a (length l) ≡ length l = omega arith in
        rw m (drop_of_length-le l {i = length l} (omega arith) ∙ sym (drop_of_length-le l {i = a} (omega arith)))

pub ready_from : (recording : List ℕ) (s : RawSliceSource) (ok : Bool) (c : Checkpoint) → length recording ≤ 2 ^ 30
    → spacing_ok s.encoding s.spacing ≡ true → ok ≡ true → Startable s ok c
    → Ready c.codec c.event_index (length (drop c.byte_offset recording))
ready_from recording s ok c h p q able =
    let a = able p q in
    let l : length (drop c.byte_offset recording) ≤ 2 ^ 30 = omega (arith, length-drop c.byte_offset recording) in
    record { able = able_range c.codec (length (drop c.byte_offset recording)) a.0 l; long = l; low = omega (arith, a.1) }

-- what a start says of the check
start_given : (k : Outcome Unit) (to at : ℕ) → Ok at ≡ on_outcome Err (λ u. Ok to) k → (at ≡ to) × (k ≡ give tt)
start_given (refuse r) to at e = let no : ◌≡◌ {A = ℕ} 0 1 = cc in absurd (omega arith)
start_given (give u) to at e = (cc, refl)

start_refused : (k : Outcome Unit) (to : ℕ) (why : Refusal) → Err why ≡ on_outcome Err (λ u. Ok to) k → k ≡ refuse why
start_refused (refuse r) to why e = cc
start_refused (give u) to why e = let no : ◌≡◌ {A = ℕ} 0 1 = cc in absurd (omega arith)

pub record Starts (n : ℕ) (s : RawSliceSource) (ok : Bool) (offset at : ℕ) : Type 0 where
  pub place : at ≡ min offset n
  pub fits : n ≤ most_bytes
  pub spaced : spacing_ok s.encoding s.spacing ≡ true
  pub ranged : ok ≡ true

pub starts : (n : ℕ) (s : RawSliceSource) (ok : Bool) (offset at : ℕ) → Ok at ≡ start_of n s ok offset → Starts n s ok offset at
starts n s ok offset at e =
    let a = start_given (slice_check n s ok) (min offset n) at e in
    let long = given-unless tt (ltb most_bytes n) _ _ a.1 in
    let zero = given-unless tt (has_zero (size_of s)) _ _ long.1 in
    let spaced = given_if tt (spacing_ok s.encoding s.spacing) _ _ zero.1 in
    record { place = a.0; fits = ltb-false most_bytes n long.0; spaced = spaced.0; ranged = (given_if tt ok _ _ spaced.1).0 }

module _ (recording : List ℕ) (s : RawSliceSource) (ok : Bool) (es : List Event) (offset : ℕ) {xs₀ ys₀ : List ℕ} {ts₀ : List ℤ} {ps₀ : List ℕ} where
  pub from_not : (why : Refusal) → Err why ≡ start_of (length recording) s ok offset
      → SlicesFrom recording s ok es (Err why) xs₀ ys₀ ts₀ ps₀ xs₀ ys₀ ts₀ ps₀
  unfolding slice_outcome
  from_not why e = rw (start_refused (slice_check (length recording) s ok) (min offset (length recording)) why e) (slices {o = refuse why} refl handed_none)

  pub from_at : (at : ℕ) → Ok at ≡ start_of (length recording) s ok offset → (d : Result ℕ ℕ) (r : Result ℕ Refusal) {xs ys : List ℕ} {ts : List ℤ} {ps : List ℕ}
      → Delivers es d xs₀ ys₀ ts₀ ps₀ xs ys ts ps → r ≡ answer_of d → SlicesFrom recording s ok es r xs₀ ys₀ ts₀ ps₀ xs ys ts ps
  unfolding slice_outcome
  from_at at e d r h f = rw ((start_given (slice_check (length recording) s ok) (min offset (length recording)) at e).1, f) (delivered h)

-- ---- the record that a slice starts at

-- the records were judged, and one of them chosen
pub record Began (s : RawSliceSource) (records : List Checkpoint) (asked : Asked) (ok : Bool) (start : Checkpoint) : Type 0 where
  pub judged : ok ≡ index_in_range s records
  pub chose : Chose asked.choice records start

module _ (s : RawSliceSource) (records : List Checkpoint) (asked : Asked) (ok : Bool) (start : Checkpoint) (b : Began s records asked ok start) where
  -- in range it is the one by the definition, and good
  pub start_is : (p : Checkpoint → Bool) → passes_of asked.choice ≡ p → (c : Checkpoint) (cs : List Checkpoint) → records ≡ c ∷ cs
      → index_in_range s (c ∷ cs) ≡ true → start ≡ last_passing p c cs
  start_is p e c cs r ok = rw (← e) (rw r at b.chose (parted_passes s (c ∷ cs) ok asked.choice))

  pub start_good : index_in_range s records ≡ true → Good s start
  unfolding index_in_range
  start_good = go records refl
    where
      go : (l : List Checkpoint) → records ≡ l → index_in_range s l ≡ true → Good s start
      go [] r ok = absurd (true≢false (sym ok))
      go (c ∷ cs) r ok = rw (start_is (passes_of asked.choice) refl c cs r ok) (last_good s (passes_of asked.choice) c cs ok)

  pub startable : Startable s ok start
  startable p q = let g = start_good (sym b.judged ∙ q) in (g.decoder, g.few)
