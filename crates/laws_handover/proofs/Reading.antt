-- Bytes are read, indexed and sliced as exactly their events, where none that is in time follows the stop of a slice by time.
use Rattle.evt_codec.specs.Codec.{events_from, fresh_c}
use Rattle.std.specs.Prelude.{Option, Some, None, Result, Ok}
use Rattle.evt_types.specs.declared.SensorSize.{SensorSize}
use Rattle.evt_types.specs.declared.Refusal.{Refusal}
use Rattle.evt_types.specs.{Event.Event, Outcome.give, declared.Encoding.Encoding}
use Rattle.header.specs.{Header.has_zero, Header.header_of, Header.size_that_holds}
use Rattle.index_build.specs.{Index.body_at, Index.index_outcome, Index.kept_events, Index.open_raw_outcome, Index.open_words_outcome}
use Rattle.index_build.specs.{declared.RawSliceSource.RawSliceSource}
use Rattle.laws_handover.specs.{Handover.Decodes, Handover.Exact, Handover.Front, Handover.Gives, Handover.Indexes, Handover.Reads, Handover.Suits}
use Rattle.laws_handover.specs.{Handover.Way, Handover.as_recording, Handover.as_words, Handover.bare, Handover.encoding_by, Handover.front_bytes}
use Rattle.laws_handover.specs.{Handover.headed, Handover.open_by_lem, Handover.opening_as, Handover.read_by, Handover.reading_as, Handover.records_by}
use Rattle.laws_handover.specs.{Handover.size_by, Handover.start_by, Reading.Comes}
use Rattle.laws_header.specs.ReadBack.{read_back_given}
use Rattle.read_rules.specs.Read.{body_events, raw_outcome, shortest, sizeless, words_outcome}
use Rattle.read_select.specs.Uses.{PastOver}
use Rattle.read_window.specs.declared.Window.{Window}
use Rattle.slice.specs.{Opened.OpenedAs, Opened.opened_body, Opened.opened_number, Opened.opened_rules, Opened.opened_time, Own.own_window}
use Rattle.slice_rules.specs.{Slice.SlicesFrom, Slice.slice_check, Slice.slice_outcome}
use Rattle.std.proofs.{Common.arith, Common.drop_at, Common.subst, Common.◌∙◌, Math.ListN.length-append}
use Rattle.std.specs.Prelude.{Bool, List, drop, false, length, refl, ℕ, ℤ, ◌++◌, ◌<◌, ◌^◌, ◌≡◌, ◌≤◌}
use Rattle.write_header.specs.Header.{header_text}
use borrow.Author.Tests.{le-ltb}

-- a slice that no rule but 5 can refuse
slice_gives : (bytes : List ℕ) (source : RawSliceSource) (ok : Bool) (passes : slice_check (length bytes) source ok ≡ give tt)
    (asked part : List Event) (are : asked ≡ part)
    (r : Result ℕ Refusal) (xs₀ ys₀ : List ℕ) (ts₀ : List ℤ) (ps₀ xs ys : List ℕ) (ts : List ℤ) (ps : List ℕ)
    → SlicesFrom bytes source ok asked r xs₀ ys₀ ts₀ ps₀ xs ys ts ps → length part ≤ shortest xs₀ ys₀ ts₀ ps₀ → Gives part r xs₀ ys₀ ts₀ ps₀ xs ys ts ps
unfolding slice_outcome
slice_gives bytes source ok passes asked part are r xs₀ ys₀ ts₀ ps₀ xs ys ts ps s fits =
    let s' = rw (passes, are, le-ltb (shortest xs₀ ys₀ ts₀ ps₀) (length part) fits) at s in
    record { count = s'.is_answer; columns = s'.columns }

-- ---- a way of reading that comes to what the body at its start comes to

-- words do, and so does what follows a written header
words_come : (e : Encoding) (size : Option SensorSize) (bytes : List ℕ) → length bytes ≤ 2 ^ 30 → has_zero size ≡ false → Comes (as_words e size) bytes
unfolding words_outcome body_events open_words_outcome
words_come e size bytes few no_zero = record {
  within = omega arith;
  few = few;
  no_zero = no_zero;
  reads = λ room. rw (le-ltb (2 ^ 30) (length bytes) few, no_zero);
  opens = λ spacing room. rw (le-ltb (2 ^ 30) (length bytes) few, no_zero);
}

module _ (e : Encoding) (w h : ℕ) (body : List ℕ) (few : length (header_text e w h ++ body) ≤ 2 ^ 30) (narrow : w < 2 ^ 64) (low : h < 2 ^ 64)
    (no_zero : has_zero (Some (record { width = w; height = h })) ≡ false) where
  abbrev recording : List ℕ
  recording = header_text e w h ++ body

  header_is : header_of recording None ≡ Ok (record { data_offset = length (header_text e w h); sensor_size = Some (record { width = w; height = h }); encoding = e })
  unfolding size_that_holds
  header_is = read_back_given e w h body narrow low few None ∙ rw no_zero

  headed_come : Comes (as_recording e w h) recording
  unfolding raw_outcome body_events open_raw_outcome
  headed_come = record {
    within = rw length-append (omega arith);
    few = few;
    no_zero = no_zero;
    reads = λ room. rw header_is;
    opens = λ spacing room. rw header_is;
  }

-- ---- what comes so is read, indexed and sliced as the events that are kept

module _ (way : Way) (bytes : List ℕ) (comes : Comes way bytes) where
  abbrev size : Option SensorSize
  size = size_by way

  abbrev own : List Event
  own = kept_events size (encoding_by way) (drop (start_by way) bytes)

  module _ (is_sized : sizeless size own ≡ false) where
    read_outcome : (room : ℕ) → length own ≤ room → read_by way bytes room ≡ give (record { reading = reading_as way bytes own; events = own })
    read_outcome room fits = rw (comes.reads room, is_sized, le-ltb room (length own) fits)

    decodes : Decodes way bytes own
    decodes r xs₀ ys₀ ts₀ ps₀ xs ys ts ps d fits =
        let d' = rw (read_outcome (shortest xs₀ ys₀ ts₀ ps₀) fits) at d in
        (d'.is_answer, d'.columns)

    module _ (past : (win : Window) → PastOver win (fresh_c (encoding_by way)) (drop (start_by way) bytes)) where
      indexes : Indexes way bytes own
      unfolding index_outcome
      indexes spacing allowed room r records₀ records within ran fits =
          let e = encoding_by way in
          let start = start_by way in
          let opening = opening_as way bytes own spacing in
          let given : open_by_lem way bytes spacing room ≡ give (body_at bytes start e size spacing) =
          comes.opens spacing room ∙ rw (allowed, le-ltb room (records_by way bytes own spacing) fits, is_sized) in
          let o = rw given at ran in
          let is : OpenedAs bytes start e size spacing opening records =
          opened_body bytes start e size spacing opening records₀ records room comes.within comes.few comes.no_zero
          (rw (← comes.opens spacing room, given) (refl, o.is_records)) in
          let passes = opened_rules bytes start e size spacing opening records is in (
            o.is_answer,
            (λ i0 i1. slice_gives bytes opening.source _ passes _ _ (opened_number bytes start e size spacing opening records is i0 i1)),
            (λ t0 t1. slice_gives bytes opening.source _ passes _ _
                (opened_time bytes start e size spacing opening records is t0 t1 (past (own_window size e start bytes t0 t1)))),
          )

-- THE WORDS BEHIND A FRONT, whose events are es
module _ (e : Encoding) (body : List ℕ) (es : List Event) (are : events_from (fresh_c e) body ≡ es) (past : (win : Window) → PastOver win (fresh_c e) body) where
  read_by_lem : (way : Way) (bytes : List ℕ) → encoding_by way ≡ e → drop (start_by way) bytes ≡ body → Comes way bytes → Suits (size_by way) es → Reads way bytes es
  read_by_lem way bytes is-e is_IsBody comes suits =
      let kept-are : kept_events (size_by way) (encoding_by way) (drop (start_by way) bytes) ≡ es = rw (is-e, is_IsBody, are) suits.keeps in
      let is_sized : sizeless (size_by way) (kept_events (size_by way) (encoding_by way) (drop (start_by way) bytes)) ≡ false = rw kept-are suits.is_sized in
      subst (λ (es : List Event). Reads way bytes es) kept-are
      (record { decodes = decodes way bytes comes is_sized; indexes = indexes way bytes comes is_sized (rw (is-e, is_IsBody) past) })

  pub exact : (f : Front) → Exact e f (front_bytes e f ++ body) es
  exact bare few = λ size suits. read_by_lem (as_words e size) body refl refl (words_come e size body few suits.no_zero) suits
  exact (headed w h) few = λ narrow low suits.
      read_by_lem (as_recording e w h) (header_text e w h ++ body) refl (drop_at (header_text e w h) body _ refl)
      (headed_come e w h body few narrow low suits.no_zero) suits
