-- Laws of specs/Lawful3.antt.
use Prim.Native.Nat.{min, suc, zero, ℕ, ◌%◌, ◌*◌, ◌+◌, ◌-◌, ◌/◌, ◌<◌, ◌^◌, ◌≤◌}
use Rattle.evt3_decoder.specs.{Evt3.at_coarse, Evt3.first_word, Evt3.kind_on, Evt3.number, Evt3.past, Evt3.period3, Evt3.reader3, Evt3.started_word, Evt3.step3}
use Rattle.evt3_decoder.specs.{Evt3.step_as, Evt3.threshold3, Evt3.vector3, Evt3.vector_as, declared.Decoder.Decoder}
use Rattle.evt3_lead_words.specs.Evt3.{ahead3, at_end, base_word3, beyond, body3, encode3, encoded3, high_sent3, high_word3, leads3, loop_of, looped3}
use Rattle.evt3_lead_words.specs.Evt3.{looped_by, low_kept, low_sent3, low_word3, mask_count, mask_word3, masks, nearby, passes3, row_sent3, row_word3}
use Rattle.evt3_lead_words.specs.Evt3.{single_word3, singles, vectored, vectors}
use Rattle.evt3_run_rules.specs.{Runs.Rising, Runs.Run, Runs.Valid, Runs.first_x, Runs.given, Runs.last_x, Runs.spread, Vectors.mask-events}
use Rattle.evt3_run_words.specs.Masks.{near_inc}
use Rattle.evt_types.specs.{Event.Event, Event.events_of, Layout.column-polarity3, Layout.column-type3, Layout.column-x3, Layout.column_fits3, Layout.grain3}
use Rattle.evt_types.specs.{Layout.mask12, Layout.polarity3, Layout.time3, Layout.type3, Layout.word-mask12, Layout.word-time3, Layout.word-type3}
use Rattle.std.specs.Prelude.{Option, Some, None}
use Rattle.std.specs.Prelude.{ℕ}
use Rattle.evt_types.specs.{Layout.word-y3, Layout.word3, Layout.word_fits3, Layout.x3}
use Rattle.laws_formats.specs.{Lawful3.Agree3, Lawful3.High3, Lawful3.Ready3, Lawful3.format3, Ready.IfSent, Ready.Sayable, Ready.holds_sent, Ready.limit}
use Rattle.laws_formats.specs.{Ready.no_event, Ready.one-event, Ready.sayable, Ready.sayable-true}
use Rattle.laws_stream.proofs.LoopLaws.{tracks_next, tracks_same}
use Rattle.laws_stream.specs.{Format.Good, Format.Lawful, Machine.Note, Machine.notes, Machine.notes-append, Machine.run, Machine.words, Mask.Inc, Mask.mask}
use Rattle.laws_stream.specs.{Mask.mask_lt, Order.Rise, Order.rise_from, Order.rise_suffix}
use Rattle.read_columns.specs.Inside.{clock}
use Rattle.std.proofs.{Common.ap, Common.arith, Common.eqb-true, Common.sym, Common.true≢false, Common.◌∙◌, Math.Bool.false, Math.Bool.true, Math.Path.refl}
use Rattle.std.proofs.{Math.Path.subst⁻¹}
use Rattle.std.specs.Prelude.{Bool, cond, eqb, get_or, length, ◌≡◌}
use Rattle.write_buffer.specs.{Columns.event, Sent.due, Sent.quiet, Sent.sent_is, declared.EncoderState.EncoderState}
use Rattle.write_words.specs.Laws.{body-notes, due-notes, encode_notes3, leads_notes, masks-notes, none_left, passes_notes, reach, singles-notes, spread_is}
use mathlib.Core.List.{List, [], append_assoc, ◌++◌, ◌∷◌}

abbrev Rises : ℕ → List Event → Type 0
Rises = Rise clock sayable

-- the decoder has the time t and the row y
record Fixed (t y : ℕ) (d : Decoder) : Type 0 where
  early : t < limit
  on : d.initialised ≡ true
  counted : d.high_loops ≡ t / period3
  at-coarse : d.time_base ≡ t / grain3 * grain3
  at_time : d.time ≡ t
  at_row : d.y ≡ y

fixed_ready : (t y : ℕ) (d : Decoder) (es : List Event) → Fixed t y d → Rises t es → Ready3 d es
fixed_ready t y d es f r = record {
  counted = omega (arith, f.counted, f.at-coarse);
  below = omega (arith, f.early, f.at-coarse);
  past = omega (arith, f.at-coarse, f.at_time);
  rises = rw f.at_time r;
}

-- what the decoder makes of some words, the last of which leave it at t and y
abbrev Reads : (t y : ℕ) → Decoder → List (Note ℕ Event) → List Event → Type 0
Reads t y d ns more = Good format3 d ns more × Fixed t y (run reader3 d (words ns))

-- one word, and what follows it
said_word : (t y : ℕ) (d d' : Decoder) (w : ℕ) (es left : List Event) (ns : List (Note ℕ Event)) (more : List Event)
    → step3 d w ≡ d' → events_of (vector3 d w) ≡ es → w < 2 ^ 16 → notes ns ≡ left → Ready3 d (es ++ (left ++ more))
    → Reads t y d' ns more → Reads t y d (record { word = w; events = es } ∷ ns) more
said_word t y d d' w es left ns more st em fits nl rd next = (
  record {
    ready = subst⁻¹ (λ (l : List Event). Ready3 d (es ++ (l ++ more))) nl rd;
    fits = fits;
    says = em;
    rest = subst⁻¹ (λ (z : Decoder). Good format3 z ns more) st next.0;
  },
  subst⁻¹ (λ (z : Decoder). Fixed t y (run reader3 z (words ns))) st next.1,
)

-- ---- events one by one

said_singles : (t y p : ℕ) (xs : List ℕ) (d : Decoder) (more : List Event) → Fixed t y d → Rises t (spread t y p xs ++ more)
    → Reads t y d (singles t y p xs) more
said_singles t y p [] d more f r = (fixed_ready t y d more f r, f)
said_singles t y p (x ∷ xs) d more f r =
    let g = sayable-true (event x y t p) r.0.fine in
    let w = single_word3 p x in
    let p2 : p % 2 < 2 = omega arith in
    let xm : x % 2048 < 2048 = omega arith in
    let is_x : x3 w ≡ x = column-x3 2 (p % 2) (x % 2048) (omega arith) p2 xm ∙ omega (arith, g.x<) in
    let is_p : polarity3 w ≡ p = column-polarity3 2 (p % 2) (x % 2048) (omega arith) p2 xm ∙ omega (arith, g.p<) in
    let by = started_word d w (type3 w) refl 2 (column-type3 2 (p % 2) (x % 2048) (omega arith) p2 xm) f.on in
    said_word t y d d w (event x y t p ∷ []) (spread t y p xs) (singles t y p xs) more by.0
    (ap events_of by.1 ∙ one-event (x3 w) d.y d.time (polarity3 w) (omega (arith, is_x, g.x<)) ∙ rw (is_x, is_p, f.at_time, f.at_row))
    (column_fits3 2 (p % 2) (x % 2048) (omega arith) p2 xm) (singles-notes t y p xs) (fixed_ready t y d (event x y t p ∷ (spread t y p xs ++ more)) f r)
    (said_singles t y p xs d more f r.1)

-- ---- events by masks

said_masks : (t y p k b : ℕ) (xs : List ℕ) (d : Decoder) (more : List Event) → Fixed t y d → d.base_x ≡ b → number d.polarity ≡ p → b + 12 * k ≤ 65535
    → Inc b (b + 12 * k) xs → Rises t (spread t y p xs ++ more) → Reads t y d (masks t y p k b xs) more
said_masks t y p zero b xs d more f eb ep fits i r = (fixed_ready t y d more f (rw (none_left b (b + 12 * 0) xs (omega arith) i) at r), f)
said_masks t y p (suc k) b xs d more f eb ep fits i r =
    let n = near_inc (b + 12) b (b + 12 * suc k) xs i in
    let near = nearby (b + 12) xs in
    let far = beyond (b + 12) xs in
    let i' : Inc (b + 12) (b + 12 + 12 * k) far = let e : b + 12 * suc k ≡ b + 12 + 12 * k = omega arith in rw e at n.1 in
    let lt : mask b near < 2 ^ 12 = mask_lt 12 b (b + 12) b near (omega arith) (omega arith) n.0 in
    let w = mask_word3 b near in
    let m< : mask b near % 4096 < 4096 = omega arith in
    let is_mask : mask12 w ≡ mask d.base_x near = word-mask12 4 (mask b near % 4096) (omega arith) m< ∙ rw eb (omega arith) in
    let r₁ : Rises t ((spread t y p near ++ spread t y p far) ++ more) = rw (spread_is t y p (b + 12) xs) r in
    let r₂ : Rises t (spread t y p near ++ (spread t y p far ++ more)) = rw append_assoc at r₁ in
    let by = started_word d w (type3 w) refl 4 (word-type3 4 (mask b near % 4096) (omega arith) m<) f.on in
    let next : min (d.base_x + 12) 65535 ≡ b + 12 = omega arith in
    let inc : Inc d.base_x (d.base_x + 12) near = rw eb n.0 in
    said_word t y d (past 12 d) w (spread t y p near) (spread t y p far) (masks t y p k (b + 12) far) more by.0
    (ap events_of by.1 ∙ mask-events 12 (vector_as (kind_on 4) d w) near (omega arith) (omega arith) is_mask inc ∙ rw (f.at_time, f.at_row, ep))
    (word_fits3 4 (mask b near % 4096) (omega arith) m<) (masks-notes t y p k (b + 12) far i')
    (fixed_ready t y d (spread t y p near ++ (spread t y p far ++ more)) f r₂)
    (said_masks t y p k (b + 12) far (past 12 d) more
    (record { early = f.early; on = f.on; counted = f.counted; at-coarse = f.at-coarse; at_time = f.at_time; at_row = f.at_row })
    next ep (omega arith) i' (rise_suffix clock sayable t (spread t y p near) (spread t y p far ++ more) r₂))

-- ---- the columns of a run

first_fine : (t y p : ℕ) (xs : List ℕ) (more : List Event) → 1 ≤ length xs → Rises t (spread t y p xs ++ more) → Sayable (event (first_x xs) y t p)
first_fine t y p [] more h r = absurd (omega arith)
first_fine t y p (x ∷ xs) more h r = sayable-true (event x y t p) r.0.fine

all_fine : (t y p : ℕ) (xs : List ℕ) (more : List Event) → Rises t (spread t y p xs ++ more) → (k : ℕ) → get_or xs k 0 < 2048
all_fine t y p [] more r k = omega arith
all_fine t y p (x ∷ xs) more r zero = (sayable-true (event x y t p) r.0.fine).x<
all_fine t y p (x ∷ xs) more r (suc k) = all_fine t y p xs more r.1 k

masks_few : (xs : List ℕ) → last_x xs < 2048 → mask_count xs ≤ 171
unfolding mask_count
masks_few xs h = omega arith

number_is : (p : ℕ) → p < 2 → number (eqb p 1) ≡ p
number_is zero h = refl
number_is (suc zero) h = refl
number_is (suc (suc p)) h = absurd (omega arith)

-- ---- time words

-- the first type 8, and each later one, takes the decoder to the coarse time of t, in the loop that it has counted
high_word : (t : ℕ) (on : Bool) (d : Decoder) → d.initialised ≡ on → d.high_loops ≡ t / period3 → d.time_base < t / grain3 * grain3 + threshold3
    → (d.initialised ≡ false → d.high_loops ≡ 0)
    → (step3 d (high_word3 t) ≡ at_coarse d (t / grain3 * grain3) d.high_loops) × (events_of (vector3 d (high_word3 t)) ≡ [])
high_word t on d o lp near off =
    let q< : t / grain3 % 4096 < 4096 = omega arith in
    go on o (word-type3 8 (t / grain3 % 4096) (omega arith) q<) (ap (λ (h : ℕ). h * grain3) (word-time3 8 (t / grain3 % 4096) (omega arith) q<))
  where
    go : (on : Bool) → d.initialised ≡ on → type3 (high_word3 t) ≡ 8 → time3 (high_word3 t) * grain3 ≡ t / grain3 % 4096 * grain3
        → (step3 d (high_word3 t) ≡ at_coarse d (t / grain3 * grain3) d.high_loops) × (events_of (vector3 d (high_word3 t)) ≡ [])
    go true o is-8 is-raw =
        let w = high_word3 t in
        let by = started_word d w (type3 w) refl 8 is-8 o in
        let q = tracks_same period3 threshold3 d.time_base d.high_loops (t / grain3 % 4096 * grain3) (t / grain3 * grain3) (omega arith) near in
        (by.0 ∙ rw (is-raw, q.0, q.1), ap events_of by.1 ∙ no_event)
    go false o is-8 is-raw =
        let w = high_word3 t in
        let by = first_word d w (type3 w) refl is-8 o in
        let z = off o in
        let same : t / grain3 % 4096 * grain3 ≡ t / grain3 * grain3 = omega arith in
        (by.0 ∙ rw (is-raw, same), ap events_of by.1 ∙ no_event)

-- with FFF to the last half of its loop
last_half : (d : Decoder) → d.high_loops ≡ d.time_base / period3 → (d.initialised ≡ false → d.high_loops ≡ 0)
    → let last = d.high_loops * period3 + 16773120 in
    (step3 d (word3 8 4095) ≡ at_coarse d last d.high_loops) × (events_of (vector3 d (word3 8 4095)) ≡ [])
last_half d counted off =
    let last = d.high_loops * period3 + 16773120 in
    let half : last / grain3 % 2 ^ 12 ≡ 4095 = omega arith in
    let whole : last / grain3 * grain3 ≡ last = omega arith in
    rw (half, whole) at (high_word last d.initialised d refl (omega arith) (omega arith) off)

-- a loop later
abbrev next_loop : Decoder → Decoder
next_loop d = at_coarse d (suc d.high_loops * period3) (suc d.high_loops)

abbrev after_loops : (n : ℕ) → Decoder → Decoder
after_loops zero d = d
after_loops (suc n) d = after_loops n (next_loop d)

-- with 000 from there to the next loop: the loop law
first_half : (d : Decoder) → d.initialised ≡ true → d.time_base ≡ d.high_loops * period3 + 16773120
    → (step3 d (word3 8 0) ≡ next_loop d) × (events_of (vector3 d (word3 8 0)) ≡ [])
first_half d on at =
    let w = word3 8 0 in
    let by = started_word d w (type3 w) refl 8 (word-type3 8 0 (omega arith) (omega arith)) on in
    let raw : time3 w * grain3 ≡ 0 = ap (λ (h : ℕ). h * grain3) (word-time3 8 0 (omega arith) (omega arith)) in
    let q = tracks_next period3 threshold3 d.time_base d.high_loops 0 (suc d.high_loops * period3) (omega arith) (omega arith) in
    (by.0 ∙ rw (raw, q.0, q.1), ap events_of by.1 ∙ no_event)

-- what the decoder is then
after_loops_lem : (n : ℕ) (d : Decoder) → ((after_loops n d).high_loops ≡ d.high_loops + n) × ((after_loops n d).y ≡ d.y)
after_loops_lem zero d = (omega arith, refl)
after_loops_lem (suc n) d = let ih = after_loops_lem n (next_loop d) in (omega (arith, ih.0), ih.1)

after-coarse : (n : ℕ) (d : Decoder) → let d' = after_loops (suc n) d in
    (d'.initialised ≡ true) × (d'.time_base ≡ (d.high_loops + suc n) * period3) × (d'.time ≡ d'.time_base)
after-coarse zero d = (refl, omega arith, refl)
after-coarse (suc n) d = let ih = after-coarse n (next_loop d) in (ih.0, omega (arith, ih.1), ih.2)

module _ (t y p : ℕ) (xs : List ℕ) (v : Rising xs) (more : List Event) (r : Rises t (spread t y p xs ++ more)) where
  fine : Sayable (event (first_x xs) y t p)
  fine = first_fine t y p xs more v.some r

  said_vectors : (d : Decoder) → Fixed t y d → Reads t y d (vectors t y p xs) more
  said_vectors d f =
      let x = first_x xs in
      let w = base_word3 p x in
      let few = masks_few xs (all_fine t y p xs more r (length xs - 1)) in
      let p2 : p % 2 < 2 = omega arith in
      let xm : x % 2048 < 2048 = omega arith in
      let is_x : x3 w ≡ x = column-x3 3 (p % 2) (x % 2048) (omega arith) p2 xm ∙ omega (arith, fine.x<) in
      let is_p : polarity3 w ≡ p = column-polarity3 3 (p % 2) (x % 2048) (omega arith) p2 xm ∙ omega (arith, fine.p<) in
      let by = started_word d w (type3 w) refl 3 (column-type3 3 (p % 2) (x % 2048) (omega arith) p2 xm) f.on in
      said_word t y d (step_as (kind_on 3) d w) w [] (spread t y p xs) (masks t y p (mask_count xs) x xs) more by.0 (ap events_of by.1 ∙ no_event)
      (column_fits3 3 (p % 2) (x % 2048) (omega arith) p2 xm) (masks-notes t y p (mask_count xs) x xs (reach xs v))
      (fixed_ready t y d (spread t y p xs ++ more) f r)
      (said_masks t y p (mask_count xs) x xs (step_as (kind_on 3) d w) more
      (record { early = f.early; on = f.on; counted = f.counted; at-coarse = f.at-coarse; at_time = f.at_time; at_row = f.at_row })
      is_x (ap (λ (q : ℕ). number (eqb q 1)) is_p ∙ number_is p fine.p<) (omega (arith, fine.x<)) (reach xs v) r)

  said_body : (d : Decoder) → Fixed t y d → Reads t y d (body3 t y p xs) more
  unfolding body3
  said_body d f = go (vectored xs)
    where
      go : (b : Bool) → Reads t y d (cond b (vectors t y p xs) (singles t y p xs)) more
      go true = said_vectors d f
      go false = said_singles t y p xs d more f r

  -- ---- row and time before them

  abbrev here : List (Note ℕ Event)
  here = body3 t y p xs

  said_row : (ro : Bool) (d : Decoder) → Fixed t d.y d → (ro ≡ true → d.y ≡ y) → Reads t y d (due ro (row_word3 y) ++ here) more
  said_row true d f h =
      said_body d (record { early = f.early; on = f.on; counted = f.counted; at-coarse = f.at-coarse; at_time = f.at_time; at_row = h refl })
  said_row false d f h =
      let w = row_word3 y in
      let y< : y % 2048 < 2048 = omega arith in
      let by = started_word d w (type3 w) refl 0 (word-type3 0 (y % 2048) (omega arith) (omega arith)) f.on in
      said_word t y d (step_as (kind_on 0) d w) w [] (spread t y p xs) here more by.0 (ap events_of by.1 ∙ no_event)
      (word_fits3 0 (y % 2048) (omega arith) (omega arith)) (body-notes t y p xs v) (fixed_ready t d.y d (spread t y p xs ++ more) f r)
      (said_body (step_as (kind_on 0) d w) (record {
        early = f.early;
        on = f.on;
        counted = f.counted;
        at-coarse = f.at-coarse;
        at_time = f.at_time;
        at_row = (word-y3 0 (y % 2048) (omega arith) y<).0 ∙ omega (arith, fine.y<);
      }))

  said_low : (lo ro : Bool) (d : Decoder) → d.initialised ≡ true → d.time_base ≡ t / grain3 * grain3 → Ready3 d (spread t y p xs ++ more)
      → (lo ≡ true → d.time ≡ t) → (ro ≡ true → d.y ≡ y) → Reads t y d (due lo (low_word3 t) ++ (due ro (row_word3 y) ++ here)) more
  said_low true ro d o k rd ht hr =
      said_row ro d (record { early = fine.t<; on = o; counted = omega (arith, rd.counted); at-coarse = k; at_time = ht refl; at_row = refl }) hr
  said_low false ro d o k rd ht hr =
      let w = low_word3 t in
      let l< : t % grain3 < 4096 = omega arith in
      let by = started_word d w (type3 w) refl 6 (word-type3 6 (t % grain3) (omega arith) l<) o in
      let is_t : d.time_base + time3 w ≡ t = rw (word-time3 6 (t % grain3) (omega arith) l<, k) (omega arith) in
      said_word t y d (step_as (kind_on 6) d w) w [] (spread t y p xs) (due ro (row_word3 y) ++ here) more by.0 (ap events_of by.1 ∙ no_event)
      (word_fits3 6 (t % grain3) (omega arith) l<) (due-notes ro (row_word3 y) here ∙ body-notes t y p xs v) rd
      (said_row ro (step_as (kind_on 6) d w)
      (record { early = fine.t<; on = o; counted = omega (arith, rd.counted); at-coarse = k; at_time = is_t; at_row = refl }) hr)

  said_high : (hi lo ro : Bool) (d : Decoder) → Ready3 d (spread t y p xs ++ more) → d.time ≤ t → d.high_loops ≡ t / period3
      → (d.initialised ≡ false → d.high_loops ≡ 0) → (hi ≡ true → High3 d (t / grain3))
      → (lo ≡ true → (hi ≡ true → d.time ≡ t) × (hi ≡ false → t % grain3 ≡ 0)) → (ro ≡ true → d.y ≡ y)
      → Reads t y d (due hi (high_word3 t) ++ (due lo (low_word3 t) ++ (due ro (row_word3 y) ++ here))) more
  said_high true lo ro d rd le lp off hh ht hr = said_low lo ro d (hh refl).0 (hh refl).1 rd (λ e. (ht e).0 refl) hr
  said_high false lo ro d rd le lp off hh ht hr =
      let w = high_word3 t in
      let d' = at_coarse d (t / grain3 * grain3) d.high_loops in
      let q = high_word t d.initialised d refl lp (omega (arith, rd.past)) off in
      said_word t y d d' w [] (spread t y p xs) (due lo (low_word3 t) ++ (due ro (row_word3 y) ++ here)) more q.0 q.1
      (word_fits3 8 (t / grain3 % 4096) (omega arith) (omega arith))
      (due-notes lo (low_word3 t) (due ro (row_word3 y) ++ here) ∙ due-notes ro (row_word3 y) here ∙ body-notes t y p xs v) rd
      (said_low lo ro d' refl refl
      (record {
        counted = omega arith;
        below = omega (arith, fine.t<);
        past = omega arith;
        rises = rise_from clock sayable (t / grain3 * grain3) t (spread t y p xs ++ more) (omega arith) r;
      })
      (λ e. omega (arith, (ht e).1 refl)) hr)

  -- ---- the words into a later loop before those

  abbrev all : List Event
  all = spread t y p xs ++ more

  module _ (rest : List (Note ℕ Event)) (noted : notes rest ≡ spread t y p xs) where
    -- the word 000, to a decoder that has the last half of its loop
    said_first : (n : ℕ) (d : Decoder) → d.initialised ≡ true → d.time_base ≡ d.high_loops * period3 + 16773120 → Ready3 d all
        → d.high_loops + suc n ≡ t / period3
        → (Ready3 (next_loop d) all → Reads t y (next_loop d) (passes3 n false ++ rest) more) → Reads t y d (quiet (word3 8 0) ∷ (passes3 n false ++ rest)) more
    said_first n d on at rd to next =
        let q = first_half d on at in
        said_word t y d (next_loop d) (word3 8 0) [] (spread t y p xs) (passes3 n false ++ rest) more q.0 q.1 (omega arith)
        (notes-append (passes3 n false) rest ∙ rw (passes_notes n false) noted) rd
        (next (record {
          counted = omega arith;
          below = omega (arith, fine.t<);
          past = omega arith;
          rises = rise_from clock sayable (suc d.high_loops * period3) t all (omega arith) r;
        }))

    said_passes : (n : ℕ) (end : Bool) (d : Decoder) → Ready3 d all → d.high_loops + n ≡ t / period3 → (d.initialised ≡ false → d.high_loops ≡ 0)
        → (end ≡ true → (d.initialised ≡ true) × (d.time_base ≡ d.high_loops * period3 + 16773120))
        → Reads t y (after_loops n d) rest more → Reads t y d (passes3 n end ++ rest) more
    unfolding passes3
    said_passes zero end d rd to off he next = next
    said_passes (suc n) true d rd to off he next =
        said_first n d (he refl).0 (he refl).1 rd to
        (λ rd'. said_passes n false (next_loop d) rd' (omega arith) (λ e. absurd (true≢false e)) (λ e. absurd (true≢false (sym e))) next)
    said_passes (suc n) false d rd to off he next =
        let last = d.high_loops * period3 + 16773120 in
        let d₁ = at_coarse d last d.high_loops in
        let q = last_half d rd.counted off in
        said_word t y d d₁ (word3 8 4095) [] (spread t y p xs) (quiet (word3 8 0) ∷ (passes3 n false ++ rest)) more q.0 q.1 (omega arith)
        (notes-append (passes3 n false) rest ∙ rw (passes_notes n false) noted) rd
        (said_first n d₁ refl refl
        (record {
          counted = omega arith;
          below = omega (arith, fine.t<);
          past = omega arith;
          rises = rise_from clock sayable last t all (omega arith) r;
        }) to
        (λ rd'. said_passes n false (next_loop d) rd' (omega arith) (λ e. absurd (true≢false e)) (λ e. absurd (true≢false (sym e))) next))

-- ---- the law

rise_run : (t y p from : ℕ) (xs : List ℕ) (more : List Event) → 1 ≤ length xs → Rises from (spread t y p xs ++ more)
    → Rises t (spread t y p xs ++ more) × (from ≤ t)
rise_run t y p from [] more h r = absurd (omega arith)
rise_run t y p from (x ∷ xs) more h r = ((record { rises = omega arith; fine = r.0.fine }, r.1), r.0.rises)

low_sent : (b : Bool) (l : Option ℕ) (q : ℕ) → sent_is (low_kept b l) q ≡ true → (b ≡ true → sent_is l q ≡ true) × (b ≡ false → q ≡ 0)
low_sent true l q e = ((λ f. e), (λ f. absurd (true≢false f)))
low_sent false l q e = ((λ f. absurd (true≢false (sym f))), (λ f. sym (eqb-true 0 q e)))

-- a writer in the loop of the run
led_is : (v : EncoderState) (r : Run)
    → leads3 v r.t r.y ++ body3 r.t r.y r.p r.xs ≡ due (high_sent3 v r.t) (high_word3 r.t)
    ++ (due (low_sent3 v r.t) (low_word3 r.t) ++ (due (row_sent3 v r.y) (row_word3 r.y) ++ body3 r.t r.y r.p r.xs))
unfolding leads3
led_is v r = simp append_assoc

-- a decoder that isn't started has counted no loop
unstarted : (s : Option ℕ) (d : Decoder) → IfSent s (High3 d) → d.high_loops ≡ loop_of s → d.initialised ≡ false → d.high_loops ≡ 0
unstarted None d h l off = l
unstarted (Some q) d h l off = absurd (true≢false (sym h.0 ∙ off))

led3 : (v : EncoderState) (d : Decoder) (r : Run) (more : List Event) → Valid r → Agree3 v d → Ready3 d (given r ++ more) → d.high_loops ≡ r.t / period3
    → Reads r.t r.y d (leads3 v r.t r.y ++ body3 r.t r.y r.p r.xs) more
led3 v d r more va ag rd lp =
    let rr = rise_run r.t r.y r.p d.time r.xs more va.some rd.rises in
    let hi = high_sent3 v r.t in
    let high_held = holds_sent v.time_high (High3 d) (r.t / grain3) ag.highs in
    rw (led_is v r)
    (said_high r.t r.y r.p r.xs va more rr.0 hi (low_sent3 v r.t) (row_sent3 v r.y) d rd rr.1 lp
    (unstarted v.time_high d ag.highs ag.loops) high_held
    (λ e. let q = low_sent hi v.time_low (r.t % grain3) e in
    ((λ f. omega (arith, (high_held f).1, holds_sent v.time_low (λ l. d.time ≡ d.time_base + l) (r.t % grain3) ag.lows (q.0 f))), q.1))
    (holds_sent v.y (λ y. d.y ≡ y) r.y ag.rows))

-- what is held agrees after the loops too, and the decoder is ready
agree_looped : (n : ℕ) (v : EncoderState) (d : Decoder) (t : ℕ) → Agree3 v d → d.high_loops + n ≡ t / period3 → Agree3 (looped_by v t n) (after_loops n d)
agree_looped zero v d t ag to = ag
agree_looped (suc n) v d t ag to =
    let a = after_loops_lem (suc n) d in
    let b = after-coarse n d in
    record { highs = (b.0, omega (arith, b.1)); lows = omega (arith, b.2); rows = rw a.1 ag.rows; loops = omega (arith, a.0) }

ready_looped : (n : ℕ) (d : Decoder) (t : ℕ) (es : List Event) → Ready3 d es → Rises t es → t < limit → d.high_loops + n ≡ t / period3
    → Ready3 (after_loops n d) es
ready_looped zero d t es rd r lt to = rd
ready_looped (suc n) d t es rd r lt to =
    let a = after_loops_lem (suc n) d in
    let b = after-coarse n d in
    record {
      counted = omega (arith, a.0, b.1);
      below = omega (arith, b.1);
      past = omega (arith, b.2);
      rises = rw (b.2, b.1) (rise_from clock sayable ((d.high_loops + suc n) * period3) t es (omega arith) r);
    }

-- the last half of the decoder's loop, where the writer holds it
at-end : (s : Option ℕ) (d : Decoder) → IfSent s (High3 d) → d.high_loops ≡ loop_of s → at_end s ≡ true
    → (d.initialised ≡ true) × (d.time_base ≡ d.high_loops * period3 + 16773120)
at-end None d h l e = absurd (true≢false (sym e))
at-end (Some q) d h l e = (h.0, omega (arith, h.1, eqb-true (q % 2 ^ 12) 4095 e))

group3 : (v : EncoderState) (d : Decoder) (r : Run) (more : List Event) → Valid r → Agree3 v d → Ready3 d (given r ++ more)
    → Good format3 d (encode3 v r) more × Agree3 (encoded3 v r) (run reader3 d (words (encode3 v r)))
unfolding encode3
group3 v d r more va ag rd =
    let t = r.t in
    let rr = rise_run t r.y r.p d.time r.xs more va.some rd.rises in
    let fine = first_fine t r.y r.p r.xs more va.some rr.0 in
    let n = ahead3 v t in
    let to : d.high_loops + n ≡ t / period3 = omega (arith, ag.loops, rd.counted, rd.past, rr.1) in
    let body = body3 t r.y r.p r.xs in
    let leads = leads3 (looped3 v t) t r.y in
    let g = said_passes t r.y r.p r.xs va more rr.0 (leads ++ body)
    (notes-append leads body ∙ rw (leads_notes (looped3 v t) t r.y) (body-notes t r.y r.p r.xs va))
    n (at_end v.time_high) d rd to (unstarted v.time_high d ag.highs ag.loops) (at-end v.time_high d ag.highs ag.loops)
    (led3 (looped3 v t) (after_loops n d) r more va (agree_looped n v d t ag to) (ready_looped n d t (given r ++ more) rd rr.0 fine.t< to)
    ((after_loops_lem n d).0 ∙ to)) in (
      g.0,
      record {
        highs = (g.1.on, g.1.at-coarse);
        lows = omega (arith, g.1.at-coarse, g.1.at_time);
        rows = g.1.at_row;
        loops = g.1.counted ∙ omega arith;
      },
    )

pub lawful3 : Lawful format3
lawful3 = record {
  sized = omega arith;
  noted = encode_notes3;
  starts = record { highs = tt; lows = tt; rows = tt; loops = refl };
  group = group3;
}
