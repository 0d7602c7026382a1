-- The words that carry events are event words, and each of a writer's other words carries none.
use Rattle.evt21_encoder.specs.Evt21.{block_of, encode21, encoded21, high_word21, mask_of, runs21, word_of21, writer21}
use Rattle.evt2_encoder.specs.Evt2.{encode2, encoded2, high_sent2, high_word2, word_of2, writer2}
use Rattle.evt3_lead_words.specs.Evt3.{ahead3, at_end, beyond, body3, encode3, encoded3, high_sent3, high_word3, leads3, looped3, low_sent3, low_word3}
use Rattle.evt3_lead_words.specs.Evt3.{mask_count, masks, nearby, passes3, row_sent3, row_word3, singles, vectored, vectors, writer3}
use Rattle.evt3_run_rules.specs.Runs.{Run, first_of, first_x, given, runs}
use Rattle.evt_types.specs.{Event.Event, Layout.built_upper, Layout.column-type3, Layout.event-type2, Layout.type2, Layout.type21, Layout.upper_type}
use Rattle.evt_types.specs.{Layout.word-type3, Layout.word3, declared.Encoding.Encoding, declared.Encoding.TheVariants.Evt2}
use Rattle.evt_types.specs.{declared.Encoding.TheVariants.Evt21, declared.Encoding.TheVariants.Evt3}
use Rattle.laws_formats.specs.Appends.{append_notes}
use Rattle.laws_handover.specs.Handover.{Typed, is_event_word}
use Rattle.laws_stream.specs.{Machine.All, Machine.all_append, Machine.emits, Mask.mask}
use Rattle.std.proofs.{Common.ap, Common.arith, Common.le-leb, Common.sym, Common.◌∙◌, Math.Bool.false, Math.Bool.true}
use Rattle.std.specs.Prelude.{Bool, List, [], cond, suc, zero, ℕ, ◌%◌, ◌++◌, ◌+◌, ◌^◌, ◌∷◌, ◌≡◌}
use Rattle.write_buffer.specs.{Columns.event, Sent.carries, Sent.due, Sent.quiet, declared.EncoderState.EncoderState}
use Rattle.write_words.specs.Encode.{encode_notes, encode_state}

due_typed : (e : Encoding) (b : Bool) (w : ℕ) → All (Typed e) (due b w)
due_typed e true w = tt
due_typed e false w = ((λ h. absurd (omega arith)), tt)

-- ---- EVT2

event_typed : (a : Event) → is_event_word Evt2 (word_of2 a) ≡ true
event_typed a =
    rw (event-type2 (a.p % 2) (a.t % 64) (a.x % 2048) (a.y % 2048) (omega arith) (omega arith) (omega arith) (omega arith))
    (le-leb (a.p % 2) 1 (omega arith))

typed2 : (v : EncoderState) (es : List Event) → All (Typed Evt2) (emits writer2 v es)
unfolding encode2
typed2 v [] = tt
typed2 v (a ∷ es) =
    all_append (Typed Evt2) (encode2 v a) (emits writer2 (encoded2 v a) es)
    (all_append (Typed Evt2) (due (high_sent2 v a) (high_word2 a.t)) (carries (word_of2 a) a ∷ [])
    (due_typed Evt2 (high_sent2 v a) (high_word2 a.t)) ((λ h. event_typed a), tt))
    (typed2 (encoded2 v a) es)

-- ---- EVT 2.1: the type is that of the upper half, a word of EVT2

run_typed : (r : Run) → is_event_word Evt21 (word_of21 r) ≡ true
run_typed r =
    let first : Event = event (block_of (first_x r.xs)) r.y r.t r.p in
    let is : type21 (word_of21 r) ≡ type2 (word_of2 first) =
    sym (upper_type (word_of21 r)) ∙ ap type2 (built_upper (word_of2 first) (mask_of r.xs % 2 ^ 32) (omega arith)) in
    rw is (event_typed first)

typed21 : (v : EncoderState) (rs : List Run) → All (Typed Evt21) (emits writer21 v rs)
unfolding encode21
typed21 v [] = tt
typed21 v (r ∷ rs) =
    let b = high_sent2 v (first_of r) in
    all_append (Typed Evt21) (encode21 v r) (emits writer21 (encoded21 v r) rs)
    (all_append (Typed Evt21) (due b (high_word21 r.t)) (record { word = word_of21 r; events = given r } ∷ [])
    (due_typed Evt21 b (high_word21 r.t)) ((λ h. run_typed r), tt))
    (typed21 (encoded21 v r) rs)

-- ---- EVT3

module _ (t y p : ℕ) where
  singles_typed : (xs : List ℕ) → All (Typed Evt3) (singles t y p xs)
  singles_typed [] = tt
  singles_typed (x ∷ xs) = ((λ h. rw (column-type3 2 (p % 2) (x % 2048) (omega arith) (omega arith) (omega arith))), singles_typed xs)

  masks_typed : (k b : ℕ) (xs : List ℕ) → All (Typed Evt3) (masks t y p k b xs)
  masks_typed zero b xs = tt
  masks_typed (suc k) b xs =
      ((λ h. rw (word-type3 4 (mask b (nearby (b + 12) xs) % 4096) (omega arith) (omega arith))), masks_typed k (b + 12) (beyond (b + 12) xs))

  body_typed : (xs : List ℕ) → All (Typed Evt3) (body3 t y p xs)
  unfolding body3
  body_typed xs = go (vectored xs)
    where
      go : (b : Bool) → All (Typed Evt3) (cond b (vectors t y p xs) (singles t y p xs))
      go true = ((λ h. absurd (omega arith)), masks_typed (mask_count xs) (first_x xs) xs)
      go false = singles_typed xs

leads_typed : (v : EncoderState) (t y : ℕ) → All (Typed Evt3) (leads3 v t y)
unfolding leads3
leads_typed v t y =
    let low = due (low_sent3 v t) (low_word3 t) in
    let row = due (row_sent3 v y) (row_word3 y) in
    all_append (Typed Evt3) (due (high_sent3 v t) (high_word3 t)) (low ++ row) (due_typed Evt3 (high_sent3 v t) (high_word3 t))
    (all_append (Typed Evt3) low row (due_typed Evt3 (low_sent3 v t) (low_word3 t)) (due_typed Evt3 (row_sent3 v y) (row_word3 y)))

passes_typed : (n : ℕ) (end : Bool) → All (Typed Evt3) (passes3 n end)
unfolding passes3
passes_typed zero end = tt
passes_typed (suc n) end =
    all_append (Typed Evt3) (due end (word3 8 4095)) (quiet (word3 8 0) ∷ passes3 n false) (due_typed Evt3 end (word3 8 4095))
    ((λ h. absurd (omega arith)), passes_typed n false)

typed3 : (v : EncoderState) (rs : List Run) → All (Typed Evt3) (emits writer3 v rs)
unfolding encode3
typed3 v [] = tt
typed3 v (r ∷ rs) =
    all_append (Typed Evt3) (encode3 v r) (emits writer3 (encoded3 v r) rs)
    (all_append (Typed Evt3) (passes3 (ahead3 v r.t) (at_end v.time_high)) _ (passes_typed (ahead3 v r.t) (at_end v.time_high))
    (all_append (Typed Evt3) (leads3 (looped3 v r.t) r.t r.y) (body3 r.t r.y r.p r.xs) (leads_typed (looped3 v r.t) r.t r.y)
    (body_typed r.t r.y r.p r.xs)))
    (typed3 (encoded3 v r) rs)

-- ---- each

encode_typed : (e : Encoding) (v : EncoderState) (es : List Event) → All (Typed e) (encode_notes e v es)
encode_typed Evt2 v es = typed2 v es
encode_typed Evt21 v es = typed21 v (runs21 es)
encode_typed Evt3 v es = typed3 v (runs es)

pub append_typed : (e : Encoding) (v : EncoderState) (gs : List (List Event)) → All (Typed e) (append_notes e v gs)
append_typed e v [] = tt
append_typed e v (g ∷ gs) =
    all_append (Typed e) (encode_notes e v g) (append_notes e (encode_state e v g) gs) (encode_typed e v g) (append_typed e (encode_state e v g) gs)
