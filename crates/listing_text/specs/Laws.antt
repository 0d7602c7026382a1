-- The listing, piece by piece: the first line, and the lines of the rows of four columns.
use Rattle.std.proofs.Common.{◌≡◌, refl, Bool, cond, List, [], ◌∷◌, ◌++◌, map, ℤ, length, drop, sym, ◌∙◌, append-nil, add-zero, zero-add, add-one}
use Rattle.std.proofs.Common.{length-append, length-drop, ap, true, false, ℕ, zero, suc, ◌+◌, ◌-◌, ◌*◌, ◌^◌, ◌≤◌, ◌<◌, arith, lt-ltb, le-ltb, ltb}
use Rattle.evt_types.specs.declared.{Encoding.Encoding, Encoding.TheVariants.Evt2, Encoding.TheVariants.Evt21, Encoding.TheVariants.Evt3}
use Rattle.std.specs.Prelude.{Option, None, Result, Ok, Err}
use Rattle.evt_types.specs.declared.SensorSize.{SensorSize}
use Rattle.header.specs.declared.Header as header
use Rattle.evt_types.specs.declared.{Refusal.Refusal, Refusal.TheVariants.InvalidSensorSize}
use Rattle.evt_types.specs.{Event.Event, Columns.col_x, Columns.col_y, Columns.col_t, Columns.col_p, Outcome.Outcome, Outcome.refuse, Outcome.give}
use Rattle.evt_types.specs.{Told.told}
use Rattle.evt_types.specs.Num as Num
use Rattle.laws_stream.specs.Columns.{sets_append}
use Rattle.std.proofs.lemmas.List.Edits.{sets}
use Rattle.std.proofs.Math.Seq.{length-sets}
use Rattle.header.specs.Header.{header_of, told_header}
use Rattle.header.specs.Laws.{header_four}
use Rattle.read_rules.specs.declared.{Reading.Reading}
use Rattle.read_rules.specs.Read.{ReadEvents, told_read, body_events, sizeless, width_of, height_of, body_outcome, outcome_after, raw_outcome, read_answer}
use Rattle.read_rules.specs.{Read.handed_events, Read.shortest, Read.Handed, Read.Reads, Read.ReadsRaw, Laws.sensor_of, Laws.body-all}
use Rattle.evt_codec.specs.Codec.{fresh_c}
use Rattle.read_capacity.specs.{Deliver.most_from, Laws.few_inside}
use Rattle.write_buffer.specs.Columns.{event_of}
use Rattle.listing_text.specs.declared.Begun.{Begun}
use Rattle.listing_lines.specs.Listing.{too_long, refused_line, event_line, event_lines, most_listed, list_options, list_room, outcome_text, listing_of}
use Rattle.write_text.specs.Stored.{Stored}
use Rattle.listing_lines.specs.Lines.{head_line}

-- ---- rows of columns

-- n rows from i on
unfoldable pub rows_from : List ℕ → List ℕ → List ℤ → List ℕ → (i n : ℕ) → List Event
rows_from xs ys ts ps i zero = []
rows_from xs ys ts ps i (suc n) = event_of xs ys ts ps i ∷ rows_from xs ys ts ps (suc i) n

-- the columns reach so far, and the lines' length is a number
pub record Rows (xs ys : List ℕ) (ts : List ℤ) (ps : List ℕ) (i n : ℕ) : Type 0 where
  pub small : i + n ≤ 2 ^ 30
  pub reach-x : i + n ≤ length xs
  pub reach-y : i + n ≤ length ys
  pub reach-t : i + n ≤ length ts
  pub reach_p : i + n ≤ length ps

rows_tail : (x y : ℕ) (t : ℤ) (p : ℕ) (xs ys : List ℕ) (ts : List ℤ) (ps : List ℕ) (i n : ℕ)
    → rows_from (x ∷ xs) (y ∷ ys) (t ∷ ts) (p ∷ ps) (suc i) n ≡ rows_from xs ys ts ps i n
unfolding rows_from
rows_tail x y t p xs ys ts ps i zero = refl
rows_tail x y t p xs ys ts ps i (suc n) = ap (λ (l : List Event). event_of xs ys ts ps i ∷ l) (rows_tail x y t p xs ys ts ps (suc i) n)

-- the rows of columns that events were handed over in
rows_events : (es : List Event) (a b : List ℕ) (c : List ℤ) (d : List ℕ)
    → rows_from (map col_x es ++ a) (map col_y es ++ b) (map col_t es ++ c) (map col_p es ++ d) 0 (length es) ≡ es
unfolding rows_from
rows_events [] a b c d = refl
rows_events (e ∷ es) a b c d =
    ap (λ (l : List Event). e ∷ l) (rows_tail _ _ _ _ (map col_x es ++ a) (map col_y es ++ b) (map col_t es ++ c) (map col_p es ++ d) 0 (length es)
    ∙ rows_events es a b c d)

pub rows_handed : {es : List Event} {xs₀ ys₀ : List ℕ} {ts₀ : List ℤ} {ps₀ xs ys : List ℕ} {ts : List ℤ} {ps : List ℕ}
    → Handed es xs₀ ys₀ ts₀ ps₀ xs ys ts ps → rows_from xs ys ts ps 0 (length es) ≡ es
rows_handed {es} {xs₀} {ys₀} {ts₀} {ps₀} h =
    rw (h.column-x, h.column-y, h.column-t, h.column_p)
    (rows_events es (drop (length es) xs₀) (drop (length es) ys₀) (drop (length es) ts₀) (drop (length es) ps₀))

-- rows that are listed one part after another
module _ (xs ys : List ℕ) (ts : List ℤ) (ps : List ℕ) where
  pub rows_first : (i n : ℕ) → 0 < n → rows_from xs ys ts ps i n ≡ event_of xs ys ts ps i ∷ rows_from xs ys ts ps (i + 1) (n - 1)
  unfolding rows_from
  rows_first i zero h = absurd (omega arith)
  rows_first i (suc n) h = let e : suc n - 1 ≡ n = omega arith in rw (add-one, e)

  lines_first : (i left : ℕ) → 0 < left
      → event_lines (rows_from xs ys ts ps i left) ≡ event_line (event_of xs ys ts ps i) ++ event_lines (rows_from xs ys ts ps (i + 1) (left - 1))
  unfolding event_lines
  lines_first i left h = ap event_lines (rows_first i left h)

-- ---- the answer

-- how many events are listed
abbrev pub count_of : Result Reading Refusal → ℕ
count_of (Ok r) = r.count
count_of (Err r) = 0

unfoldable pub head_of : List ℕ → List ℕ
head_of recording = cond (ltb most_listed (length recording)) too_long (head_line (read_answer (raw_outcome recording list_options list_room)))

-- at most 12 events for each word of EVT3, 32 for each of EVT2.1
body_few : (size : Option SensorSize) (e : Encoding) (body : List ℕ) → length body ≤ most_listed → length (body_events e size None body) ≤ list_room
body_few size e body h = rw (body-all size e body (omega arith)) (go e (few_inside (sensor_of size).width (sensor_of size).height (fresh_c e) body))
  where
    go : (e : Encoding) {n : ℕ} → n ≤ most_from (fresh_c e) (length body) → n ≤ list_room
    go Evt2 k = omega arith
    go Evt21 k = omega arith
    go Evt3 k = omega arith

-- an outcome in such room
pub record Lists (o : Outcome ReadEvents) : Type 0 where
  pub counts : count_of (read_answer o) ≡ length (handed_events o)
  pub small : length (handed_events o) ≤ list_room
  pub never_5 : (told_read (read_answer o)).number ≡ 5 → ⊥
  pub parts : outcome_text o ≡ head_line (read_answer o) ++ event_lines (handed_events o)

lists_refused : (r : Refusal) → (told r).number ≤ 4 → Lists (refuse r)
unfolding event_lines
lists_refused r h = record { counts = refl; small = omega arith; never_5 = λ e. omega (arith, e); parts = sym (append-nil (refused_line r)) }

lists_read : (g : ReadEvents) → g.reading.count ≡ length g.events → length g.events ≤ list_room → Lists (give g)
lists_read g e h = record { counts = e; small = h; never_5 = λ q. omega (arith, q); parts = refl }

lists_body : (e : Encoding) (size : Option SensorSize) (es : List Event) → length es ≤ list_room → Lists (body_outcome e size None es list_room)
lists_body e size es h =
    rw (le-ltb list_room (length es) h)
    (go (sizeless size es) (record { encoding = e; width = width_of size es; height = height_of size es; count = length es }) refl)
  where
    go : (b : Bool) (r : Reading) → r.count ≡ length es → Lists (cond b (refuse InvalidSensorSize) (give (record { reading = r; events = es })))
    go true r e = lists_refused InvalidSensorSize (omega arith)
    go false r e = lists_read (record { reading = r; events = es }) e h

lists_after : (a : Result header.Header Refusal) (recording : List ℕ) → (told_header a).number ≤ 4 → length recording ≤ most_listed
    → Lists (outcome_after a recording None list_room)
lists_after (Err r) recording h k = lists_refused r h
lists_after (Ok g) recording h k =
    lists_body g.encoding g.sensor_size (body_events g.encoding g.sensor_size None (drop g.data_offset recording))
    (body_few g.sensor_size g.encoding (drop g.data_offset recording) (rw length-drop (omega arith)))

pub lists_raw : (recording : List ℕ) → length recording ≤ most_listed → Lists (raw_outcome recording list_options list_room)
unfolding raw_outcome
lists_raw recording h = lists_after (header_of recording None) recording (header_four recording None) h

-- ---- the listing, in pieces

-- columns that always suffice
pub record Wide (xs ys : List ℕ) (ts : List ℤ) (ps : List ℕ) : Type 0 where
  pub wide-x : length xs ≡ list_room
  pub wide-y : length ys ≡ list_room
  pub wide-t : length ts ≡ list_room
  pub wide_p : length ps ≡ list_room

-- the first line is stored, and the lines of the first rows make the listing with it
pub record Begins (recording : List ℕ) (r : Begun) (out₀ out xs ys : List ℕ) (ts : List ℤ) (ps : List ℕ) : Type 0 where
  pub head : Stored 96 out₀ 0 (head_of recording) r.written out
  pub small : r.count ≤ list_room
  pub listing : listing_of recording ≡ head_of recording ++ event_lines (rows_from xs ys ts ps 0 r.count)

module _ (recording : List ℕ) {out₀ out : List ℕ} (n : ℕ) where
  pub begins_long : {xs ys : List ℕ} {ts : List ℤ} {ps : List ℕ} → most_listed < length recording → Stored 9 out₀ 0 too_long n out
      → Begins recording (record { written = n; count = 0 }) out₀ out xs ys ts ps
  unfolding head_of listing_of rows_from event_lines
  begins_long h s =
      let lt : ltb most_listed (length recording) ≡ true = lt-ltb most_listed (length recording) h in
      record {
        head =
            rw lt (record { ends = s.ends; few = omega (arith, s.few); stores = s.stores });
        small = omega arith;
        listing = rw lt (sym (append-nil too_long));
      }

  begins_go : {xs ys : List ℕ} {ts : List ℤ} {ps : List ℕ} (a : Result Reading Refusal) (o : Outcome ReadEvents) → length recording ≤ most_listed
      → o ≡ raw_outcome recording list_options list_room → a ≡ read_answer o → Lists o → rows_from xs ys ts ps 0 (length (handed_events o)) ≡ handed_events o
      → Stored 96 out₀ 0 (head_line a) n out → Begins recording (record { written = n; count = count_of a }) out₀ out xs ys ts ps
  unfolding head_of listing_of
  begins_go a o h p q l rows s =
      let le : ltb most_listed (length recording) ≡ false = le-ltb most_listed (length recording) h in
      record {
        head = rw (le, ← p, ← q) s;
        small = rw q (omega (arith, l.counts, l.small));
        listing = rw (le, ← p, q, l.counts, rows) l.parts;
      }

  pub begins_read : {xs₀ ys₀ : List ℕ} {ts₀ : List ℤ} {ps₀ xs ys : List ℕ} {ts : List ℤ} {ps : List ℕ} (a : Result Reading Refusal) → length recording ≤ most_listed
      → Wide xs₀ ys₀ ts₀ ps₀
      → ReadsRaw recording list_options a xs₀ ys₀ ts₀ ps₀ xs ys ts ps → Stored 96 out₀ 0 (head_line a) n out → (k : ℕ) → k ≡ count_of a
      → Begins recording (record { written = n; count = k }) out₀ out xs ys ts ps
  begins_read {xs₀} {ys₀} {ts₀} {ps₀} a h w r s k is =
      let room : shortest xs₀ ys₀ ts₀ ps₀ ≡ list_room = omega (arith, w.wide-x, w.wide-y, w.wide-t, w.wide_p) in
      let o = raw_outcome recording list_options list_room in
      let r' : Reads o a xs₀ ys₀ ts₀ ps₀ _ _ _ _ = rw room at r in
      rw is (begins_go a o h refl r'.is_answer (lists_raw recording h) (rows_handed r'.columns) s)

-- ---- lines stored row by row: `left` rows from i on are to come

pub record Listing (xs ys : List ℕ) (ts : List ℤ) (ps : List ℕ) (from n : ℕ) (out₀ : List ℕ) (at i left : ℕ) (out : List ℕ) : Type 0 where
  pub count : i + left ≡ from + n
  pub fewer : left ≤ n
  pub long : length out ≡ length out₀
  pub small : at + 84 * left ≤ 84 * n
  pub ends : at + length (event_lines (rows_from xs ys ts ps i left)) ≡ length (event_lines (rows_from xs ys ts ps from n))
  pub stores : sets out at (event_lines (rows_from xs ys ts ps i left)) ≡ sets out₀ 0 (event_lines (rows_from xs ys ts ps from n))

module _ {xs ys : List ℕ} {ts : List ℤ} {ps : List ℕ} {from n : ℕ} {out₀ : List ℕ} where
  pub listing_start : Listing xs ys ts ps from n out₀ 0 from n out₀
  listing_start = record { count = refl; fewer = omega arith; long = refl; small = omega arith; ends = zero-add _; stores = refl }

  pub listing-next : {at i left : ℕ} {out : List ℕ} (r : ℕ) (out' : List ℕ) → 0 < left → Stored 84 out at (event_line (event_of xs ys ts ps i)) r out'
      → Listing xs ys ts ps from n out₀ at i left out → Listing xs ys ts ps from n out₀ r (i + 1) (left - 1) out'
  listing-next {at} {i} {left} {out} r out' h s l =
      let line = event_line (event_of xs ys ts ps i) in
      let rest = event_lines (rows_from xs ys ts ps (i + 1) (left - 1)) in
      let is : event_lines (rows_from xs ys ts ps i left) ≡ line ++ rest = lines_first xs ys ts ps i left h in
      record {
        count = omega (arith, l.count);
        fewer = omega (arith, l.fewer);
        long = ap length s.stores ∙ length-sets out at line ∙ l.long;
        small = omega (arith, l.small, s.ends, s.few);
        ends = omega (arith, l.ends, s.ends, ap length is, length-append line rest);
        stores = rw (s.stores, s.ends) (sym (sets_append out at line rest) ∙ ap (sets out at) (sym is) ∙ l.stores);
      }

  pub listing-end : {at i left : ℕ} {out : List ℕ} → left ≤ 0 → Listing xs ys ts ps from n out₀ at i left out
      → Stored (84 * n) out₀ 0 (event_lines (rows_from xs ys ts ps from n)) at out
  unfolding rows_from event_lines
  listing-end {at} {i} {left} {out} h l = none (rw (z) at l)
    where
      z : left ≡ 0
      z = omega arith

      none : Listing xs ys ts ps from n out₀ at i 0 out → Stored (84 * n) out₀ 0 (event_lines (rows_from xs ys ts ps from n)) at out
      none l = record { ends = sym (add-zero at) ∙ l.ends ∙ sym (zero-add _); few = omega (arith, l.small, l.ends, add-zero at); stores = l.stores }
