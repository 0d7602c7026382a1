-- Laws of specs/Laws.antt.
use Rattle.evt_codec.specs.{Codec.fresh_c, declared.codec.Codec.Codec}
use Rattle.evt_types.specs.{Columns.col_x, Columns.col_y, Event.Event, Outcome.Outcome, Outcome.give, Outcome.refuse, declared.Encoding.Encoding}
use Rattle.std.specs.Prelude.{Option, Some, None, Result, Ok, Err}
use Rattle.evt_types.specs.declared.SensorSize.{SensorSize}
use Rattle.evt_types.specs.declared.Refusal.{Refusal}
use Rattle.read_rules.specs.declared.Reading.{Reading}
use Rattle.evt_types.specs.{declared.Refusal.TheVariants.ColumnsTooShort}
use Rattle.header.specs.{Header.header_of}
use Rattle.laws_stream.specs.{Mask.top, Order.greatest, Order.greatest-map}
use Rattle.read_capacity.specs.{Deliver.Delivers}
use Rattle.read_fill.specs.Laws.{inside-bytes}
use Rattle.read_rules.specs.{Laws.handed-limit, Laws.judged_of, Laws.kept-inside, Laws.most_of, Laws.raw_fit, Laws.room, Laws.sensor_events, Laws.sensor_of}
use Rattle.read_rules.specs.{Laws.settled_of, Laws.sized_of_lem, Laws.window_of, Laws.words_fit, Read.DecodesWords, Read.Handed, Read.ReadEvents}
use Rattle.read_rules.specs.{Read.ReadsBody, Read.ReadsRaw, Read.body_events, Read.body_outcome, Read.handed_events, Read.read_answer, Read.read_verdict}
use Rattle.read_rules.specs.{Read.shortest, Read.told_read, declared.LoadOptions.LoadOptions}
use Rattle.read_select.specs.Pass.{handed_over}
use Rattle.read_window.specs.declared.Window.{Window}
use Rattle.std.proofs.{Common.add-one, Common.ap, Common.arith, Common.le-ltb, Common.leb-false, Common.leb-true, Common.lt-ltb, Common.ne_eqb, Common.sym}
use Rattle.std.proofs.{Common.take_all, Common.take_at, Common.◌∙◌, lemmas.List.length-map}
use Rattle.std.specs.Prelude.{Bool, List, [], cond, drop, false, leb, length, ltb, map, refl, take, true, ℕ, ℤ, ◌++◌, ◌<◌, ◌^◌, ◌∷◌, ◌≡◌, ◌≤◌}
use Rattle.header.specs.declared.Header as header

-- ---- the events of a body

body-most : (size : Option SensorSize) (e : Encoding) (limit : Option ℕ) (body : List ℕ) → length body ≤ 2 ^ 30
    → body_events e size limit body ≡ take (most_of limit) (sensor_events (sensor_of size).width (sensor_of size).height e body)
unfolding body_events
body-most size e None body h =
    let es = sensor_events (sensor_of size).width (sensor_of size).height e body in
    kept-inside size e body h
    ∙ sym (take_all 18446744073709551615 es (omega (arith, inside-bytes (sensor_of size).width (sensor_of size).height (fresh_c e) body)))
body-most size e (Some n) body h = ap (take n) (kept-inside size e body h)

-- what a pass under the window hands over
pub body-handed : (size : Option SensorSize) (e : Encoding) (limit : Option ℕ) (body : List ℕ) → length body ≤ 2 ^ 30
    → handed_over (window_of size limit) 0 (fresh_c e) body ≡ body_events e size limit body
body-handed size e limit body h =
    handed-limit (sensor_of size).width (sensor_of size).height (most_of limit) e body h ∙ sym (body-most size e limit body h)

-- ---- the size

module _ (size : Option SensorSize) (e : Encoding) (limit : Option ℕ) (codec : Codec) (is-fresh : codec ≡ fresh_c e) where
  pub delivers_body : (body : List ℕ) (win : Window) {r : Result ℕ ℕ} {xs₀ ys₀ : List ℕ} {ts₀ : List ℤ} {ps₀ xs ys : List ℕ} {ts : List ℤ} {ps : List ℕ}
      → length body ≤ 2 ^ 30 → win ≡ window_of size limit
      → Delivers (handed_over win 0 codec body) r xs₀ ys₀ ts₀ ps₀ xs ys ts ps → Delivers (body_events e size limit body) r xs₀ ys₀ ts₀ ps₀ xs ys ts ps
  delivers_body body win h w d =
      let same : handed_over win 0 codec body ≡ body_events e size limit body =
      (λ i. handed_over (w i) 0 (is-fresh i) body) ∙ body-handed size e limit body h in
      rw same at d

-- ---- what was delivered comes to the answer

top-handed : (f : Event → ℕ) (es : List Event) (old now : List ℕ) → now ≡ map f es ++ drop (length es) old → top (take (length es) now) ≡ greatest f es
top-handed f es old now e =
    ap (λ (l : List ℕ). top (take (length es) l)) e ∙ ap top (take_at (map f es) (drop (length es) old) (length es) (length-map es f))
    ∙ greatest-map (λ x. x) f es

-- what an answer tells is the verdict
told-answer : (o : Outcome ReadEvents) → told_read (read_answer o) ≡ read_verdict o
told-answer (refuse r) = refl
told-answer (give g) = refl

module _ {xs₀ ys₀ : List ℕ} {ts₀ : List ℤ} {ps₀ xs ys : List ℕ} {ts : List ℤ} {ps : List ℕ} (es : List Event) (r : Result ℕ ℕ)
    (d : Delivers es r xs₀ ys₀ ts₀ ps₀ xs ys ts ps) where
  module _ (e : Encoding) where
    -- the answer to what was delivered, and the events in the columns
    abbrev Settles : Option SensorSize → List Event → Result Reading Refusal → Type 0
    Settles size es' a =
        let o = body_outcome e size None es' (room es r d) in
        (a ≡ read_answer o) × Handed (handed_events o) xs₀ ys₀ ts₀ ps₀ xs ys ts ps

    fits_go : (size : Option SensorSize) (es' : List Event) → es ≡ es' → length es ≤ room es r d → Handed es xs₀ ys₀ ts₀ ps₀ xs ys ts ps
        → Settles size es' (sized_of_lem e size (length es') xs ys)
    fits_go (Some s) es' q h c = let le : ltb (room es r d) (length es') ≡ false = le-ltb (room es r d) (length es') (rw (← q) h) in (rw le, rw (le, ← q) c)
    fits_go None [] q h c = (refl, rw q at c)
    fits_go None (a ∷ es') q h c =
        let le : ltb (room es r d) (length (a ∷ es')) ≡ false = le-ltb (room es r d) (length (a ∷ es')) (rw q at h) in
        let c' : Handed (a ∷ es') xs₀ ys₀ ts₀ ps₀ xs ys ts ps = rw q at c in (
          rw (
            ne_eqb (length (a ∷ es')) 0 (omega arith),
            le,
            top-handed col_x (a ∷ es') xs₀ xs c'.column-x,
            top-handed col_y (a ∷ es') ys₀ ys c'.column-y,
            add-one,
            add-one,
          ),
          rw le c',
        )

    short_go : (size : Option SensorSize) (es' : List Event) → room es r d < length es' → Handed [] xs₀ ys₀ ts₀ ps₀ xs ys ts ps
        → Settles size es' (Err (ColumnsTooShort (length es')))
    short_go (Some s) es' h c = let lt : ltb (room es r d) (length es') ≡ true = lt-ltb (room es r d) (length es') h in (rw lt, rw lt c)
    short_go None [] h c = absurd (omega arith)
    short_go None (a ∷ es') h c = let lt : ltb (room es r d) (length (a ∷ es')) ≡ true = lt-ltb (room es r d) (length (a ∷ es')) h in (rw lt, rw lt c)

    settles : (size : Option SensorSize) → Settles size es (settled_of e size r xs ys)
    settles size = rw d.answer (go (leb (length es) (room es r d)) refl d.columns)
      where
        go : (b : Bool) → leb (length es) (room es r d) ≡ b → Handed (cond b es []) xs₀ ys₀ ts₀ ps₀ xs ys ts ps
            → Settles size es (settled_of e size (cond b (Ok (length es)) (Err (length es))) xs ys)
        go true q h = fits_go size es refl (leb-true (length es) (room es r d) q) h
        go false q h = short_go size es (leb-false (length es) (room es r d) q) h

    pub reads_body : (size : Option SensorSize) (a : Result Reading Refusal) → a ≡ settled_of e size r xs ys → ReadsBody e size es a xs₀ ys₀ ts₀ ps₀ xs ys ts ps
    reads_body size a is =
        let s = settles size in
        let o = body_outcome e size None es (room es r d) in
        record { is_told = ap told_read (is ∙ s.0) ∙ told-answer o; is_answer = is ∙ s.0; columns = s.1 }

-- ---- the two entries

module _ {xs₀ ys₀ : List ℕ} {ts₀ : List ℤ} {ps₀ : List ℕ} where
  module _ (words : List ℕ) (e : Encoding) (size : Option SensorSize) (limit : Option ℕ) where
    pub words_read : {r : Result Reading Refusal} {xs ys : List ℕ} {ts : List ℤ} {ps : List ℕ} → judged_of (length words) size ≡ (Ok tt)
        → ReadsBody e size (body_events e size limit words) r xs₀ ys₀ ts₀ ps₀ xs ys ts ps → DecodesWords words e size limit r xs₀ ys₀ ts₀ ps₀ xs ys ts ps
    words_read j b = rw (words_fit words e size limit (shortest xs₀ ys₀ ts₀ ps₀) j) b

  module _ (recording : List ℕ) (o : LoadOptions) (a : Result header.Header Refusal) (is-header : a ≡ header_of recording o.sensor_size) where
    pub raw_read : (h : header.Header) → a ≡ Ok h → {r : Result Reading Refusal} {xs ys : List ℕ} {ts : List ℤ} {ps : List ℕ}
        → let es = body_events h.encoding h.sensor_size o.max_events (drop h.data_offset recording) in
        ReadsBody h.encoding h.sensor_size es r xs₀ ys₀ ts₀ ps₀ xs ys ts ps
        → ReadsRaw recording o r xs₀ ys₀ ts₀ ps₀ xs ys ts ps
    raw_read h e b = rw (raw_fit recording o a is-header (shortest xs₀ ys₀ ts₀ ps₀) h e) b
