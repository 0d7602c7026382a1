-- EVT3: the loop over the runs.
use Rattle.std.specs.Prelude.{◌≡◌, refl, List, [], ◌∷◌, ◌++◌, map, ℕ, zero, suc, ◌+◌, ◌-◌, ◌/◌, ◌%◌, ◌^◌, ◌≤◌, ◌<◌, length, get_or, take, drop, ℤ, pos}
use Rattle.std.proofs.Common.{sym, ap, ◌∙◌, arith, length-drop}
use Rattle.std.proofs.lemmas.List.Edits.{sets}
use Rattle.laws_stream.specs.{Part.between, Part.between-at, Machine.run}
use Rattle.evt3_decoder.specs.Evt3.{period3}
use Rattle.evt_types.specs.{Event.Event, Layout.word_size3, Layout.grain3, Columns.col_x}
use Rattle.write_buffer.specs.{Sent.state_at, Sent.state_some, Sent.sent_number, declared.EncoderState.EncoderState, declared.Put.Put}
use Rattle.write_buffer.specs.Columns.{Sized, events_in, events_past, event_of, events-at, events-end, events-x, events-drop, events-length}
use Rattle.write_buffer.specs.Storing.{Roomy, bytes_from, Going, going_start, going_iteration, going_room, going_end}
use Rattle.evt3_run_rules.specs.Runs.{Run, Rising, runs, runs_are, run_of, runs-at, follow-le}
use Rattle.evt3_lead_words.specs.{Evt3.state_of3, Evt3.writer3, Evt3.loop_of, Leads.leads_bytes}
use Rattle.evt3_run_words.specs.Parts.{bytes3, bytes_still, body_bytes, Part}
use Rattle.evt3_run_rules.specs.Marks.{go_on, Marked, marks_start}
use Rattle.write_words.specs.Encode.{loop_time}
use Rattle.evt3_lead_words.proofs.LeadsLaws.{leads_number}

abbrev pub stream3 : EncoderState → List Event → List ℕ
stream3 v es = bytes_from word_size3 writer3 v (runs es)

abbrev pub passed3 : EncoderState → List Event → ℕ → Put
passed3 v es at = record { state = run writer3 v (runs es); at = at + length (stream3 v es) }

map-take : {A B : Type 0} (f : A → B) (n : ℕ) (l : List A) → map f (take n l) ≡ take n (map f l)
map-take f zero l = refl
map-take f (suc n) [] = refl
map-take f (suc n) (x ∷ l) = ap (λ (r : List _). f x ∷ r) (map-take f n l)

-- the state at index i, where `high`, `low` and `row` were sent last
abbrev pub state_at3 : EncoderState → ℕ → (high low row : ℕ) → EncoderState
state_at3 v i high low row = state_at i v (state_of3 high low row)

-- the loop of the first time
abbrev pub first_loop : List ℤ → ℕ
first_loop ts = loop_time (get_or ts 0 (pos 0))

-- all times are of one loop, and that is no later than the one that is held
pub record Still (v : EncoderState) (ts : List ℤ) : Type 0 where
  pub same : (j : ℕ) → j < length ts → loop_time (get_or ts j (pos 0)) ≡ first_loop ts
  pub held : first_loop ts ≤ loop_of v.time_high

-- at index i
pub record Under3 (v₀ : EncoderState) (xs ys : List ℕ) (ts : List ℤ) (ps : List ℕ) (at₀ : ℕ) (out₀ out : List ℕ)
    (high low row at i mask : ℕ) : Type 0 where
  pub within : i ≤ length xs
  pub held : first_loop ts ≤ loop_of (state_at3 v₀ i high low row).time_high
  pub is_high_lem : high ≡ sent_number (state_at3 v₀ i high low row).time_high
  pub is_low_lem : low ≡ sent_number (state_at3 v₀ i high low row).time_low
  pub is_row : row ≡ sent_number (state_at3 v₀ i high low row).y
  pub marked : Marked xs ys ts ps i mask
  pub going : Going word_size3 writer3 v₀ (runs (events_in xs ys ts ps)) at₀ out₀ (runs (events_past xs ys ts ps i)) (state_at3 v₀ i high low row) at out

module _ {xs ys : List ℕ} {ts : List ℤ} {ps : List ℕ} (sized : Sized xs ys ts ps) where
  -- the run at i ends within the columns
  pub end-within : (i e : ℕ) → i < length xs → e ≡ i + 1 + go_on xs ys ts ps i → e ≤ length xs
  end-within i e h q =
      let a = event_of xs ys ts ps i in
      let es = events_past xs ys ts ps (i + 1) in
      let n : length es ≡ length xs - (i + 1) = events-length xs ys ts ps sized (i + 1) ∙ length-drop (i + 1) xs in
      omega (arith, n, follow-le a.t a.y a.p a.x es)

  pub run-first : (i e : ℕ) → i < length xs → e ≡ i + 1 + go_on xs ys ts ps i
      → runs (events_past xs ys ts ps i)
      ≡ run_of (event_of xs ys ts ps i).t (event_of xs ys ts ps i).y (event_of xs ys ts ps i).p (between xs i e) ∷ runs (events_past xs ys ts ps e)
  run-first i e h q =
      let a = event_of xs ys ts ps i in
      let es = events_past xs ys ts ps (i + 1) in
      let n = go_on xs ys ts ps i in
      let m : e - (i + 1) ≡ n = omega arith in
      let part : between xs i e ≡ a.x ∷ map col_x (take n es) =
      between-at xs i e 0 (omega arith) (end-within i e h q)
      ∙ ap (λ (l : List ℕ). a.x ∷ l) (ap (λ (k : ℕ). take k (drop (i + 1) xs)) m ∙ sym
      (map-take col_x n es ∙ ap (take n) (events-x xs ys ts ps sized (i + 1)))) in
      let left : drop n es ≡ events_past xs ys ts ps e = events-drop xs ys ts ps sized (i + 1) n ∙ ap (events_past xs ys ts ps) (sym q) in
      ap runs (events-at xs ys ts ps sized i h) ∙ runs-at a es ∙ rw (part, left)

  module _ {v₀ : EncoderState} {at₀ : ℕ} {out₀ : List ℕ} (near : at₀ ≤ 2 ^ 37) (still : Still v₀ ts)
      (few : length (stream3 v₀ (events_in xs ys ts ps)) ≤ 2 ^ 37) where
    pub under_start3 : (high low row : ℕ) → high ≡ sent_number v₀.time_high
        → low ≡ sent_number v₀.time_low → row ≡ sent_number v₀.y → Under3 v₀ xs ys ts ps at₀ out₀ out₀ high low row at₀ 0 0
    under_start3 high low row h l r = record {
      within = omega arith;
      held = still.held;
      is_high_lem = h;
      is_low_lem = l;
      is_row = r;
      marked = marks_start xs ys ts ps;
      going = going_start word_size3 writer3;
    }

    module _ {out : List ℕ} {high low row at i mask : ℕ} (u : Under3 v₀ xs ys ts ps at₀ out₀ out high low row at i mask) where
      -- by the numbers of what was sent, or by the state
      words_are : (t y p : ℕ) (part : List ℕ) → t / period3 ≡ first_loop ts → t < 2 ^ 64 → y < 2 ^ 16
          → leads_bytes high low row t y ++ body_bytes p part ≡ bytes3 (state_at3 v₀ i high low row) (run_of t y p part)
      words_are t y p part here t< y< =
          let v = state_at3 v₀ i high low row in
          ap (λ (l : List ℕ). l ++ body_bytes p part) (leads_number v high low row t y t< y< u.is_high_lem u.is_low_lem u.is_row)
          ∙ sym (bytes_still v (run_of t y p part) (omega (arith, u.held)))

      pub under_rising3 : (e : ℕ) → i < length xs → e ≡ i + 1 + go_on xs ys ts ps i → Rising (between xs i e)
      under_rising3 e h q = (rw (run-first i e h q) at (runs_are (events_past xs ys ts ps i)).0).0

      -- the run of t, y and p that ends before e
      module _ (e t y p : ℕ) (h : i < length xs) (q : e ≡ i + 1 + go_on xs ys ts ps i)
          (et : t ≡ (event_of xs ys ts ps i).t) (ey : y ≡ (event_of xs ys ts ps i).y) (ep : p ≡ (event_of xs ys ts ps i).p) (t< : t < 2 ^ 64) (y< : y < 2 ^ 16) where
        abbrev here : Run
        here = run_of t y p (between xs i e)

        abbrev run_bytes : List ℕ
        run_bytes = leads_bytes high low row t y ++ body_bytes p (between xs i e)

        words-here : run_bytes ≡ bytes3 (state_at3 v₀ i high low row) here
        words-here = words_are t y p (between xs i e) (ap (λ (k : ℕ). k / period3) et ∙ still.same i (omega (arith, sized.same-t))) t< y<

        abbrev later : List Run
        later = runs (events_past xs ys ts ps e)

        going_here : Going word_size3 writer3 v₀ (runs (events_in xs ys ts ps)) at₀ out₀ (here ∷ later) (state_at3 v₀ i high low row) at out
        going_here = rw (et, ey, ep) (rw (run-first i e h q) at u.going)

        -- all before the run's end lies before the end of all
        pub under_part3 : Part xs i e (at + 8)
        under_part3 =
            let s = going_here.storing in
            record {
              low = omega arith;
              high = end-within i e h q;
              few = sized.few;
              place = omega (arith, s.count);
            }

        pub under_room3 : Roomy out₀ at₀ (length (stream3 v₀ (events_in xs ys ts ps))) → Roomy out at (length run_bytes)
        under_room3 r = rw words-here (going_room word_size3 writer3 here later going_here r)

        pub under_iteration3 : (m : ℕ) → Marked xs ys ts ps e m → (r : ℕ) (out' : List ℕ) → r ≡ at + length run_bytes → out' ≡ sets out at run_bytes
            → Under3 v₀ xs ys ts ps at₀ out₀ out' (t / grain3) (t % grain3) y r e m
        under_iteration3 m marked r out' is_at is-out =
            let in_e = end-within i e h q in
            let some = state_some e v₀ (state_of3 (t / grain3) (t % grain3) y) (omega arith) in
            let loop = still.same i (omega (arith, sized.same-t)) in
            record {
              within = in_e;
              held = rw some (omega (arith, loop));
              is_high_lem = rw some;
              is_low_lem = rw some;
              is_row = rw some;
              marked = marked;
              going = rw (some, is_at, words-here) (going_iteration word_size3 writer3 here later (is-out ∙ ap (sets out at) words-here) going_here);
            }

      pub under_end3 : length xs ≤ i → (v : EncoderState) → v ≡ state_at3 v₀ (length xs) high low row
          → (record { state = v; at = at } ≡ passed3 v₀ (events_in xs ys ts ps) at₀) × (out ≡ sets out₀ at₀ (stream3 v₀ (events_in xs ys ts ps)))
      under_end3 h v e =
          let n : i ≡ length xs = omega (arith, u.within) in
          let g = going_end word_size3 writer3 (rw (events-end xs ys ts ps sized i h) at u.going) in
          (rw (e ∙ ap (λ (k : ℕ). state_at3 v₀ k high low row) (sym n) ∙ g.0, g.1), g.2)
