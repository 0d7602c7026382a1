-- The loop that fills columns: what they hold, beside what `Iteration` has.
use Rattle.std.specs.Prelude.{◌≡◌, refl, true, false, List, [], ◌++◌, ℕ, ◌+◌, ◌-◌, ◌/◌, ◌≤◌, ◌<◌, ◌^◌, length, ℤ}
use Rattle.std.proofs.Common.{sym, ap, ◌∙◌, arith, length-append}
use Rattle.laws_stream.specs.{Words.words_of, Select.End}
use Rattle.evt_types.specs.{declared.vector.Vector.Vector, Event.Event, Event.events_of, Columns.Going, Columns.Room, Columns.Wrote}
use Rattle.evt_types.specs.{Columns.going_start, Columns.going_run, Columns.going_end}
use Rattle.read_columns.specs.Inside.{events_few}
use Rattle.read_window.specs.{declared.Window.Window, declared.trim.Trimmed.Trimmed, Trim.Picked, Trim.picked_few, Trim.masked}
use Rattle.read_select.specs.Pass.{Fits, end_of, filled_of}
use Rattle.evt_codec.specs.{Reader.Reader, Sound.Sound}
use Rattle.read_select.specs.Iteration.{Iteration, At, all, left, last, left_if, last_if, stops, stand_start, stand_end, none_left}
use Rattle.read_select.specs.Iteration.{narrow_here, number-here, given-left, pend_next, done_end, done_count}

module _ (Q : Reader) (win : Window) (number : ℕ) (s₀ : Q.State) (bytes : List ℕ) (xs₀ ys₀ : List ℕ) (ts₀ : List ℤ) (ps₀ : List ℕ) where
  -- n events are in the columns, and `es` are still to be written
  pub record Filling (es : List Event) (e : End Q.State) (xs ys : List ℕ) (ts : List ℤ) (ps : List ℕ) (s : Q.State) (k n i : ℕ) : Type 0 where
    pub at : At Q win number s₀ bytes es e s k n i
    pub going : Going (all Q win number s₀ bytes) 0 xs₀ ys₀ ts₀ ps₀ es n xs ys ts ps

  abbrev pub Fills : (xs ys : List ℕ) (ts : List ℤ) (ps : List ℕ) (s : Q.State) (k n i : ℕ) → Type 0
  Fills xs ys ts ps s k n i = Filling (left Q win number s₀ bytes k s i) (last Q win number s₀ bytes k s i) xs ys ts ps s k n i

  abbrev pub FillsIf : (xs ys : List ℕ) (ts : List ℤ) (ps : List ℕ) (s : Q.State) (k n i : ℕ) → Type 0
  FillsIf xs ys ts ps s k n i =
      Filling (left_if Q win number s₀ bytes (stops Q win number s₀ bytes k s) k s i)
      (last_if Q win number s₀ bytes (stops Q win number s₀ bytes k s) k s i) xs ys ts ps s k n i

  abbrev pub Full : (xs ys : List ℕ) (ts : List ℤ) (ps : List ℕ) (s : Q.State) (k n i : ℕ) → Type 0
  Full xs ys ts ps s k n i = Filling [] (record { number = k; state = s; consumed = 0 }) xs ys ts ps s k n i

module _ {Q : Reader} (L : Sound Q) {win : Window} {number : ℕ} {s₀ : Q.State} {bytes : List ℕ} {xs₀ ys₀ : List ℕ} {ts₀ : List ℤ} {ps₀ : List ℕ} where
  pub fills_start : Q.Bounded (length (words_of Q.size bytes)) s₀ → length bytes ≤ 2 ^ 30 → number ≤ 2 ^ 62
      → Fills Q win number s₀ bytes xs₀ ys₀ ts₀ ps₀ xs₀ ys₀ ts₀ ps₀ s₀ number 0 0
  fills_start inv long low = record { at = stand_start L inv long low; going = going_start }

  module _ {xs ys : List ℕ} {ts : List ℤ} {ps : List ℕ} {s : Q.State} {k n i : ℕ} where
    pub fills_on : stops Q win number s₀ bytes k s ≡ false → FillsIf Q win number s₀ bytes xs₀ ys₀ ts₀ ps₀ xs ys ts ps s k n i
        → Fills Q win number s₀ bytes xs₀ ys₀ ts₀ ps₀ xs ys ts ps s k n i
    fills_on e p = rw e at p

    pub fills_stop : stops Q win number s₀ bytes k s ≡ true → FillsIf Q win number s₀ bytes xs₀ ys₀ ts₀ ps₀ xs ys ts ps s k n i
        → Full Q win number s₀ bytes xs₀ ys₀ ts₀ ps₀ xs ys ts ps s k n i
    fills_stop e p = rw e at p

    pub full : Full Q win number s₀ bytes xs₀ ys₀ ts₀ ps₀ xs ys ts ps s k n i
        → record { number = k; count = n; consumed = i / Q.size; codec = Q.codec s }
        ≡ filled_of (end_of Q.codec (last Q win number s₀ bytes number s₀ 0)) (all Q win number s₀ bytes)
    full p =
        ap (λ (m : ℕ). record { number = k; count = m; consumed = i / Q.size; codec = Q.codec s }) (done_count L p.at)
        ∙ ap (λ (e : End Q.State). filled_of (end_of Q.codec e) (all Q win number s₀ bytes)) (done_end L p.at)

    pub full_wrote : Fits (length (all Q win number s₀ bytes)) (length xs₀) (length ys₀) (length ts₀) (length ps₀)
        → Full Q win number s₀ bytes xs₀ ys₀ ts₀ ps₀ xs ys ts ps s k n i
        → Wrote (all Q win number s₀ bytes) 0 xs₀ ys₀ ts₀ ps₀ xs ys ts ps
    full_wrote f p = going_end (omega (arith, f.fit_x)) (omega (arith, f.fit_y)) (omega (arith, f.fit_t)) (omega (arith, f.fit_p)) p.going

    module _ (u : Fills Q win number s₀ bytes xs₀ ys₀ ts₀ ps₀ xs ys ts ps s k n i) where
      pub fills_end : length bytes < i + Q.size → Full Q win number s₀ bytes xs₀ ys₀ ts₀ ps₀ xs ys ts ps s k n i
      fills_end h = record { at = stand_end L u.at h; going = rw (none_left L u.at h) at u.going }

      -- a word, of whose events r leaves those of `kept`
      module _ {s' : Q.State} {v : Vector} (o : Iteration Q bytes i s s' v)
          (fits : Fits (length (all Q win number s₀ bytes)) (length xs₀) (length ys₀) (length ts₀) (length ps₀))
          (r : Trimmed) (q : Picked v win k r) {kept : Vector} (is-kept : kept ≡ masked v r.mask) where
        abbrev given : List Event
        given = events_of kept

        -- m of them
        count_of : (m : ℕ) → m ≡ length given → m ≡ length (events_of (masked v r.mask))
        count_of m e = rw is-kept at e

        going_here : (m : ℕ) → m ≡ length given
            → Going (all Q win number s₀ bytes) 0 xs₀ ys₀ ts₀ ps₀
            (given ++ left_if Q win number s₀ bytes (stops Q win number s₀ bytes (k + m + r.extra) s') (k + m + r.extra) s' (i + Q.size))
            n xs ys ts ps
        going_here m e = rw is-kept (rw (given-left L u.at o r q m (count_of m e)) at u.going)

        pub room-here : Room (length given) kept n (length xs) (length ys) (length ts) (length ps)
        room-here =
            let b = narrow_here L u.at o in
            let g = going_here (length given) refl in
            let cut = length-append given
            (left_if Q win number s₀ bytes (stops Q win number s₀ bytes (k + length given + r.extra) s') (k + length given + r.extra) s' (i + Q.size)) in
            record {
              mask = rw is-kept q.small;
              column = rw is-kept (omega (arith, b.x<));
              row = rw is-kept (omega (arith, b.y<));
              time = rw is-kept b.t<;
              sign = rw is-kept b.p<;
              room-x = omega (arith, g.count, g.in_x.long, fits.fit_x, cut);
              room-y = omega (arith, g.count, g.in_y.long, fits.fit_y, cut);
              room-t = omega (arith, g.count, g.in_t.long, fits.fit_t, cut);
              room_p = omega (arith, g.count, g.in_p.long, fits.fit_p, cut);
            }

        module _ (n' : ℕ) (e : n' ≡ n + length given) where
          pub number_fits : (n ≤ n') × (k + (n' - n) + r.extra < 2 ^ 64)
          number_fits =
              let few : length given ≤ 32 = events_few kept 32 room-here.mask in
              let more : r.extra ≤ 32 = picked_few (narrow_here L u.at o).mask< q in
              (omega arith, omega (arith, number-here L u.at))

          pub fills_next : {k' : ℕ} → k' ≡ k + (n' - n) + r.extra → {xs' ys' : List ℕ} {ts' : List ℤ} {ps' : List ℕ}
              → Wrote given n xs ys ts ps xs' ys' ts' ps'
              → FillsIf Q win number s₀ bytes xs₀ ys₀ ts₀ ps₀ xs' ys' ts' ps' s' k' n' (i + Q.size)
          fills_next is-k wrote =
              let a = room-here in
              let m : n' - n ≡ length given = omega (arith, e) in
              let back : n + (n' - n) ≡ n' = omega (arith, e) in
              rw is-k (record {
                at = rw back at (pend_next L u.at o r q (n' - n) (count_of (n' - n) m));
                going = rw (sym e) at (going_run given a.room-x a.room-y a.room-t a.room_p wrote (going_here (n' - n) m));
              })
