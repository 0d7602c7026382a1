-- A loop over the words of some bytes, for every machine and every word size: what holds at index i, at the start, after an iteration, at the end.
-- While columns are filled it is `Filling`.
use Rattle.std.specs.Prelude.{◌≡◌, refl, List, [], ◌∷◌, ◌++◌, ℕ, suc, ◌+◌, ◌≤◌, ◌<◌, length, take, drop, ℤ}
use Rattle.std.proofs.Common.{sym, ap, ◌∙◌, arith, length-append}
use Rattle.laws_stream.specs.{Machine.Machine, Machine.run, Machine.emits, Words.words_of, Words.value, Words.words-next, Words.words-end, Slice.sift}
use Rattle.laws_stream.specs.{Slice.sift-append, Stream.decode, Stream.after}
use Rattle.evt_types.specs.{declared.vector.Vector.Vector, Event.Event, Event.events_of, Event.Narrow, Columns.Going, Columns.Room, Columns.Wrote}
use Rattle.evt_types.specs.{Columns.going_start, Columns.going_run, Columns.going_end}
pub use Rattle.evt_types.specs.Columns.{Fits}
use Rattle.read_columns.specs.Inside.{inside, inside_of}

module _ {S : Type 0} (n : ℕ) (M : Machine S ℕ Event) where
  -- all events of the bytes inside the sensor
  abbrev pub inside_all : (width height : ℕ) → S → List ℕ → List Event
  inside_all width height s l = sift (inside width height) (decode n M s l)

module _ {S : Type 0} (n : ℕ) (M : Machine S ℕ Event) (Inv : ℕ → S → Type 0) (width height : ℕ) (s₀ : S) (bytes : List ℕ) where
  abbrev all : List Event
  all = inside_all n M width height s₀ bytes

  -- the words left, and the events left
  abbrev pub rest : ℕ → List ℕ
  rest i = words_of n (drop i bytes)

  abbrev pub left : S → ℕ → List Event
  left s i = sift (inside width height) (emits M s (rest i))

  -- at index i
  pub record Standing (s : S) (i : ℕ) : Type 0 where
    pub within : i ≤ length bytes
    pub inv : Inv (length (rest i)) s
    pub ends : run M s (rest i) ≡ after n M s₀ bytes

  pub record Filling (xs₀ ys₀ : List ℕ) (ts₀ : List ℤ) (ps₀ xs ys : List ℕ) (ts : List ℤ) (ps : List ℕ) (s : S) (count i : ℕ) : Type 0 where
    pub stand : Standing s i
    pub going : Going all 0 xs₀ ys₀ ts₀ ps₀ (left s i) count xs ys ts ps

-- An iteration: the word at i takes the state from s to s', and its events are those of v.
pub record Iteration {S : Type 0} (n : ℕ) (M : Machine S ℕ Event) (bytes : List ℕ) (s : S) (i : ℕ) (s' : S) (v : Vector) : Type 0 where
  pub word : ℕ
  pub more : i + n ≤ length bytes
  pub is_word : word ≡ value (take n (drop i bytes))
  pub is_next : s' ≡ M.step s word
  pub is_events : M.emit s word ≡ events_of v

pub iteration-words : {S : Type 0} {n : ℕ} {M : Machine S ℕ Event} {bytes : List ℕ} {s s' : S} {i : ℕ} {v : Vector} → 0 < n → (t : Iteration n M bytes s i s' v)
    → words_of n (drop i bytes) ≡ t.word ∷ words_of n (drop (i + n) bytes)
iteration-words {S} {n} {M} {bytes} {s} {s'} {i} pos t = words-next n pos bytes i t.more
    ∙ ap (λ (w : ℕ). w ∷ words_of n (drop (i + n) bytes)) (sym t.is_word)

module _ {S : Type 0} {n : ℕ} {M : Machine S ℕ Event} {Inv : ℕ → S → Type 0} {width height : ℕ} {s₀ : S} {bytes : List ℕ} (pos : 0 < n)
    (keeps : (k : ℕ) (s : S) (w : ℕ) → Inv (suc k) s → Inv k (M.step s w)) where
  module _ {s : S} {i : ℕ} (u : Standing n M Inv width height s₀ bytes s i) where
    pub none_left : length bytes < i + n → left n M Inv width height s₀ bytes s i ≡ []
    none_left h = rw (words-end n pos bytes i h)

    pub at-end : length bytes < i + n → s ≡ after n M s₀ bytes
    at-end h = rw (words-end n pos bytes i h) at u.ends

    module _ {s' : S} {v : Vector} (t : Iteration n M bytes s i s' v) where
      pub stand_next : Standing n M Inv width height s₀ bytes s' (i + n)
      stand_next =
          let inv : Inv (suc (length (words_of n (drop (i + n) bytes)))) s = rw (iteration-words pos t) at u.inv in
          rw t.is_next (record
          { within = t.more; inv = keeps (length (words_of n (drop (i + n) bytes))) s t.word inv; ends = rw (iteration-words pos t) at u.ends })

      -- the word's events come first
      pub splits : left n M Inv width height s₀ bytes s i ≡ inside_of width height v ++ left n M Inv width height s₀ bytes s' (i + n)
      splits =
          rw (iteration-words pos t, t.is_events, t.is_next)
          (sift-append (inside width height) (events_of v) (emits M (M.step s t.word) (words_of n (drop (i + n) bytes))))

  pub stand_start : Inv (length (words_of n bytes)) s₀ → Standing n M Inv width height s₀ bytes s₀ 0
  stand_start b = record { within = omega arith; inv = b; ends = refl }

  -- ---- filling

  module _ {xs₀ ys₀ : List ℕ} {ts₀ : List ℤ} {ps₀ : List ℕ} where
    pub filling_start : Inv (length (words_of n bytes)) s₀ → Filling n M Inv width height s₀ bytes xs₀ ys₀ ts₀ ps₀ xs₀ ys₀ ts₀ ps₀ s₀ 0 0
    filling_start b = record { stand = stand_start b; going = going_start }

    module _ (fits : Fits (length (inside_all n M width height s₀ bytes)) (length xs₀) (length ys₀) (length ts₀) (length ps₀))
        {xs ys : List ℕ} {ts : List ℤ} {ps : List ℕ} {s : S} {count i : ℕ}
        (u : Filling n M Inv width height s₀ bytes xs₀ ys₀ ts₀ ps₀ xs ys ts ps s count i) where
      pub filling_end : length bytes < i + n
          → (count ≡ length (inside_all n M width height s₀ bytes)) × (s ≡ after n M s₀ bytes)
          × Wrote (inside_all n M width height s₀ bytes) 0 xs₀ ys₀ ts₀ ps₀ xs ys ts ps
      filling_end h =
          let g : Going (inside_all n M width height s₀ bytes) 0 xs₀ ys₀ ts₀ ps₀ [] count xs ys ts ps = rw (none_left u.stand h) at u.going in (
            omega (arith, g.count),
            at-end u.stand h,
            going_end (omega (arith, fits.fit_x)) (omega (arith, fits.fit_y)) (omega (arith, fits.fit_t)) (omega (arith, fits.fit_p)) g,
          )

      module _ {s' : S} {v : Vector} (t : Iteration n M bytes s i s' v) where
        abbrev later : List Event
        later = left n M Inv width height s₀ bytes s' (i + n)

        going_now : Going (inside_all n M width height s₀ bytes) 0 xs₀ ys₀ ts₀ ps₀ (inside_of width height v ++ later) count xs ys ts ps
        going_now = rw (splits u.stand t) at u.going

        pub filling_room : Narrow v → Room (length (inside_of width height v)) v count (length xs) (length ys) (length ts) (length ps)
        filling_room small =
            let cut = length-append (inside_of width height v) later in
            let g = going_now in
            record {
              mask = small.mask<;
              column = small.x<;
              row = small.y<;
              time = small.t<;
              sign = small.p<;
              room-x = omega (arith, g.count, g.in_x.long, fits.fit_x);
              room-y = omega (arith, g.count, g.in_y.long, fits.fit_y);
              room-t = omega (arith, g.count, g.in_t.long, fits.fit_t);
              room_p = omega (arith, g.count, g.in_p.long, fits.fit_p);
            }

        pub filling_next : Narrow v → {xs' ys' : List ℕ} {ts' : List ℤ} {ps' : List ℕ} → Wrote (inside_of width height v) count xs ys ts ps xs' ys' ts' ps'
            → Filling n M Inv width height s₀ bytes xs₀ ys₀ ts₀ ps₀ xs' ys' ts' ps' s' (count + length (inside_of width height v)) (i + n)
        filling_next small wrote =
            let r = filling_room small in
            record {
              stand = stand_next u.stand t;
              going = going_run (inside_of width height v) r.room-x r.room-y r.room-t r.room_p wrote going_now;
            }
