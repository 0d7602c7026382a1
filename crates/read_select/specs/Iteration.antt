-- A loop over the words of some bytes under a window, for every machine and every word size: what holds at index i, at the start, after a word, at the end.
use Rattle.std.specs.Prelude.{◌≡◌, Bool, ℕ, suc, ◌+◌, ◌*◌, ◌/◌, ◌≤◌, ◌<◌, ◌^◌, take, drop}
use Rattle.std.proofs.Math.Path.{sym, ap}
use Rattle.std.proofs.Common.{◌∙◌, arith, add-zero, length-append}
use mathlib.Core.List.{List, [], ◌∷◌, ◌++◌}
use Rattle.std.proofs.Math.Nat.{zero-div, add-div_right}
use Rattle.std.proofs.Math.ListN.{length}
use Rattle.laws_stream.specs.{Words.words_of, Words.value, Words.words-next, Words.words-end, Slice.sift, Slice.unless, Select.End}
use Rattle.laws_stream.specs.{Select.end_at, Select.one_more, Select.handed, Select.ended}
use Rattle.laws_stream.specs.Select as Select
use Rattle.evt_types.specs.{declared.vector.Vector.Vector, Event.Event, Event.events_of, Event.Narrow, Ahead.ahead, Ahead.ahead-some}
use Rattle.evt_codec.specs.{Reader.Reader, Sound.Sound}
use Rattle.read_columns.specs.Inside.{inside}
use Rattle.read_window.specs.{declared.Window.Window, declared.trim.Trimmed.Trimmed, Window.selection_of, Window.reading, Window.choose}
use Rattle.read_window.specs.{Window.chosen-choose, Trim.Picked, Trim.masked, Trim.numbered, Trim.numbered_few}

-- the word at index i takes s to s', with the events of v
pub record Iteration (Q : Reader) (bytes : List ℕ) (i : ℕ) (s s' : Q.State) (v : Vector) : Type 0 where
  pub h : i + Q.size ≤ length bytes
  pub is_next : s' ≡ Q.machine.step s (value (take Q.size (drop i bytes)))
  pub is_events : v ≡ Q.vector s (value (take Q.size (drop i bytes)))

-- a word as the loops read it, and its step
pub iteration : {Q : Reader} {l : List ℕ} {i w : ℕ} {s s' : Q.State} {v : Vector}
    → i + Q.size ≤ length l → w ≡ ahead Q.size l i → s' ≡ Q.machine.step s w → v ≡ Q.vector s w → Iteration Q l i s s' v
iteration {Q} {l} {i} {w} {s} h e n m =
    let is = e ∙ ahead-some Q.size l i h in
    record { h = h; is_next = n ∙ ap (Q.machine.step s) is; is_events = m ∙ ap (Q.vector s) is }

-- an end, where c words were consumed before
abbrev pub after : {S : Type 0} → ℕ → End S → End S
after c e = record { number = e.number; state = e.state; consumed = c + e.consumed }

after_more : {S : Type 0} (c d : ℕ) (e : End S) → d ≡ c + 1 → after c (one_more e) ≡ after d e
after_more c d e h =
    let m : c + suc e.consumed ≡ d + e.consumed = omega arith in
    ap (λ (n : ℕ). record { number = e.number; state = e.state; consumed = n }) m

after_none : {S : Type 0} {c : ℕ} (e : End S) → c ≡ 0 → after c e ≡ e
after_none {c = c} e h =
    let m : c + e.consumed ≡ e.consumed = omega arith in
    ap (λ (n : ℕ). record { number = e.number; state = e.state; consumed = n }) m

module _ (Q : Reader) (win : Window) (number : ℕ) (s₀ : Q.State) (bytes : List ℕ) where
  abbrev source : Select.Reading Q.State ℕ Event
  source = reading Q.machine Q.started Q.time win

  -- the words left at index i, the events that they hand over, and where they end
  abbrev rest : ℕ → List ℕ
  rest i = words_of Q.size (drop i bytes)

  abbrev pub left : ℕ → Q.State → ℕ → List Event
  left k s i = handed source (selection_of win) k s (rest i)

  abbrev pub last : ℕ → Q.State → ℕ → End Q.State
  last k s i = ended source (selection_of win) k s (rest i)

  abbrev pub stops : ℕ → Q.State → Bool
  stops k s = Select.is_stopped source (selection_of win) k s

  -- after a word, before it is asked whether the pass stops
  abbrev pub left_if : Bool → ℕ → Q.State → ℕ → List Event
  left_if t k s i = unless t (left k s i)

  abbrev pub last_if : Bool → ℕ → Q.State → ℕ → End Q.State
  last_if t k s i = end_at t k s (last k s i)

  abbrev pub all : List Event
  all = left number s₀ 0

  -- at index i the next number is k, n events were handed over, `es` are still to be, and the rest ends at `e`
  pub record At (es : List Event) (e : End Q.State) (s : Q.State) (k n i : ℕ) : Type 0 where
    pub within : i ≤ length bytes
    pub long : length bytes ≤ 2 ^ 30
    pub low : number ≤ 2 ^ 62
    pub high : k ≤ number + 32 * i
    pub few : n ≤ 32 * i
    pub inv : Q.Bounded (length (rest i)) s
    pub counts : n + length es ≡ length all
    pub ends : after (i / Q.size) e ≡ last number s₀ 0

  abbrev pub Stand : (s : Q.State) (k n i : ℕ) → Type 0
  Stand s k n i = At (left k s i) (last k s i) s k n i

  abbrev pub Pend : (s : Q.State) (k n i : ℕ) → Type 0
  Pend s k n i = At (left_if (stops k s) k s i) (last_if (stops k s) k s i) s k n i

  -- at the end
  abbrev pub Done : (s : Q.State) (k n i : ℕ) → Type 0
  Done s k n i = At [] (record { number = k; state = s; consumed = 0 }) s k n i

module _ {Q : Reader} (L : Sound Q) {win : Window} {number : ℕ} {s₀ : Q.State} {bytes : List ℕ} where
  pub stand_start : Q.Bounded (length (words_of Q.size bytes)) s₀ → length bytes ≤ 2 ^ 30 → number ≤ 2 ^ 62 → Stand Q win number s₀ bytes s₀ number 0 0
  stand_start inv long low = record {
    within = omega arith;
    long = long;
    low = low;
    high = omega arith;
    few = omega arith;
    inv = inv;
    counts = omega arith;
    ends = after_none (last Q win number s₀ bytes number s₀ 0) (zero-div Q.size);
  }

  module _ {s : Q.State} {k n i : ℕ} where
    pub done_count : Done Q win number s₀ bytes s k n i → n ≡ length (all Q win number s₀ bytes)
    done_count p = omega (arith, p.counts)

    pub done_end : Done Q win number s₀ bytes s k n i → record { number = k; state = s; consumed = i / Q.size } ≡ last Q win number s₀ bytes number s₀ 0
    done_end p = ap (λ (c : ℕ). record { number = k; state = s; consumed = c }) (sym (add-zero (i / Q.size))) ∙ p.ends

    module _ (u : Stand Q win number s₀ bytes s k n i) where
      pub number-here : k < 2 ^ 62 + 2 ^ 61
      number-here = omega (arith, u.high, u.low, u.within, u.long)

      -- ---- no word is left

      module _ (h : length bytes < i + Q.size) where
        pub none_left : left Q win number s₀ bytes k s i ≡ []
        unfolding handed
        none_left = rw (words-end Q.size L.some bytes i h)

        last-left : last Q win number s₀ bytes k s i ≡ record { number = k; state = s; consumed = 0 }
        unfolding ended
        last-left = rw (words-end Q.size L.some bytes i h)

        pub stand_end : Done Q win number s₀ bytes s k n i
        stand_end = rw (none_left, last-left) at u

      -- ---- the next word

      module _ {s' : Q.State} {v : Vector} (o : Iteration Q bytes i s s' v) where
        abbrev j : ℕ
        j = i + Q.size

        abbrev w : ℕ
        w = value (take Q.size (drop i bytes))

        words-here : rest Q win number s₀ bytes i ≡ w ∷ rest Q win number s₀ bytes j
        words-here = words-next Q.size L.some bytes i o.h

        pub narrow_here : Narrow v
        narrow_here = rw o.is_events (L.narrow _ s w u.inv)

        pub mask-here : v.mask < 2 ^ Q.most
        mask-here = rw o.is_events (L.few s w)

        pub inv_next : Q.Bounded (length (rest Q win number s₀ bytes j)) s'
        inv_next = rw o.is_next (L.steps _ s w (rw words-here at u.inv))

        -- those of its events that have a number
        abbrev here : List Event
        here = numbered win v

        here_is : Select.numbered_of_lem (source Q win number s₀ bytes) s w ≡ here
        here_is = ap (sift (inside win.width win.height)) (L.emits s w ∙ ap events_of (sym o.is_events))

        few_here : length here ≤ 32
        few_here = numbered_few win v narrow_here.mask<

        splits : (k' : ℕ) → k' ≡ k + length here
            → left Q win number s₀ bytes k s i ≡ choose win k here ++ left_if Q win number s₀ bytes (stops Q win number s₀ bytes k' s') k' s' j
        unfolding handed
        splits k' e =
            let t = Q.machine.step s w in
            let told = Select.numbered_of_lem (source Q win number s₀ bytes) s w in
            ap (handed (source Q win number s₀ bytes) (selection_of win) k s) words-here
            ∙ ap (λ (l : List Event). l ++ left_if Q win number s₀ bytes (stops Q win number s₀ bytes (k + length told) t) (k + length told) t j)
            (chosen-choose Q.machine Q.started Q.time win k told ∙ ap (choose win k) here_is)
            ∙ ap (λ (x : ℕ). choose win k here ++ left_if Q win number s₀ bytes (stops Q win number s₀ bytes x t) x t j)
            (ap (λ (l : List Event). k + length l) here_is ∙ sym e)
            ∙ ap (λ (x : Q.State). choose win k here ++ left_if Q win number s₀ bytes (stops Q win number s₀ bytes k' x) k' x j) (sym o.is_next)

        finishes : (k' : ℕ) → k' ≡ k + length here
            → last Q win number s₀ bytes k s i ≡ one_more (last_if Q win number s₀ bytes (stops Q win number s₀ bytes k' s') k' s' j)
        unfolding ended
        finishes k' e =
            let t = Q.machine.step s w in
            ap (ended (source Q win number s₀ bytes) (selection_of win) k s) words-here
            ∙ ap (λ (x : ℕ). one_more (last_if Q win number s₀ bytes (stops Q win number s₀ bytes x t) x t j))
            (ap (λ (l : List Event). k + length l) here_is ∙ sym e)
            ∙ ap (λ (x : Q.State). one_more (last_if Q win number s₀ bytes (stops Q win number s₀ bytes k' x) k' x j)) (sym o.is_next)

        -- m of them are handed over, as v with the mask of r
        module _ (r : Trimmed) (q : Picked v win k r) (m : ℕ) (is_m : m ≡ length (events_of (masked v r.mask))) where
          abbrev k' : ℕ
          k' = k + m + r.extra

          number_is : k' ≡ k + length here
          number_is = omega (arith, q.counts, is_m)

          pub given-left : left Q win number s₀ bytes k s i ≡ events_of (masked v r.mask)
              ++ left_if Q win number s₀ bytes (stops Q win number s₀ bytes k' s') k' s' j
          given-left = splits k' number_is
              ∙ ap (λ (l : List Event). l ++ left_if Q win number s₀ bytes (stops Q win number s₀ bytes k' s') k' s' j) (sym q.hands)

          pub pend_next : Pend Q win number s₀ bytes s' k' (n + m) j
          pend_next = record {
            within = o.h;
            long = u.long;
            low = u.low;
            high = omega (arith, number_is, few_here, u.high, L.some);
            few = omega (arith, number_is, few_here, u.few, L.some);
            inv = inv_next;
            counts = omega (
              arith,
              u.counts,
              is_m,
              ap length given-left,
              length-append (events_of (masked v r.mask)) (left_if Q win number s₀ bytes (stops Q win number s₀ bytes k' s') k' s' j),
            );
            ends =
                sym (after_more (i / Q.size) (j / Q.size) (last_if Q win number s₀ bytes (stops Q win number s₀ bytes k' s') k' s' j)
                (add-div_right i L.some))
                ∙ ap (after (i / Q.size)) (sym (finishes k' number_is)) ∙ u.ends;
          }
