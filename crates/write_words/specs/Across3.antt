-- EVT3: the loop over the loops of the times, each a pass of its own.
use Rattle.std.specs.Prelude.{◌≡◌, refl, Bool, true, false, cond, List, [], ◌∷◌, ◌++◌, ℕ, zero, suc, ◌+◌, ◌-◌, ◌*◌, ◌/◌, ◌^◌, ◌≤◌, ◌<◌, length, get_or, take, drop, ℤ, pos}
use Rattle.std.proofs.Common.{sym, ap, ◌∙◌, append_assoc, ⊎_elim, eq-or-lt_of_le, length-append, take-append-drop, get_or-drop}
use native.Mathlib.Omega.{arith}
use Rattle.std.proofs.Math.Nat.{add-zero}
use Rattle.std.proofs.lemmas.List.Edits.{sets}
use Rattle.laws_stream.specs.Machine.{All, run, run-append, emits-append, words_append}
use Rattle.laws_stream.specs.{Part.between, Part.between_get_d, Part.length-between, Part.between_few, Order.Rise, Order.rise_last, Words.stream-append}
use Rattle.evt3_decoder.specs.Evt3.{period3}
use Rattle.std.specs.Prelude.{Some}
use Rattle.evt_types.specs.{Event.Event, Num.natural, Layout.word_size3}
use Rattle.write_buffer.specs.declared.{EncoderState.EncoderState, Put.Put}
use Rattle.write_buffer.specs.Columns.{Sized, Whole, events_in, events_past, event, event_of, events-at, events-end, events-drop}
use Rattle.write_buffer.specs.Storing.{Roomy, storing_iteration, storing_room, bytes_from, bytes-cons, Going, going_start, going_end}
use Rattle.evt3_run_rules.specs.Runs.{Run, runs, runs-at, glue, goes, goes-true, first_of, single, prepend, run_at, follow}
use Rattle.evt3_lead_words.specs.{Evt3.writer3, Evt3.loop_of, Evt3.passes3, Evt3.ahead3, Evt3.looped_by, Evt3.looped3}
use Rattle.evt3_lead_words.specs.Loops.{passes_bytes}
use Rattle.evt3_run_words.specs.Parts.{bytes3, bytes_parts, bytes_still, ahead_bytes}
use Rattle.write_words.specs.{Encode.loop_clock, Encode.loop_time, Encode.last_loop, Encode.Paced3, Laws.last-loop}
use Rattle.write_words.specs.Pass3.{stream3, passed3, first_loop, Still}

-- behind the words into the loop of t
abbrev pub entered : EncoderState → (t at : ℕ) → Put
entered v t at = record { state = looped3 v t; at = at + length (ahead_bytes v t) }

-- from i to before e the times are of one loop
pub record InLoop (ts : List ℤ) (i e : ℕ) : Type 0 where
  pub some : i < e
  pub within : e ≤ length ts
  pub same : (j : ℕ) → i ≤ j → j < e → loop_time (get_or ts j (pos 0)) ≡ loop_time (get_or ts i (pos 0))

-- and the next is of another
pub record LoopEnd (ts : List ℤ) (i e : ℕ) : Type 0 where
  pub front : InLoop ts i e
  pub away : e < length ts → loop_time (get_or ts e (pos 0)) ≡ loop_time (get_or ts i (pos 0)) → ⊥

pub in_start : (ts : List ℤ) (i : ℕ) → i < length ts → InLoop ts i (i + 1)
in_start ts i h = record { some = omega arith; within = omega arith; same = λ j a b. let e : j ≡ i = omega arith in rw e }

pub in_next : (ts : List ℤ) (i e : ℕ) → InLoop ts i e → e < length ts → loop_time (get_or ts e (pos 0)) ≡ loop_time (get_or ts i (pos 0)) → InLoop ts i (e + 1)
in_next ts i e l h q = record {
  some = omega (arith, l.some);
  within = omega arith;
  same = λ j a b. ⊎_elim (λ (k : j ≡ e). rw k q) (λ (k : j < e). l.same j a k) (eq-or-lt_of_le (omega arith));
}

-- ---- into the loop of t

module _ (v : EncoderState) (t : ℕ) where
  pub enter_later : loop_of v.time_high < t / period3 → (a at : ℕ) → a ≡ at + length (ahead_bytes v t)
      → record { state = record { time_high = Some (t / period3 * 2 ^ 12); time_low = Some 0; y = v.y }; at = a } ≡ entered v t at
  enter_later h a at e =
      let n : suc (ahead3 v t - 1) ≡ ahead3 v t = omega arith in
      rw e (ap {B = Put} (λ (k : ℕ). record { state = looped_by v t k; at = at + length (ahead_bytes v t) }) n)

  pub enter_none : t / period3 ≤ loop_of v.time_high → (at : ℕ) (out : List ℕ)
      → (record { state = v; at = at } ≡ entered v t at) × (out ≡ sets out at (ahead_bytes v t))
  unfolding passes_bytes passes3
  enter_none h at out = let z : ahead3 v t ≡ 0 = omega arith in (rw (z, add-zero at), rw z)

  -- then it is held
  looped-loop : t / period3 ≤ loop_of (looped3 v t).time_high
  looped-loop = go (ahead3 v t) refl
    where
      go : (n : ℕ) → ahead3 v t ≡ n → t / period3 ≤ loop_of (looped_by v t n).time_high
      go zero e = omega arith
      go (suc n) e = omega arith

-- the words into the loop come first
enter_bytes : (v : EncoderState) (r : Run) (rs : List Run)
    → bytes_from word_size3 writer3 v (r ∷ rs) ≡ ahead_bytes v r.t ++ bytes_from word_size3 writer3 (looped3 v r.t) (r ∷ rs)
enter_bytes v r rs =
    let w = looped3 v r.t in
    let left = bytes_from word_size3 writer3 (writer3.step v r) rs in
    let still = bytes_still w r (omega (arith, looped-loop v r.t)) in
    bytes-cons word_size3 writer3 v r rs
    ∙ ap (λ (l : List ℕ). l ++ left) (bytes_parts v r ∙ ap (λ (l : List ℕ). ahead_bytes v r.t ++ l) (sym still))
    ∙ rw (append_assoc (ahead_bytes v r.t) (bytes3 w r) left, bytes-cons word_size3 writer3 w r rs)

bytes-append : (v : EncoderState) (a b : List Run)
    → bytes_from word_size3 writer3 v (a ++ b) ≡ bytes_from word_size3 writer3 v a ++ bytes_from word_size3 writer3 (run writer3 v a) b
unfolding bytes_from
bytes-append v a b = rw (emits-append writer3 v a b, words_append, stream-append)

-- ---- a border between loops is one between runs

module _ (e : Event) where
  glue-some : (rs ss : List Run) → 0 < length rs → glue e (rs ++ ss) ≡ glue e rs ++ ss
  glue-some [] ss h = absurd (omega arith)
  glue-some (r ∷ rs) ss h = go (goes e.t e.y e.p e.x (first_of r))
    where
      go : (b : Bool) → cond b (prepend e r ∷ (rs ++ ss)) (single e ∷ r ∷ (rs ++ ss)) ≡ cond b (prepend e r ∷ rs) (single e ∷ r ∷ rs) ++ ss
      go true = refl
      go false = refl

  glue_as : (b : Bool) (r : Run) (rs : List Run) → (r.t / period3 ≡ loop_clock e → ⊥) → goes e.t e.y e.p e.x (first_of r) ≡ b
      → cond b (prepend e r ∷ rs) (single e ∷ r ∷ rs) ≡ single e ∷ r ∷ rs
  glue_as true r rs h q = absurd (h (ap (λ (k : ℕ). k / period3) (goes-true e.t e.y e.p e.x (first_of r) q).is_t))
  glue_as false r rs h q = refl

  glue_away : (f : Event) (fs : List Event) → (loop_clock f ≡ loop_clock e → ⊥) → glue e (runs (f ∷ fs)) ≡ single e ∷ runs (f ∷ fs)
  glue_away f fs h =
      let n = follow f.t f.y f.p f.x fs in
      let r = run_at f n fs in
      let l = runs-at f fs in
      ap (glue e) l ∙ glue_as (goes e.t e.y e.p e.x (first_of r)) r (runs (drop n fs)) h refl
      ∙ ap {B = List Run} (λ (k : List Run). single e ∷ k) (sym l)

-- the first event, if there is one, is of another loop
abbrev Away : (loop : ℕ) → List Event → Type 0
Away loop [] = Unit
Away loop (e ∷ es) = loop_clock e ≡ loop → ⊥

runs-parted : (loop : ℕ) (a b : List Event) → All (λ e. loop_clock e ≡ loop) a → Away loop b → runs (a ++ b) ≡ runs a ++ runs b
runs-parted loop [] b h w = refl
runs-parted loop (e ∷ []) [] h w = refl
runs-parted loop (e ∷ []) (f ∷ fs) h w = glue_away e f fs (λ q. w (q ∙ h.0))
runs-parted loop (e ∷ d ∷ a) b h w =
    ap (glue e) (runs-parted loop (d ∷ a) b h.1 w) ∙ glue-some e (runs (d ∷ a)) (runs b) (omega (arith, ap length (runs-at d a)))

-- ---- the columns of one loop

still_events : (loop : ℕ) (xs ys : List ℕ) (ts : List ℤ) (ps : List ℕ) → ((j : ℕ) → j < length ts → loop_time (get_or ts j (pos 0)) ≡ loop)
    → All (λ e. loop_clock e ≡ loop) (events_in xs ys ts ps)
still_events loop [] ys ts ps h = tt
still_events loop (x ∷ xs) [] ts ps h = tt
still_events loop (x ∷ xs) (y ∷ ys) [] ps h = tt
still_events loop (x ∷ xs) (y ∷ ys) (t ∷ ts) [] h = tt
still_events loop (x ∷ xs) (y ∷ ys) (t ∷ ts) (p ∷ ps) h = (h 0 (omega arith), still_events loop xs ys ts ps (λ j k. h (suc j) (omega arith)))

events-take : (n : ℕ) (xs ys : List ℕ) (ts : List ℤ) (ps : List ℕ)
    → events_in (take n xs) (take n ys) (take n ts) (take n ps) ≡ take n (events_in xs ys ts ps)
events-take zero xs ys ts ps = refl
events-take (suc n) [] ys ts ps = refl
events-take (suc n) (x ∷ xs) [] ts ps = refl
events-take (suc n) (x ∷ xs) (y ∷ ys) [] ps = refl
events-take (suc n) (x ∷ xs) (y ∷ ys) (t ∷ ts) [] = refl
events-take (suc n) (x ∷ xs) (y ∷ ys) (t ∷ ts) (p ∷ ps) = ap (λ (l : List Event). event x y (natural t) p ∷ l) (events-take n xs ys ts ps)

whole_take : (n : ℕ) (ts : List ℤ) → Whole ts → Whole (take n ts)
whole_take zero ts w j = refl
whole_take (suc n) [] w j = refl
whole_take (suc n) (t ∷ ts) w zero = w 0
whole_take (suc n) (t ∷ ts) w (suc j) = whole_take n ts (λ k. w (suc k)) j

whole-between : (ts : List ℤ) (i e : ℕ) → Whole ts → Whole (between ts i e)
whole-between ts i e w = whole_take (e - i) (drop i ts) (λ j. rw get_or-drop (w (i + j)))

-- events in order none of which is in a later loop than the held
paced_same : (from : ℕ) (xs ys : List ℕ) (ts : List ℤ) (ps : List ℕ) → length ys ≡ length xs → length ts ≡ length xs → length ps ≡ length xs
    → Rise loop_clock (λ e. true) from (events_in xs ys ts ps) → last_loop from ts ≤ from → (j : ℕ) → j < length ts → loop_time (get_or ts j (pos 0)) ≡ from
paced_same from xs ys [] ps a b c r h j k = absurd (omega arith)
paced_same from [] ys (t ∷ ts) ps a b c r h j k = absurd (omega arith)
paced_same from (x ∷ xs) [] (t ∷ ts) ps a b c r h j k = absurd (omega arith)
paced_same from (x ∷ xs) (y ∷ ys) (t ∷ ts) [] a b c r h j k = absurd (omega arith)
paced_same from (x ∷ xs) (y ∷ ys) (t ∷ ts) (p ∷ ps) a b c r h j k =
    let last = last-loop (loop_time t) xs ys ts ps (omega arith) (omega arith) (omega arith) in
    let le = rise_last loop_clock (λ e. true) (loop_time t) (events_in xs ys ts ps) r.1 in
    let here : loop_time t ≡ from = omega (arith, r.0.rises, le, last) in
    go here (λ i l. paced_same (loop_time t) xs ys ts ps (omega arith) (omega arith) (omega arith) r.1 (omega arith) i l ∙ here) j k
  where
    go : loop_time t ≡ from → ((i : ℕ) → i < length ts → loop_time (get_or ts i (pos 0)) ≡ from) → (i : ℕ) → i < suc (length ts)
        → loop_time (get_or (t ∷ ts) i (pos 0)) ≡ from
    go here later zero l = here
    go here later (suc i) l = later i (omega arith)

-- ---- the loop over loops

-- at index i
pub record Across3 (v₀ : EncoderState) (xs ys : List ℕ) (ts : List ℤ) (ps : List ℕ) (at₀ : ℕ) (out₀ out : List ℕ) (v : EncoderState) (at i : ℕ) : Type 0 where
  pub within : i ≤ length xs
  pub going : Going word_size3 writer3 v₀ (runs (events_in xs ys ts ps)) at₀ out₀ (runs (events_past xs ys ts ps i)) v at out

module _ {xs ys : List ℕ} {ts : List ℤ} {ps : List ℕ} (sized : Sized xs ys ts ps) where
  pub paced_still : (v : EncoderState) → Paced3 v (events_in xs ys ts ps) → last_loop (loop_of v.time_high) ts - loop_of v.time_high ≡ 0 → Still v ts
  paced_still v p z =
      let held = loop_of v.time_high in
      let all = paced_same held xs ys ts ps sized.same-y sized.same-t sized.same_p p (omega arith) in
      record { same = λ j h. all j h ∙ sym (all 0 (omega arith)); held = first ts all }
    where
      first : (l : List ℤ) → ((j : ℕ) → j < length l → loop_time (get_or l j (pos 0)) ≡ loop_of v.time_high) → first_loop l ≤ loop_of v.time_high
      first [] h = omega arith
      first (t ∷ l) h = omega (arith, h 0 (omega arith))

  module _ {v₀ : EncoderState} {at₀ : ℕ} {out₀ : List ℕ} where
    pub across_start : Across3 v₀ xs ys ts ps at₀ out₀ out₀ v₀ at₀ 0
    across_start = record { within = omega arith; going = going_start word_size3 writer3 }

    module _ {out : List ℕ} {v : EncoderState} {at i : ℕ} (u : Across3 v₀ xs ys ts ps at₀ out₀ out v at i) where
      pub across_end : length xs ≤ i
          → (record { state = v; at = at } ≡ passed3 v₀ (events_in xs ys ts ps) at₀) × (out ≡ sets out₀ at₀ (stream3 v₀ (events_in xs ys ts ps)))
      across_end h =
          let g = going_end word_size3 writer3 (rw (events-end xs ys ts ps sized i h) at u.going) in
          (rw (g.0, g.1), g.2)

      module _ (near : at₀ ≤ 2 ^ 32) (few : length (stream3 v₀ (events_in xs ys ts ps)) ≤ 2 ^ 36)
          (room : Roomy out₀ at₀ (length (stream3 v₀ (events_in xs ys ts ps)))) (h : i < length xs) {t : ℕ} (is_t : t ≡ (event_of xs ys ts ps i).t) where
        abbrev left : List Run
        left = runs (events_past xs ys ts ps i)

        abbrev held : EncoderState
        held = looped3 v t

        abbrev from : ℕ
        from = at + length (ahead_bytes v t)

        -- what is left, from the loop of t on
        left-bytes : bytes_from word_size3 writer3 v left ≡ ahead_bytes v t ++ bytes_from word_size3 writer3 held left
        left-bytes = rw (is_t, events-at xs ys ts ps sized i h, runs-at) (enter_bytes v _ _)

        same_end : run writer3 held left ≡ run writer3 v left
        same_end = rw (events-at xs ys ts ps sized i h, runs-at)

        -- what `enter` asks for
        pub enter_asks : (at ≤ 2 ^ 50) × Roomy out at (length (ahead_bytes v t))
        enter_asks = (omega (arith, u.going.storing.count), storing_room (ahead_bytes v t) _ left-bytes u.going.storing room)

        module _ {out₁ : List ℕ} (is-out : out₁ ≡ sets out at (ahead_bytes v t)) where
          going_in : Going word_size3 writer3 v₀ (runs (events_in xs ys ts ps)) at₀ out₀ left held from out₁
          going_in = record {
            state = same_end ∙ u.going.state;
            storing = storing_iteration (ahead_bytes v t) _ left-bytes is-out u.going.storing;
          }

          module _ {e : ℕ} (l : LoopEnd ts i e) where
            abbrev part : List Event
            part = events_in (between xs i e) (between ys i e) (between ts i e) (between ps i e)

            abbrev loop : ℕ
            loop = loop_time (get_or ts i (pos 0))

            same_at : (j : ℕ) → j < length (between ts i e) → loop_time (get_or (between ts i e) j (pos 0)) ≡ loop
            same_at j k =
                let n : j < e - i = omega (arith, length-between ts i e (omega (arith, l.front.some)) l.front.within) in
                ap loop_time (between_get_d ts i e (pos 0) j (omega arith)) ∙ l.front.same (i + j) (omega arith) (omega arith)

            some_at : 0 < length (between ts i e)
            some_at = omega (arith, length-between ts i e (omega (arith, l.front.some)) l.front.within, l.front.some)

            part_still : Still held (between ts i e)
            part_still = record {
              same = λ j k. same_at j k ∙ sym (same_at 0 some_at);
              held = omega (arith, same_at 0 some_at, looped-loop v t);
            }

            part_sized : Sized (between xs i e) (between ys i e) (between ts i e) (between ps i e)
            part_sized =
                let k = l.front.within in
                let n = length-between xs i e (omega (arith, l.front.some)) (omega (arith, sized.same-t)) in
                record {
                  few = omega (arith, between_few xs i e, sized.few);
                  same-y = length-between ys i e (omega (arith, l.front.some)) (omega (arith, sized.same-y, sized.same-t)) ∙ sym n;
                  same-t = length-between ts i e (omega (arith, l.front.some)) k ∙ sym n;
                  same_p = length-between ps i e (omega (arith, l.front.some)) (omega (arith, sized.same_p, sized.same-t)) ∙ sym n;
                }

            away_past : Away loop (events_past xs ys ts ps e)
            away_past =
                ⊎_elim
                (λ (q : e ≡ length xs). rw (events-end xs ys ts ps sized e (omega arith)) tt)
                (λ (q : e < length xs). rw (events-at xs ys ts ps sized e q) (l.away (omega (arith, sized.same-t))))
                (eq-or-lt_of_le (omega (arith, l.front.within, sized.same-t)))

            parted : left ≡ runs part ++ runs (events_past xs ys ts ps e)
            parted =
                let es = events_past xs ys ts ps i in
                let n : i + (e - i) ≡ e = omega (arith, l.front.some) in
                let rest : drop (e - i) es ≡ events_past xs ys ts ps e = events-drop xs ys ts ps sized i (e - i) ∙ ap (events_past xs ys ts ps) n in
                let front : take (e - i) es ≡ part = sym (events-take (e - i) (drop i xs) (drop i ys) (drop i ts) (drop i ps)) in
                let all : part ++ events_past xs ys ts ps e ≡ es = rw (← front, ← rest) (take-append-drop (e - i) es) in
                ap runs (sym all) ∙ runs-parted loop part (events_past xs ys ts ps e)
                (still_events loop (between xs i e) (between ys i e) (between ts i e) (between ps i e) same_at) away_past

            part_bytes : bytes_from word_size3 writer3 held left
                ≡ stream3 held part ++ bytes_from word_size3 writer3 (run writer3 held (runs part)) (runs (events_past xs ys ts ps e))
            part_bytes = ap (bytes_from word_size3 writer3 held) parted ∙ bytes-append held (runs part) (runs (events_past xs ys ts ps e))

            -- what `pass_still` asks for
            pub part-asks : Whole ts → Sized (between xs i e) (between ys i e) (between ts i e) (between ps i e) × (from ≤ 2 ^ 37) × Whole (between ts i e)
                × Still held (between ts i e) × (length (stream3 held part) ≤ 2 ^ 37) × Roomy out₁ from (length (stream3 held part))
            part-asks w =
                let n = ap length part_bytes ∙ length-append (stream3 held part) _ in
                let k = going_in.storing.count in (
                  part_sized,
                  omega (arith, k),
                  whole-between ts i e w,
                  part_still,
                  omega (arith, k, n),
                  storing_room (stream3 held part) _ part_bytes going_in.storing room,
                )

            pub across_iteration : {put : Put} {out₂ : List ℕ} → put ≡ passed3 held part from → out₂ ≡ sets out₁ from (stream3 held part)
                → Across3 v₀ xs ys ts ps at₀ out₀ out₂ put.state put.at e
            across_iteration is o = rw is record {
              within = omega (arith, l.front.within, sized.same-t);
              going = record {
                state = sym (ap (run writer3 held) parted ∙ run-append writer3 held (runs part) _) ∙ going_in.state;
                storing = storing_iteration (stream3 held part) _ part_bytes o going_in.storing;
              };
            }
