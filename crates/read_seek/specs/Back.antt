-- The row, the base column and the polarity of a started EVT3 decoder after some words, by the words that set them.
use Rattle.std.specs.Prelude.{◌≡◌, refl, Bool, true, false, cond, List, [], ◌∷◌, ◌++◌, length, take, drop}
use Rattle.std.proofs.Common.{sym, ◌∙◌, eq-eqb, ne_eqb}
use Rattle.std.proofs.Math.Path.{ap}
use Prim.Native.Nat.{ℕ, ◌+◌, ◌*◌, ◌/◌, ◌≤◌, ◌<◌, ◌^◌, min}
use native.Mathlib.Omega.{arith}
use Rattle.std.proofs.Math.Dec.{eqb}
use Rattle.laws_stream.specs.{Machine.run, Words.words_of, Words.words-next, Words.words-end}
use Rattle.evt_types.specs.{Ahead.ahead, Ahead.ahead-some, Layout.type3, Layout.y3, Layout.x3, Layout.polarity3, Layout.word_size3}
use Rattle.evt3_decoder.specs.{declared.Decoder.Decoder, Evt3.by_type, Evt3.kind_on, Evt3.step_as, Evt3.step3, Evt3.reader3}
use Rattle.read_seek.specs.declared.{back.Column.Column, times.Times.Times}
use Rattle.read_seek.specs.Times.{times_of, started_step_lem, step_on}
use Rattle.laws_stream.proofs.StreamLaws.{split_words}

-- ---- the row

abbrev pub row_as : ℕ → (y w : ℕ) → ℕ
row_as k y w = cond (eqb k 0) (y3 w) y

unfoldable pub row_after : ℕ → List ℕ → ℕ
row_after y [] = y
row_after y (w ∷ ws) = row_after (row_as (type3 w) y w) ws

pub row_append : (y : ℕ) (a b : List ℕ) → row_after y (a ++ b) ≡ row_after (row_after y a) b
unfolding row_after
row_append y [] b = refl
row_append y (w ∷ a) b = row_append (row_as (type3 w) y w) a b

-- by the next word
module _ (y w : ℕ) (ws : List ℕ) where
  row_set : type3 w ≡ 0 → row_after y (w ∷ ws) ≡ row_after (y3 w) ws
  unfolding row_after
  row_set h = ap (λ (b : Bool). row_after (cond b (y3 w) y) ws) (eq-eqb (type3 w) 0 h)

  row_kept : (type3 w ≡ 0 → ⊥) → row_after y (w ∷ ws) ≡ row_after y ws
  unfolding row_after
  row_kept h = ap (λ (b : Bool). row_after (cond b (y3 w) y) ws) (ne_eqb (type3 w) 0 h)

pub row_run : (d : Decoder) (ws : List ℕ) → d.initialised ≡ true → (run reader3 d ws).y ≡ row_after d.y ws
unfolding row_after
row_run d [] on = refl
row_run d (w ∷ ws) on =
    let one : (step3 d w).y ≡ row_as (type3 w) d.y w
    = rw (started_step_lem d w on) (by_type (λ k. (step_as (kind_on k) d w).y ≡ row_as k d.y w) (type3 w) refl refl refl refl refl refl refl
    (λ e0 e2 e3 e4 e5 e6 e8. rw (e0, e2, e3, e4, e5, e6, e8))) in
    row_run (step3 d w) ws (step_on d w on) ∙ ap (λ (y : ℕ). row_after y ws) one

-- ---- the base column and the polarity of vectors

-- by how much a word of type k moves the base column
abbrev pub width : ℕ → ℕ
width k = cond (eqb k 4) 12 (cond (eqb k 5) 8 0)

pub width_small : (k : ℕ) → width k ≤ 12
width_small k = go (eqb k 4) (eqb k 5)
  where
    go : (a b : Bool) → cond a 12 (cond b 8 0) ≤ 12
    go true b = omega arith
    go false true = omega arith
    go false false = omega arith

abbrev pub base_as : ℕ → Column → (w : ℕ) → Column
base_as k c w = cond (eqb k 3) (record { x = x3 w; p = eqb (polarity3 w) 1 }) (record { x = min (c.x + width k) 65535; p = c.p })

unfoldable pub base_after : Column → List ℕ → Column
base_after c [] = c
base_after c (w ∷ ws) = base_after (base_as (type3 w) c w) ws

pub base_append : (c : Column) (a b : List ℕ) → base_after c (a ++ b) ≡ base_after (base_after c a) b
unfolding base_after
base_append c [] b = refl
base_append c (w ∷ a) b = base_append (base_as (type3 w) c w) a b

module _ (c : Column) (w : ℕ) (ws : List ℕ) where
  base_set : type3 w ≡ 3 → base_after c (w ∷ ws) ≡ base_after (record { x = x3 w; p = eqb (polarity3 w) 1 }) ws
  unfolding base_after
  base_set h =
      ap (λ (b : Bool). base_after (cond b (record { x = x3 w; p = eqb (polarity3 w) 1 }) (record { x = min (c.x + width (type3 w)) 65535; p = c.p })) ws)
      (eq-eqb (type3 w) 3 h)

  base_moved : (type3 w ≡ 3 → ⊥) → base_after c (w ∷ ws) ≡ base_after (record { x = min (c.x + width (type3 w)) 65535; p = c.p }) ws
  unfolding base_after
  base_moved h =
      ap (λ (b : Bool). base_after (cond b (record { x = x3 w; p = eqb (polarity3 w) 1 }) (record { x = min (c.x + width (type3 w)) 65535; p = c.p })) ws)
      (ne_eqb (type3 w) 3 h)

abbrev pub base_of : Decoder → Column
base_of d = record { x = d.base_x; p = d.polarity }

pub run_on : (d : Decoder) (ws : List ℕ) → d.initialised ≡ true → (run reader3 d ws).initialised ≡ true
run_on d [] on = on
run_on d (w ∷ ws) on = run_on (step3 d w) ws (step_on d w on)

module _ (d : Decoder) (w : ℕ) (small : d.base_x < 2 ^ 16) where
  still : base_of d ≡ record { x = min (d.base_x + 0) 65535; p = d.polarity }
  still = let e : d.base_x ≡ min (d.base_x + 0) 65535 = omega arith in ap (λ (x : ℕ). record { x = x; p = d.polarity }) e

  base_step : d.initialised ≡ true → base_of (step3 d w) ≡ base_as (type3 w) (base_of d) w
  base_step on =
      rw (started_step_lem d w on) (by_type (λ k. base_of (step_as (kind_on k) d w) ≡ base_as k (base_of d) w) (type3 w) still still refl refl refl still still
      (λ e0 e2 e3 e4 e5 e6 e8. rw (e0, e2, e3, e4, e5, e6, e8) still))

  small_step : d.initialised ≡ true → (step3 d w).base_x < 2 ^ 16
  small_step on =
      rw (started_step_lem d w on)
      (by_type (λ k. (step_as (kind_on k) d w).base_x < 2 ^ 16) (type3 w) small small (omega arith) (omega arith) (omega arith) small small
      (λ e0 e2 e3 e4 e5 e6 e8. rw (e0, e2, e3, e4, e5, e6, e8) small))

pub base_run : (d : Decoder) (ws : List ℕ) → d.initialised ≡ true → d.base_x < 2 ^ 16 → base_of (run reader3 d ws) ≡ base_after (base_of d) ws
unfolding base_after
base_run d [] on small = refl
base_run d (w ∷ ws) on small =
    base_run (step3 d w) ws (step_on d w on) (small_step d w small on) ∙ ap (λ (c : Column). base_after c ws) (base_step d w small on)

-- ---- the loops, from the end back: word k is the next to be looked at

module _ (front : List ℕ) where
  -- the words from word k on
  abbrev behind : ℕ → List ℕ
  behind k = words_of word_size3 (drop (k * word_size3) front)

  none_behind : behind (length front / word_size3) ≡ []
  none_behind = words-end word_size3 (omega arith) front (length front / word_size3 * word_size3) (omega arith)

  -- at word j, before word k
  module _ (k j : ℕ) (next : k ≡ j + 1) (within : k * word_size3 ≤ length front) (w : ℕ) (is_IsWord : w ≡ ahead word_size3 front (j * word_size3)) where
    word-here : behind j ≡ w ∷ behind k
    word-here =
        let e : j * word_size3 + word_size3 ≡ k * word_size3 = omega arith in
        words-next 2 (omega arith) front (j * word_size3) (omega arith)
        ∙ rw (← (is_IsWord ∙ ahead-some word_size3 front (j * word_size3) (omega arith)), e)

    -- in all
    parted : words_of word_size3 front ≡ words_of word_size3 (take (j * word_size3) front) ++ (w ∷ behind k)
    parted = sym (split_words word_size3 reader3 (omega arith) j front (omega arith))
        ∙ ap (λ (l : List ℕ). words_of word_size3 (take (j * word_size3) front) ++ l) word-here

  -- no row word from word k on
  pub record Rowless (k : ℕ) : Type 0 where
    pub within : k * word_size3 ≤ length front
    pub same : (y : ℕ) → row_after y (behind k) ≡ y

  pub rowless_start : Rowless (length front / word_size3)
  unfolding row_after
  rowless_start = record { within = omega arith; same = λ y. rw none_behind }

  pub row_none : (y : ℕ) → Rowless 0 → y ≡ row_after y (words_of word_size3 front)
  row_none y u = sym (u.same y)

  -- no base word either, and what the vectors from there on add
  pub record Baseless (by k : ℕ) : Type 0 where
    pub within : k * word_size3 ≤ length front
    pub few : by ≤ 65535
    pub same : (c : Column) → c.x ≤ 65535 → base_after c (behind k) ≡ record { x = min (c.x + by) 65535; p = c.p }

  pub baseless_start : Baseless 0 (length front / word_size3)
  unfolding base_after
  baseless_start = record {
    within = omega arith;
    few = omega arith;
    same = λ c h. let e : c.x ≡ min (c.x + 0) 65535 = omega arith in rw none_behind (ap (λ (x : ℕ). record { x = x; p = c.p }) e);
  }

  pub base_none : (c : Column) (by : ℕ) → c.x ≤ 65535 → Baseless by 0 → record { x = min (c.x + by) 65535; p = c.p } ≡ base_after c (words_of word_size3 front)
  base_none c by h u = sym (u.same c h)

  module _ (k j : ℕ) (next : k ≡ j + 1) (w : ℕ) (is_IsWord : w ≡ ahead word_size3 front (j * word_size3)) (t : ℕ) (is-type : t ≡ type3 w) where
    pub rowless_next : Rowless k → (t ≡ 0 → ⊥) → Rowless j
    rowless_next u other = record {
      within = omega (arith, u.within);
      same = λ y. ap (row_after y) (word-here k j next u.within w is_IsWord) ∙ row_kept y w (behind k) (λ e. other (is-type ∙ e)) ∙ u.same y;
    }

    pub row_found : (y : ℕ) → Rowless k → t ≡ 0 → y3 w ≡ row_after y (words_of word_size3 front)
    row_found y u e =
        let a = words_of word_size3 (take (j * word_size3) front) in
        sym (ap (row_after y) (parted k j next u.within w is_IsWord) ∙ row_append y a (w ∷ behind k)
        ∙ row_set (row_after y a) w (behind k) (sym is-type ∙ e) ∙ u.same (y3 w))

    pub baseless_next : {by : ℕ} → Baseless by k → (t ≡ 3 → ⊥) → (more : ℕ) → more ≡ min (by + width t) 65535 → Baseless more j
    baseless_next {by} u other more is_more = record {
      within = omega (arith, u.within);
      few = omega arith;
      same = λ c h.
          let n = width (type3 w) in
          let m : more ≡ min (by + n) 65535 = is_more ∙ ap (λ (k : ℕ). min (by + width k) 65535) is-type in
          let e : min (min (c.x + n) 65535 + by) 65535 ≡ min (c.x + more) 65535 = omega arith in
          ap (base_after c) (word-here k j next u.within w is_IsWord) ∙ base_moved c w (behind k) (λ e. other (is-type ∙ e))
          ∙ u.same (record { x = min (c.x + n) 65535; p = c.p }) (omega arith) ∙ ap (λ (x : ℕ). record { x = x; p = c.p }) e;
    }

    pub base_found : (c : Column) {by : ℕ} → Baseless by k → t ≡ 3
        → record { x = min (x3 w + by) 65535; p = eqb (polarity3 w) 1 } ≡ base_after c (words_of word_size3 front)
    base_found c u e =
        let a = words_of word_size3 (take (j * word_size3) front) in
        sym (ap (base_after c) (parted k j next u.within w is_IsWord)
        ∙ base_append c a (w ∷ behind k) ∙ base_set (base_after c a) w (behind k) (sym is-type ∙ e)
        ∙ u.same (record { x = x3 w; p = eqb (polarity3 w) 1 }) (omega arith))

-- ---- the decoder behind some words, put together

abbrev pub put_behind : Decoder → (front : List ℕ) → Times → Decoder
put_behind d front c = record {
  initialised = true;
  time_base = c.base;
  time = c.time;
  y = row_after d.y (words_of word_size3 front);
  base_x = (base_after (base_of d) (words_of word_size3 front)).x;
  polarity = (base_after (base_of d) (words_of word_size3 front)).p;
  high_loops = c.loops;
}

pub put_is : (d : Decoder) (front : List ℕ) (s : Decoder) → d.initialised ≡ true → d.base_x < 2 ^ 16 → s ≡ run reader3 d (words_of word_size3 front)
    → (c : Times) → c ≡ times_of s
    → put_behind d front c ≡ s
put_is d front s on small is-run c is-times =
    let ws = words_of word_size3 front in
    let o : true ≡ s.initialised = sym (ap (λ (s : Decoder). s.initialised) is-run ∙ run_on d ws on) in
    let r : row_after d.y ws ≡ s.y = sym (ap (λ (s : Decoder). s.y) is-run ∙ row_run d ws on) in
    let e : base_after (base_of d) ws ≡ base_of s = sym (ap base_of is-run ∙ base_run d ws on small) in
    λ i. record {
      initialised = o i;
      time_base = (is-times i).base;
      time = (is-times i).time;
      y = r i;
      base_x = (e i).x;
      polarity = (e i).p;
      high_loops = (is-times i).loops;
    }
