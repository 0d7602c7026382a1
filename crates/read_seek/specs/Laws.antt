-- What a seek leaves of a slice by time: nothing that it passes over before the first time of the slice is lost, and what it passes over up to the last is the
-- slice itself, unless a word strays.
use Rattle.std.specs.Prelude.{◌≡◌, false, List, ℕ, ◌+◌, ◌*◌, ◌≤◌, ◌<◌, ◌^◌, length, take, drop}
use Rattle.std.proofs.Common.{sym, ap, ◌∙◌, arith, length-drop, drop-drop}
use Rattle.laws_stream.specs.Words.{words_of}
use Rattle.laws_stream.specs.Seek.{reach-most}
use Rattle.laws_stream.specs.Select as Select
use Rattle.evt_codec.specs.{declared.codec.Codec.Codec, Reader.View, Reader.view, Codec.word_size, Codec.view_codec, Sound.sound, Sound.able_bounded}
use Rattle.read_fill.specs.{Decode.inside_events, Decode.Bounded, Laws.inside-bytes, Laws.inside-from}
use Rattle.read_window.specs.{declared.Window.Window, Window.selection_of}
use Rattle.read_select.specs.Pass.{reading_by, handed_from, handed_over, Able, Ready}
use Rattle.read_seek.specs.{declared.Sought.Sought, Seek.reach_from, Seek.sought_of, Seek.further, Seek.Midway}
use Rattle.laws_stream.proofs.{SeekLaws.handed-from, SeekLaws.handed-upto, WordsLaws.words-within, WordsLaws.words_dropped, WordsLaws.words_taken}

-- ---- how far

pub sought_within : (t₀ t₁ : ℕ) (c : Codec) (l : List ℕ) → (sought_of t₀ t₁ c l).at ≤ length l
sought_within t₀ t₁ c l =
    let R = (view c).reader in
    words-within (word_size c) (sound c).some (reach_from t₀ t₁ (view c) l).words l
    (reach-most R.machine R.time R.carries t₀ t₁ (view c).state (words_of (word_size c) l))

-- ---- the slice: a window of all numbers, from k on

module _ (win : Window) (k : ℕ) (low : win.n0 ≤ k) where
  -- FROM its first time on
  pub sought_from_lem : (t₀ : ℕ) (c : Codec) (l : List ℕ) → win.t0 ≤ win.t1 → k + 6 * length l < win.n1
      → handed_over win k c l ≡ handed_over win k (sought_of t₀ win.t0 c l).codec (drop (sought_of t₀ win.t0 c l).at l)
  sought_from_lem t₀ c l order high =
      let Q = reading_by (view c).reader win in
      let n = word_size c in
      let r = reach_from t₀ win.t0 (view c) l in
      let cut = words_dropped n (sound c).some r.words l (sought_within t₀ win.t0 c l) in
      let left = inside-from (sound c) win.width win.height r.state (drop (r.words * n) l) in
      let fewer : k + length (Select.numbered Q r.state (drop r.words (words_of n l))) < win.n1 =
      rw (← cut) (omega (arith, left, length-drop (r.words * n) l)) in
      handed-from Q (view c).reader.carries (sound c).stamped (selection_of win) t₀ win.t0 (omega arith) order k k (view c).state (words_of n l) low
      (omega (arith, inside-bytes win.width win.height c l)) low fewer
      ∙ ap (Select.handed Q (selection_of win) k r.state) (sym cut)
      ∙ ap (λ (v : View). handed_from win k v (drop (r.words * n) l)) (sym (view_codec c r.state))

  module _ (c : Codec) (l : List ℕ) (high : k + 6 * length l < win.n1) where
    -- UP TO its last
    pub sought_upto : Able (length l) c → 0 < win.t1 → (sought_of win.t0 win.t1 c l).stray ≡ false
        → handed_over win k c l ≡ inside_events win.width win.height c (take (sought_of win.t0 win.t1 c l).at l)
    sought_upto able some z =
        let R = (view c).reader in
        let Q = reading_by R win in
        let n = word_size c in
        let r = reach_from win.t0 win.t1 (view c) l in
        handed-upto Q R.carries (sound c).stamped (selection_of win) R.Regular (sound c).regular_steps (sound c).unstarted (sound c).silent some k
        (view c).state (words_of n l) ((sound c).regular _ (view c).state able) low (omega (arith, inside-bytes win.width win.height c l)) z
        ∙ ap (Select.numbered Q (view c).state) (sym (words_taken n (sound c).some r.words l (sought_within win.t0 win.t1 c l)))

-- ---- a pass can go on there

pub ready_there : (c : Codec) (k at : ℕ) (l : List ℕ) → Bounded (length (drop at l)) c → length l ≤ 2 ^ 30 → k ≤ 2 ^ 62 → Ready c k (length (drop at l))
ready_there c k at l b long low = record { able = able_bounded c (length (drop at l)) b; long = omega (arith, length-drop at l); low = low }

-- ---- a part, and the whole

-- what is found from a place on the way is found
module _ (t : ℕ) (c : Codec) (l : List ℕ) (at : ℕ) (c' : Codec) (m : Midway t c l at c') (r : Sought) (is : r ≡ sought_of 0 t c' (drop at l)) where
  pub midway_within : at + r.at ≤ length l
  midway_within = rw is (omega (arith, sought_within 0 t c' (drop at l), length-drop at l, m.within))

  pub midway_found : Bounded (length (drop r.at (drop at l))) r.codec
      → (further at r ≡ sought_of 0 t c l) × Bounded (length (drop (at + r.at) l)) r.codec
  midway_found b = (ap (further at) is ∙ sym m.same, rw (← drop-drop r.at at l) b)
