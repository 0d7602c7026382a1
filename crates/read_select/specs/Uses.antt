-- What a pass comes to in each use: by number, with a limit, by time, and of all events. One law for every encoding.
use Rattle.std.specs.Prelude.{◌≡◌, Bool, true, List, [], ◌∷◌, ◌++◌, ℕ, suc, ◌+◌, ◌^◌, ◌≤◌, ◌<◌, length, take, drop}
use Rattle.std.proofs.Common.{sym, ap, ◌∙◌, arith, length-append, take-append-drop}
use Rattle.laws_stream.specs.{Machine.All, Machine.run, Machine.emits, Machine.emits-all, Words.words_of}
use Rattle.laws_stream.specs.{Slice.sift, Slice.all-sift, Slice.and_then, Slice.until, Slice.Past, Slice.within, Slice.timely, Select.by_number_lem}
use Rattle.laws_stream.specs.Select as Select
use Rattle.evt_types.specs.Event.{Event, events_of, events_timed}
use Rattle.evt_codec.specs.{declared.codec.Codec.Codec, Reader.Reader, Reader.View, Reader.view, Codec.word_size, Codec.events_from, Sound.Sound, Sound.sound}
use Rattle.evt_codec.specs.Sound.{able_words}
use Rattle.read_columns.specs.Inside.{inside, clock}
use Rattle.read_window.specs.{declared.Window.Window, Window.selection_of}
use Rattle.read_select.specs.Pass.{reading_by, handed_over, Able}
use Rattle.laws_stream.proofs.SelectLaws as SelectLaws

-- ---- no time reaches 2^63

module _ {R : Reader} (S : Sound R) (win : Window) (no_end : 2 ^ 63 ≤ win.t1) (s : R.State) (ws : List ℕ) (able : R.Able (length ws) s) where
  -- no decoder on the way reaches t1
  calm_words : Select.Calm (reading_by R win) (selection_of win) s ws
  calm_words = Select.calm_bounded (reading_by R win) (selection_of win) R.Able S.able_steps (λ n u i. omega (arith, S.time< n u i)) s ws able

  in_window : win.t0 ≡ 0 → All (λ e. Select.in_time (reading_by R win) (selection_of win) e ≡ true) (Select.numbered (reading_by R win) s ws)
  in_window z = all-sift (inside win.width win.height) _ (emits R.machine s ws)
      (emits-all R.machine R.Able S.able_steps _ in_time_lem s ws able)
    where
      all_timely : (es : List Event) → All (λ e. e.t < 2 ^ 63) es → All (λ e. Select.in_time (reading_by R win) (selection_of win) e ≡ true) es
      all_timely [] h = tt
      all_timely (e ∷ es) h = (timely clock win.t0 win.t1 e (omega arith) (omega (arith, h.0)), all_timely es h.1)

      in_time_lem : (n : ℕ) (u : R.State) (w : ℕ) → R.Able (suc n) u
          → All (λ e. Select.in_time (reading_by R win) (selection_of win) e ≡ true) (R.machine.emit u w)
      in_time_lem n u w i = rw (S.emits u w) (all_timely (events_of (R.vector u w)) (events_timed (λ t. t < 2 ^ 63) (R.vector u w) (S.times< (suc n) u w i)))

-- ---- over every encoding

-- the events that have a number: those inside width x height
abbrev pub numbered_over : Window → Codec → List ℕ → List Event
numbered_over win c l = sift (inside win.width win.height) (events_from c l)

-- t0 ≤ t < t1
abbrev pub is_timely : Window → Event → Bool
is_timely win = within clock win.t0 win.t1

-- those up to the first word after which the decoder is started and its time is t1 or more
abbrev pub until_from : Window → View → List ℕ → List Event
until_from win v l =
    let R = reading_by v.reader win in
    Select.numbered R v.state (until v.reader.machine (Select.is_over R (selection_of win)) v.state (words_of v.reader.size l))

abbrev pub until_over : Window → Codec → List ℕ → List Event
until_over win c l = until_from win (view c) l

-- after that word no event inside is in time
abbrev pub PastWords : Window → (v : View) → List ℕ → Type 0
PastWords win v ws =
    let R = v.reader in
    Past R.machine (and_then (inside win.width win.height) (is_timely win)) (Select.is_over (reading_by R win) (selection_of win)) v.state ws

abbrev pub PastOver : Window → Codec → List ℕ → Type 0
PastOver win c l = PastWords win (view c) (words_of (word_size c) l)

module _ (win : Window) where
  pub calm : (c : Codec) (l : List ℕ) → 2 ^ 63 ≤ win.t1 → Able (length l) c
      → Select.Calm (reading_by (view c).reader win) (selection_of win) (view c).state (words_of (word_size c) l)
  calm c l no_end a = calm_words (sound c) win no_end (view c).state (words_of (word_size c) l) (able_words c l a)

  -- every event is in time
  pub all_timely : (c : Codec) (l : List ℕ) → Able (length l) c → win.t0 ≡ 0 → 2 ^ 63 ≤ win.t1 → All (λ e. is_timely win e ≡ true) (numbered_over win c l)
  all_timely c l a z no_end = in_window (sound c) win no_end (view c).state (words_of (word_size c) l) (able_words c l a) z

  -- ---- where the window has all times

  module _ (c : Codec) (l : List ℕ) (able : Able (length l) c) (no_start : win.t0 ≡ 0) (no_end : 2 ^ 63 ≤ win.t1) where
    abbrev ws : List ℕ
    ws = words_of (word_size c) l

    -- BY NUMBER
    pub over_by_number : (k : ℕ) → handed_over win k c l ≡ by_number_lem win.n0 win.n1 k (numbered_over win c l)
    over_by_number k =
        SelectLaws.handed_by-number (reading_by (view c).reader win) (selection_of win) k (view c).state ws (calm c l no_end able)
        (all_timely c l able no_start no_end)

    -- THE LIMIT
    pub over-limit : win.n0 ≡ 0 → handed_over win 0 c l ≡ take win.n1 (numbered_over win c l)
    over-limit z =
        SelectLaws.handed-limit (reading_by (view c).reader win) (selection_of win) (view c).state ws z (calm c l no_end able)
        (all_timely c l able no_start no_end)

    -- ALL: and all numbers
    pub over-all : (k : ℕ) → win.n0 ≤ k → k + length (numbered_over win c l) ≤ win.n1 → handed_over win k c l ≡ numbered_over win c l
    over-all k lo hi =
        SelectLaws.handed-all (reading_by (view c).reader win) (selection_of win) k (view c).state ws lo hi (calm c l no_end able)
        (all_timely c l able no_start no_end)

  -- ---- BY TIME: where the window has all numbers

  pub over_by_time : (k : ℕ) (c : Codec) (l : List ℕ) → win.n0 ≤ k → k + length (numbered_over win c l) < win.n1
      → handed_over win k c l ≡ sift (is_timely win) (until_over win c l)
  over_by_time k c l lo hi =
      SelectLaws.handed_by_time (reading_by (view c).reader win) (selection_of win) k (view c).state (words_of (word_size c) l) lo hi

-- ---- no more are handed over than have a number

module _ {S : Type 0} (R : Select.Reading S ℕ Event) (span : Select.Selection) where
  handed-most : (k : ℕ) (s : S) (ws : List ℕ) → length (Select.handed R span k s ws) ≤ length (Select.numbered R s ws)
  handed-most k s ws =
      let n = (Select.ended R span k s ws).consumed in
      let a = Select.numbered R s (take n ws) in
      let b = Select.numbered R (run R.machine s (take n ws)) (drop n ws) in
      let e : Select.numbered R s ws ≡ a ++ b = ap (Select.numbered R s) (sym (take-append-drop n ws)) ∙ Select.numbered-append R s (take n ws) (drop n ws) in
      rw Select.handed-after (omega (arith, Select.chosen_few R span k a, ap length e, length-append a b))

pub over_few : (win : Window) (k : ℕ) (c : Codec) (l : List ℕ) → length (handed_over win k c l) ≤ length (numbered_over win c l)
over_few win k c l = handed-most (reading_by (view c).reader win) (selection_of win) k (view c).state (words_of (word_size c) l)
