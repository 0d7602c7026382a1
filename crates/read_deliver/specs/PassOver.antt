-- What is passed over by number: its bytes, its events and the decoder behind it; and that a pass under a window of all times hands over the same from there.
use Rattle.std.specs.Prelude.{◌≡◌, List, ℕ, ◌+◌, ◌-◌, ◌*◌, ◌≤◌, ◌^◌, length, take, drop}
use Rattle.std.proofs.Common.{sym, ap, ◌∙◌, arith, length-take, length-drop}
use Rattle.laws_stream.specs.{Words.words_of, Select.handed, PassOver.Over, PassOver.Passes}
use Rattle.laws_stream.specs.PassOver.{over, over_passes}
use Rattle.evt_codec.specs.{declared.codec.Codec.Codec, Reader.View, Reader.view, Codec.word_size, Codec.view_codec, Sound.sound, Sound.able_bounded}
use Rattle.read_columns.specs.Inside.{inside}
use Rattle.read_fill.specs.{Decode.inside_events, Decode.Bounded, Laws.inside-bytes}
use Rattle.read_count.specs.{declared.CountedTo.CountedTo, Count.counted_to_of}
use Rattle.read_window.specs.{declared.Window.Window, Window.selection_of}
use Rattle.read_select.specs.{Pass.reading_by, Pass.handed_from, Pass.handed_over, Pass.Able, Pass.Ready, Uses.calm}
use Rattle.laws_stream.proofs.{PassOverLaws.handed-over, WordsLaws.words-within, WordsLaws.words_dropped, WordsLaws.words_taken}

-- ---- what is passed over

module _ (width height most : ℕ) (l : List ℕ) (c : Codec) where
  abbrev passed : Over (view c).reader.State
  passed = over (view c).reader.machine (inside width height) most (view c).state (words_of (word_size c) l)

  passes : Passes (view c).reader.machine (inside width height) most (view c).state (words_of (word_size c) l) passed
  passes = over_passes (view c).reader.machine (inside width height) most (view c).state (words_of (word_size c) l)

  pub passed-within : (counted_to_of width height most c l).at ≤ length l
  passed-within = words-within (word_size c) (sound c).some passed.words l passes.words

  pub passed_few : (counted_to_of width height most c l).count ≤ most
  passed_few = passes.few

  pub passed-count : (counted_to_of width height most c l).count ≡ length (inside_events width height c (take (counted_to_of width height most c l).at l))
  passed-count = rw (words_taken (word_size c) (sound c).some passed.words l passed-within) passes.count

-- ---- the pass from there

-- THE LAW: under a window of all times, where as many as are missing to n0 are passed over at most
module _ (win : Window) (no_end : 2 ^ 63 ≤ win.t1) (k most : ℕ) (few : most ≤ win.n0 - k) (l : List ℕ) where
  pub handed-passed : (c : Codec) → Able (length l) c → (r : CountedTo) → r ≡ counted_to_of win.width win.height most c l
      → handed_over win k c l ≡ handed_over win (k + r.count) r.codec (drop r.at l)
  handed-passed c able r is =
      let Q = reading_by (view c).reader win in
      let n = word_size c in
      let p = passed win.width win.height most l c in
      rw is (handed-over Q (selection_of win) most k few (view c).state (words_of n l) (calm win c l no_end able)
      ∙ ap (handed Q (selection_of win) (k + p.count) p.state)
      (sym (words_dropped n (sound c).some p.words l (passed-within win.width win.height most l c)))
      ∙ ap (λ (v : View). handed_from win (k + p.count) v (drop (p.words * n) l)) (sym (view_codec c p.state)))

-- and it can go on there
pub ready_passed : (width height most k : ℕ) (c : Codec) (l : List ℕ) → length l ≤ 2 ^ 30 → k ≤ 2 ^ 33
    → (r : CountedTo) → r ≡ counted_to_of width height most c l
    → Bounded (length (drop r.at l)) r.codec → Ready r.codec (k + r.count) (length (drop r.at l))
ready_passed width height most k c l long low r is b =
    let n = ap (λ (r : CountedTo). r.count) is ∙ passed-count width height most l c in
    let part = take (counted_to_of width height most c l).at l in
    record {
      able = able_bounded r.codec (length (drop r.at l)) b;
      long = omega (arith, length-drop r.at l);
      low = omega (arith, n, inside-bytes width height c part, length-take (counted_to_of width height most c l).at l);
    }
