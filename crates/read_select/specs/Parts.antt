-- A pass over the rest of a recording, from the decoder and the number that its first part leaves.
use Rattle.std.specs.Prelude.{◌≡◌, false, List, ◌++◌, ℕ, ◌*◌, length}
use Rattle.std.proofs.Common.{sym, ap, subst, ◌∙◌}
use Rattle.laws_stream.specs.{Machine.All, Words.words_of, Words.words_of-append, Slice.sift}
use Rattle.laws_stream.specs.Select as Select
use Rattle.evt_codec.specs.{declared.codec.Codec.Codec, Reader.View, Reader.view, Codec.word_size, Codec.codec_after, Codec.view-after, Sound.sound}
use Rattle.read_window.specs.{declared.Window.Window, Window.selection_of}
use Rattle.read_select.specs.{Pass.reading_by, Uses.numbered_over, Uses.is_timely, Uses.until_from, Uses.until_over, Uses.PastWords, Uses.PastOver}
use Rattle.laws_stream.proofs.SelectLaws as SelectLaws

module _ (a b : List ℕ) (j : ℕ) where
  -- the first part is a whole number of words
  abbrev pub Whole : Codec → Type 0
  Whole c = length a ≡ j * word_size c

  module _ (win : Window) where
    -- BY TIME: no event of the first part is in time, and none that is follows the stop
    pub time_from : (c : Codec) → Whole c → All (λ e. is_timely win e ≡ false) (numbered_over win c a) → PastOver win c (a ++ b)
        → sift (is_timely win) (until_over win (codec_after c a) b) ≡ sift (is_timely win) (numbered_over win c (a ++ b))
    time_from c h e p =
        let R = reading_by (view c).reader win in
        let n = word_size c in
        let ws = words_of-append n (sound c).some j a b h in
        ap (λ (v : View). sift (is_timely win) (until_from win v b)) (view-after c a)
        ∙ SelectLaws.by_time_from R (selection_of win) (view c).state (words_of n a) (words_of n b) e (subst (PastWords win (view c)) ws p)
        ∙ ap (λ (ws : List ℕ). sift (is_timely win) (Select.numbered R (view c).state ws)) (sym ws)
