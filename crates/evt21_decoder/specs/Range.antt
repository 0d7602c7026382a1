-- What every decoder that started fresh keeps: that of EVT 2.0, over the upper halves of the words.
use Rattle.std.specs.Prelude.{◌≡◌, true, List, map, ℕ, suc, ◌*◌, ◌^◌, ◌≤◌, ◌<◌, length}
use Rattle.std.proofs.Common.{ap, ◌∙◌, mul-le-mul_right, arith}
use Rattle.std.proofs.lemmas.List.{length-map}
use Rattle.laws_stream.specs.{Machine.run, Words.words_of, Words.length-words}
use Rattle.evt2_decoder.specs.{declared.Evt2Decoder.Evt2Decoder, Evt2.fresh2, Evt2.vector2, Evt2.in_range2, Range.Bounded2}
use Rattle.evt2_decoder.specs.Range.{bounded_range2}
use Rattle.evt_types.specs.{Event.Narrow, Layout.word_size21, Layout.mask21, Layout.upper}
use Rattle.evt21_decoder.specs.{declared.Evt21Decoder.Evt21Decoder, Evt21.as2, Evt21.fresh21, Evt21.step21, Evt21.vector21, Evt21.reader21}
use Rattle.evt21_decoder.specs.Evt21.{in_range21, wide, run-wide2, run-upper}
use Rattle.evt2_decoder.proofs.{Evt2Laws.few2, RangeLaws.bounded_narrow2, RangeLaws.bounded_step2, RangeLaws.fresh_range_words2}

-- the decoder can take n words more, and no sum wraps
abbrev pub Bounded21 : ℕ → Evt21Decoder → Type 0
Bounded21 n d = Bounded2 n (as2 d)

pub bounded_range21 : (n : ℕ) (d : Evt21Decoder) → in_range21 d ≡ true → n ≤ 2 ^ 28 → Bounded21 n d
bounded_range21 n d = bounded_range2 n (as2 d)

pub bounded_step21 : (n : ℕ) (d : Evt21Decoder) (w : ℕ) → Bounded21 (suc n) d → Bounded21 n (step21 d w)
bounded_step21 n d w = bounded_step2 n (as2 d) (upper w)

-- a word has at most 32 events
pub few_wide : (d : Evt2Decoder) (w m : ℕ) → m < 2 ^ 32 → (wide (vector2 d w) m).mask < 2 ^ 32
few_wide d w m h =
    let one : (vector2 d w).mask ≤ 1 = omega (arith, few2 d w) in
    let most : (wide (vector2 d w) m).mask ≤ 1 * m = mul-le-mul_right m one in
    omega (arith, most)

pub few21 : (d : Evt21Decoder) (w : ℕ) → (vector21 d w).mask < 2 ^ 32
few21 d w = few_wide (as2 d) (upper w) (mask21 w) (omega arith)

pub bounded_narrow21 : {n : ℕ} {d : Evt21Decoder} (w : ℕ) → Bounded21 n d → Narrow (vector21 d w)
bounded_narrow21 {n} {d} w b =
    let v = bounded_narrow2 (upper w) b in
    record { x< = v.x<; y< = v.y<; t< = v.t<; p< = v.p<; mask< = few21 d w }

-- at most 2^30 bytes from a fresh decoder
pub fresh_range21 : (l : List ℕ) → length l ≤ 2 ^ 30 → in_range21 (run reader21 fresh21 (words_of word_size21 l)) ≡ true
fresh_range21 l h =
    let ws = words_of word_size21 l in
    ap in_range21 (run-wide2 fresh2 ws) ∙ ap in_range2 (run-upper fresh2 ws)
    ∙ fresh_range_words2 (map upper ws) (omega (arith, length-map ws upper, length-words 8 l))
