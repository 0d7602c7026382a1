-- The making of the records, one iteration after another.
use Rattle.std.specs.Prelude.{◌≡◌, refl, Bool, true, false, List, [], ◌∷◌, ◌++◌, ℕ, zero, suc, ◌+◌, ◌-◌, ◌*◌, ◌≤◌, ◌<◌, ◌^◌, max, min, ltb, ℤ, pos}
use Rattle.std.proofs.Common.{sym, ap, ◌∙◌, arith, add-one, take-add, drop-drop, length-take-le, take_all, ltb-true, ltb-false}
use native.Mathlib.Nat.{zero-mul, suc-mul}
use lib.ListN.{length, take, drop, length-take, length-drop, length-append}
use Rattle.laws_stream.specs.{Order.greatest, Slice.sift}
use Rattle.evt_types.specs.{Event.Event, Num.most_bytes}
use Rattle.evt_codec.specs.Codec.{word_size, codec_after}
use Rattle.read_columns.specs.Inside.{clock, inside}
use Rattle.read_fill.specs.Decode.{Bounded, inside_events}
use Rattle.read_count.specs.{Count.counted_all_of, declared.CountedAll.CountedAll}
use Rattle.read_fill.specs.Laws.{codec_append, codec_nil, events-nil, count-append, latest-append, bounded_after, bounded_less, inside-bytes, latest_small}
use Rattle.index_build.specs.{declared.Builder.Builder, declared.Checkpoint.Checkpoint, Index.firsts}
use Rattle.index_build.specs.Build.{Advanced, Begun, Fit, builder_at, chunk_of, front_of, moved, next_of, seen_of}

-- ---- one iteration

-- what counting some bytes asks, of a builder that is fit
module _ (l : List ℕ) (t : Builder) (f : Fit l t) where
  chunk-length : length (chunk_of l t) ≤ length l - t.offset
  chunk-length = omega (arith, length-take t.source.spacing (drop t.offset l), length-drop t.offset l)

  pub chunk_bounded : Bounded (length (chunk_of l t)) t.codec
  chunk_bounded = bounded_less t.codec chunk-length f.takes

  pub chunk_few : length (inside_events t.width t.height t.codec (chunk_of l t)) ≤ 6 * (length l - t.offset)
  chunk_few = omega (arith, inside-bytes t.width t.height t.codec (chunk_of l t), chunk-length)

-- the part of the recording that the code takes
pub part-chunk : (l : List ℕ) (start spacing end : ℕ) → start ≤ length l → end ≡ min (start + spacing) (length l)
    → take (end - start) (drop start l) ≡ take spacing (drop start l)
part-chunk l start spacing end h e = go (ltb (length l - start) spacing) refl
  where
    go : (b : Bool) → ltb (length l - start) spacing ≡ b → take (end - start) (drop start l) ≡ take spacing (drop start l)
    go true q =
        let short = ltb-true (length l - start) spacing q in
        take_all (end - start) (drop start l) (omega (arith, length-drop start l, short))
        ∙ sym (take_all spacing (drop start l) (omega (arith, length-drop start l, short)))
    go false q =
        let n : end - start ≡ spacing = omega (arith, ltb-false (length l - start) spacing q) in
        ap (λ (k : ℕ). take k (drop start l)) n

module _ (l : List ℕ) (t : Builder) (f : Fit l t) (end : ℕ) (is_end_lem : end ≡ min (t.offset + t.source.spacing) (length l)) where
  abbrev part : List ℕ
  part = take (end - t.offset) (drop t.offset l)

  is_part : part ≡ chunk_of l t
  is_part = part-chunk l t.offset t.source.spacing end f.start is_end_lem

  pub part_bounded : Bounded (length part) t.codec
  part_bounded = rw is_part (chunk_bounded l t f)

  module _ (s : CountedAll) (is : s ≡ counted_all_of t.width t.height t.codec part) where
    is_counted : s ≡ counted_all_of t.width t.height t.codec (chunk_of l t)
    is_counted = is ∙ ap (counted_all_of t.width t.height t.codec) is_part

    pub count_sum : t.count + s.count < 2 ^ 64
    count_sum = omega (arith, ap (λ (u : CountedAll). u.count) is_counted, chunk_few l t f, f.few, f.long, f.start)

    pub advanced : (time : ℤ) → time ≡ pos t.latest → (top : ℕ) → top ≡ max t.latest s.latest
        → Advanced l t (record { byte_offset = t.offset; event_index = t.count; time = time; codec = t.codec })
        (moved t (t.offset + t.source.spacing) (t.count + s.count) top s.codec)
    advanced time is_time_lem top is-top = record {
      is_record_lem = ap (λ (z : ℤ). record { byte_offset = t.offset; event_index = t.count; time = z; codec = t.codec }) is_time_lem;
      is_next =
          let counted = counted_all_of t.width t.height t.codec (chunk_of l t) in
          let e : top ≡ max t.latest counted.latest = is-top ∙ ap (λ (u : CountedAll). max t.latest u.latest) is_counted in
          λ i. moved t (t.offset + t.source.spacing) (t.count + (is_counted i).count) (e i) (is_counted i).codec;
    }

-- ---- all iterations

-- t is the builder before the first record
module _ (l : List ℕ) (t : Builder) where
  front_none : front_of l t 0 ≡ []
  front_none = ap (λ (n : ℕ). take n (drop t.offset l)) (zero-mul t.source.spacing)

  seen_none : seen_of l t 0 ≡ []
  seen_none = ap (inside_events t.width t.height t.codec) front_none ∙ ap (sift (inside t.width t.height)) (events-nil t.codec)

  pub builder_start : moved t t.offset 0 0 t.codec ≡ builder_at l t 0
  builder_start =
      let offset : t.offset ≡ t.offset + 0 * t.source.spacing = omega (arith, zero-mul t.source.spacing) in
      let codec : codec_after t.codec (front_of l t 0) ≡ t.codec = ap (codec_after t.codec) front_none ∙ codec_nil t.codec in
      λ i. moved t (offset i) (length (sym seen_none i)) (greatest clock (sym seen_none i)) (sym codec i)

  module _ {room : ℕ} (s : Begun l room t) (j : ℕ) (lt : j < t.cap) where
    abbrev front : List ℕ
    front = front_of l t j

    abbrev chunk : List ℕ
    chunk = chunk_of l (builder_at l t j)

    front_long : length front ≡ j * t.source.spacing
    front_long = length-take-le (j * t.source.spacing) (drop t.offset l) (omega (arith, s.within j lt, length-drop t.offset l))

    front-words : length front ≡ (j * s.words) * word_size t.codec
    front-words = front_long ∙ ap (λ (n : ℕ). j * n) s.aligned ∙ sym (native.Mathlib.Nat.mul_assoc j s.words (word_size t.codec))

    next-front : front_of l t (suc j) ≡ front ++ chunk
    next-front =
        ap (λ (n : ℕ). take n (drop t.offset l)) (suc-mul j t.source.spacing) ∙ take-add (j * t.source.spacing) t.source.spacing (drop t.offset l)
        ∙ ap (λ (c : List ℕ). front ++ take t.source.spacing c) (drop-drop (j * t.source.spacing) t.offset l)

    -- an iteration takes the builder before record j to the builder before the next
    pub builder_next : next_of l (builder_at l t j) ≡ builder_at l t (suc j)
    builder_next =
        let w = j * s.words in
        let offset : t.offset + j * t.source.spacing + t.source.spacing ≡ t.offset + suc j * t.source.spacing = omega (arith, suc-mul j t.source.spacing) in
        let seen : List ℕ → List Event = inside_events t.width t.height t.codec in
        let count = ap (λ (b : List ℕ). length (seen b)) next-front ∙ count-append t.codec w front chunk front-words t.width t.height in
        let latest = ap (λ (b : List ℕ). greatest clock (seen b)) next-front ∙ latest-append t.codec w front chunk front-words t.width t.height in
        let codec = ap (codec_after t.codec) next-front ∙ codec_append t.codec w front chunk front-words in
        (λ i. moved t (offset i) (sym count i) (sym latest i) (sym codec i))

    -- and the builder can make it
    pub builder_fit : Fit l (builder_at l t j)
    builder_fit =
        let rest = length l - (t.offset + j * t.source.spacing) in
        let k : (j * s.words) * word_size t.codec + rest ≤ most_bytes = omega (arith, front-words, front_long, s.within j lt, s.long) in
        let h : length front ≤ most_bytes = omega (arith, front_long, s.within j lt, s.long) in
        record {
          start = omega (arith, s.within j lt, s.start);
          long = s.long;
          step = s.small;
          takes = bounded_after t.codec (j * s.words) rest front front-words (bounded_less t.codec k s.takes);
          few = omega (arith, inside-bytes t.width t.height t.codec front, front_long);
          early = latest_small t.codec front (bounded_less t.codec h s.takes) t.width t.height;
        }

-- ---- the records made

pub length-firsts : (f : ℕ → Checkpoint) (n : ℕ) → length (firsts f n) ≡ n
length-firsts f zero = refl
length-firsts f (suc n) = length-append (firsts f n) (f n ∷ []) ∙ ap (λ (m : ℕ). m + 1) (length-firsts f n) ∙ add-one n
