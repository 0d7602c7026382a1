-- DEMAND 3 BEHIND A WRITTEN HEADER: what it adds to specs/Handover.antt, in plain words.
--
-- Demand 3 speaks of a fresh writer that sends no header, and of reading words whose encoding and sensor the caller names. Here the writer is fresh and
-- sends a header, and reading, indexing and slicing are told nothing but the bytes: `read_raw` and `open` with no size. The header goes out with the first
-- accepted append that has an event, and names that append's size. Then for every list of appends, refused ones among them, and every cut at the header's end
-- or behind it: what stands is read as exactly the accepted events whose event word is whole before the cut; the header, the whole words behind it and the
-- words of the resuming writer, which takes loop and coarse time from the body that is left and sends no header, are read as all accepted events; and slices
-- by number and by time over either are exact at every allowed spacing. It asks that the size in the header covers all accepted events: reading would drop the
-- others. Without an accepted event nothing is sent, not even the header. A body may begin with the byte `%`, since the header's end line is its last line.
--
--   a fresh writer that sends a header                                     `due`
--   the header that a list sends: with which append, of which size         `front_of`
--   the size covers all accepted events                                    `Covers`
--   the cut at the header's end or behind it; whole before it; joined      `Claim`, `whole`, `joined` of specs/Handover.antt, with `headed`
--   read with no size, indexed and sliced likewise                         `as_recording`, `read_by`, `open_by_lem`
--   of lists of appends                                                    `DemandThreeHeaded`
--   of calls that ran, records lent or by value                            `DemandThreeHeadedRan`, `DemandThreeHeadedByValue`
--   a second list always exists                                            `SecondListExistsHeaded`
--
-- proofs/Headed.antt proves all of them, by Fronts.antt of specs/ and proofs/ (what a list sends) and the proofs of demand 3.
use Rattle.std.specs.Prelude.{◌≡◌, true, cond, ◌&&◌, List, [], ◌∷◌, ℕ, ◌^◌, ◌≤◌, ◌<◌, length}
use Rattle.laws_stream.specs.Machine.{All}
use Rattle.evt_types.specs.{Event.Event, declared.Encoding.Encoding}
use Rattle.read_columns.specs.Inside.{inside}
use Rattle.write_header.specs.Header.{header_text}
use Rattle.write_rules.specs.{declared.RawEventSink.RawEventSink, Rules.fresh_sink}
use Rattle.write_append.specs.Append.{header_due}
use Rattle.laws_handover.specs.Handover.{Call, is_accepted, next, accepted_events, stream_of, stream_words, Front, bare, headed, as_recording, Claim}
use Rattle.laws_handover.specs.Handover.{Resumables, Ran, Chained, calls_of, all_written, CutAndResumed, ReadBack, ReadByValue}

-- a fresh writer that sends a header
abbrev pub due : Encoding → RawEventSink
due e = fresh_sink e true

-- what a list sends before its words: with the first accepted append that has an event a header that names that append's size
abbrev pub front_of : RawEventSink → List Call → Front
front_of s [] = bare
front_of s (c ∷ cs) = cond (is_accepted s c && header_due s c.xs) (headed c.width c.height) (front_of (next s c) cs)

-- a width and a height that no event reaches
abbrev pub Covers : (w h : ℕ) → List Event → Type 0
Covers w h es = All (λ a. inside w h a ≡ true) es

-- for each encoding, every list and every cut that isn't before the header's end; `Exact` of a `headed` stream asks for sides below 2 ^ 64, and a size that
-- keeps what is read
abbrev pub DemandThreeHeaded : Type 0
DemandThreeHeaded = (e : Encoding) (calls : List Call) (w h : ℕ) → front_of (due e) calls ≡ headed w h
    → (cut : ℕ) → length (header_text e w h) ≤ cut → cut ≤ length (stream_of (due e) calls)
    → Claim e (headed w h) (stream_of (due e) calls) (stream_words (due e) calls) (accepted_events (due e) calls) cut

-- without an accepted event nothing is sent; with one a header is
pub record Sending (es : List Event) (f : Front) (bytes : List ℕ) : Type 0 where
  pub nothing : es ≡ [] → (f ≡ bare) × (bytes ≡ [])
  pub something : 0 < length es → (w : ℕ) × ((h : ℕ) × (f ≡ headed w h))

abbrev pub HeaderSent : Type 0
HeaderSent = (e : Encoding) (calls : List Call) → Sending (accepted_events (due e) calls) (front_of (due e) calls) (stream_of (due e) calls)

abbrev pub SecondListExistsHeaded : Type 0
SecondListExistsHeaded = (e : Encoding) (calls : List Call) (w h : ℕ) → front_of (due e) calls ≡ headed w h
    → (cut : ℕ) → length (header_text e w h) ≤ cut → Resumables e (headed w h) (due e) calls cut

-- ---- THE SAME OF CALLS THAT RAN: by the contracts of `append`, `resume_raw`, `read_raw`, `open`, `slice_index` and `slice_time` alone

-- the header that these appends sent has sides below 2 ^ 64 that cover all accepted events, and the cut isn't before its end
pub record Behind (e : Encoding) (calls : List Call) (w h cut : ℕ) : Type 0 where
  pub sent : front_of (due e) calls ≡ headed w h
  pub narrow : w < 2 ^ 64
  pub low : h < 2 ^ 64
  pub covers : Covers w h (accepted_events (due e) calls)
  pub behind : length (header_text e w h) ≤ cut

abbrev pub DemandThreeHeadedRan : Type 0
DemandThreeHeadedRan = (e : Encoding) (ran : List Ran) → Chained (due e) ran → (w h cut : ℕ) → Behind e (calls_of ran) w h cut → cut ≤ length (all_written ran)
    → CutAndResumed (due e) (headed w h) ran cut (ReadBack (as_recording e w h))

-- and of those of `index_fixed`
abbrev pub DemandThreeHeadedByValue : Type 0
DemandThreeHeadedByValue = (e : Encoding) (ran : List Ran) → Chained (due e) ran → (w h cut : ℕ) → Behind e (calls_of ran) w h cut
    → cut ≤ length (all_written ran) → CutAndResumed (due e) (headed w h) ran cut (ReadByValue (as_recording e w h))
