-- DEMAND 3 OF CALLS THAT RAN, proved: what appends wrote is the stream of their calls, of which `demand-three` speaks.
use Rattle.evt_codec.specs.Codec.{codec_after, fresh_c, in_range_c}
use Rattle.evt_types.specs.{Event.Event, Num.most_bytes, Outcome.give, declared.Encoding.Encoding, declared.Encoding.TheVariants.Evt2}
use Rattle.evt_types.specs.{declared.Encoding.TheVariants.Evt21, declared.Encoding.TheVariants.Evt3}
use Rattle.laws_handover.proofs.DemandThree.{demand-three}
use Rattle.laws_handover.specs.{Called.Resumer, Called.read_back, Called.value_back, Called.writer, Handover.Chained, Handover.Claim, Handover.CutAndResumed}
use Rattle.laws_handover.specs.{Handover.DemandThreeByValue, Handover.DemandThreeRan, Handover.Exact, Handover.Front, Handover.Ran, Handover.ReadBack}
use Rattle.laws_handover.specs.{Handover.ReadByValue, Handover.Suits, Handover.Way, Handover.accepted_events, Handover.all_written, Handover.as_words}
use Rattle.laws_handover.specs.{Handover.bare, Handover.calls_of, Handover.fresh, Handover.resuming, Handover.stream_of, Handover.stream_words}
use Rattle.laws_handover.specs.{Handover.whole_ran, Handover.widest, Ran.ran_written}
use Rattle.read_after.specs.After.{after_outcome}
use Rattle.std.proofs.Common.{le-ltb}
use Rattle.std.specs.Prelude.{Bool, List, false, length, refl, take, true, ℕ, ◌^◌, ◌≡◌, ◌≤◌}
use Rattle.write_resume.specs.{Resume.Resumes, Resume.resume_outcome, Resume.resume_words_outcome, declared.Resumed.Resumed}
use Rattle.write_rules.specs.declared.RawEventSink.{RawEventSink}

-- ---- THE CALLS

module _ (e : Encoding) (f : Front) (header : Bool) (ran : List Ran) (cut : ℕ) where
  -- some bytes that hold es exactly are read so
  abbrev ReadAs : (List ℕ → List Event → Type 0) → List Event → Type 0
  ReadAs Read es = (bytes : List ℕ) → length bytes ≤ 2 ^ 30 → Exact e f bytes es → Read bytes es

  pub ran_as : Chained (writer e f header ran cut) ran
      → Claim e f (stream_of (writer e f header ran cut) (calls_of ran)) (stream_words (writer e f header ran cut) (calls_of ran))
      (accepted_events (writer e f header ran cut) (calls_of ran)) cut
      → Resumer e f header ran cut
      → (Read : List ℕ → List Event → Type 0) → ReadAs Read (whole_ran (writer e f header ran cut) f ran cut) → ReadAs Read (accepted_events (writer e f header ran cut) (calls_of ran))
      → CutAndResumed (writer e f header ran cut) f ran cut Read
  ran_as chained claim resumer Read part all =
      let written = ran_written (writer e f header ran cut) ran chained in
      record {
        of_cut = λ few. part _ few (rw written claim.of_cut);
        of_joined = λ short r by second chained₂ rest few.
            let is = resumer short r by in
            let written₂ = ran_written r.sink second chained₂ in
            all _ few (rw (written, written₂, is) (claim.of_joined (calls_of second) (rw is at rest)));
        of_joined-first = λ first second chained₂ rest few.
            let written₂ = ran_written (fresh e) second chained₂ in
            all _ few (rw (written, written₂) (claim.of_joined-first first (calls_of second) rest));
      }

fresh_fine : (e : Encoding) → in_range_c (fresh_c e) ≡ true
fresh_fine Evt2 = refl
fresh_fine Evt21 = refl
fresh_fine Evt3 = refl

-- `resume_words` over words from which can be resumed
words_sink : (e : Encoding) (bytes : List ℕ) (s : RawEventSink) → length bytes ≤ 2 ^ 30 → resume_outcome (codec_after (fresh_c e) bytes) ≡ give s
    → (r : Resumed) → Resumes e (resume_words_outcome bytes e) r → r.sink ≡ s
unfolding after_outcome
words_sink e bytes s few given r by =
    rw (le-ltb most_bytes (length bytes) few, fresh_fine e, given) at by.is_sink_lem

pub demand_three_ran : DemandThreeRan
demand_three_ran e ran chained cut h =
    let claim = demand-three e (calls_of ran) cut (rw (← ran_written (fresh e) ran chained) h) in
    let way = as_words e widest in
    let back : (es : List Event) → Suits widest es → (bytes : List ℕ) → length bytes ≤ 2 ^ 30 → Exact e bare bytes es → ReadBack way bytes es =
    λ es suits bytes few exact. read_back way bytes es (exact few widest suits) in
    let resumer : Resumer e bare false ran cut =
    λ few r by. let written = ran_written (fresh e) ran chained in
    words_sink e (take cut (all_written ran)) (resuming e bare cut (stream_of (fresh e) (calls_of ran))) few
    (rw written (claim.resumes (rw (← written) few))) r by in
    ran_as e bare false ran cut chained claim resumer (ReadBack way) (back _ claim.whole_suits) (back _ claim.all_suits)

-- ---- BY VALUE

-- calls that read records lent read them by value too
pub by_values : (way : Way) (s : RawEventSink) (f : Front) (ran : List Ran) (cut : ℕ)
    → CutAndResumed s f ran cut (ReadBack way) → CutAndResumed s f ran cut (ReadByValue way)
by_values way s f ran cut read = record {
  of_cut = λ few. value_back way _ _ (read.of_cut few);
  of_joined = λ short r by second chained₂ rest few. value_back way _ _ (read.of_joined short r by second chained₂ rest few);
  of_joined-first = λ first second chained₂ rest few. value_back way _ _ (read.of_joined-first first second chained₂ rest few);
}

pub demand_three_by_value : DemandThreeByValue
demand_three_by_value e ran chained cut h = by_values (as_words e widest) (fresh e) bare ran cut (demand_three_ran e ran chained cut h)
