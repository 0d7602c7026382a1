-- DEMAND 3 OF THE C INTERFACE, proved: it follows from that of the library's calls.
use Rattle.c_handover.proofs.Reading.{read_back}
use Rattle.c_handover.specs.{Statement.ChainedC, Statement.CutAndResumedC, Statement.DemandThreeC, Statement.DemandThreeHeadedC, Statement.RanC}
use Rattle.c_handover.specs.{Statement.ResumedByC, Statement.all_written_c, Statement.fresh_numbers, Writing.calls_are, Writing.chained, Writing.ran_from}
use Rattle.c_handover.specs.{Writing.written}
use Rattle.c_resume.specs.{Resume.resumed_of, declared.resume.PropheseeResumed.PropheseeResumed}
use Rattle.c_values.specs.Encoding.{encoding_back, number_known}
use Rattle.c_writer.specs.{Laws.sink_back, Writer.flat_sink}
use Rattle.evt_types.specs.{Outcome.Outcome, Outcome.give, Outcome.refuse, declared.Encoding.Encoding}
use Rattle.laws_handover.proofs.{Called.demand_three_ran, Headed.demand_three_headed_ran}
use Rattle.laws_handover.specs.Handover.{CutAndResumed, Front, ReadBack, ResumedBy, Way, as_recording, as_words, bare, fresh, headed, widest}
use Rattle.std.proofs.Common.{ap, ◌∙◌}
use Rattle.std.specs.Prelude.{Bool, List, false, refl, take, true, ℕ, ◌≡◌}
use Rattle.write_resume.specs.{Resume.Resumes, Resume.raw_encoding, Resume.resume_answer, Resume.resume_raw_outcome, Resume.resume_words_outcome}
use Rattle.write_resume.specs.{Resume.sink_or, declared.Resumed.Resumed}
use Rattle.write_rules.specs.{Rules.fresh_sink, declared.RawEventSink.RawEventSink}

-- the fresh writer is the library's
fresh-is : (e : Encoding) (header : Bool) → fresh_numbers e header ≡ flat_sink (fresh_sink e header)
fresh-is e true = refl
fresh-is e false = refl

-- ---- the writer that was returned is the library's, in numbers

-- an answer of the library's with this outcome
abbrev resumed_by : Encoding → Outcome RawEventSink → Resumed
resumed_by e o = record { sink = sink_or e o; answer = resume_answer o }

promised : (e : Encoding) (o : Outcome RawEventSink) → Resumes e o (resumed_by e o)
promised e (refuse r) = record { is_told = refl; is_answer = refl; is_sink_lem = refl }
promised e (give s) = record { is_told = refl; is_answer = refl; is_sink_lem = refl }

sink_numbers : (e : Encoding) (o : Outcome RawEventSink) → (resumed_of (flat_sink (fresh_sink e false)) o).sink ≡ flat_sink (sink_or e o)
sink_numbers e (refuse r) = refl
sink_numbers e (give s) = refl

abbrev outcome_by : Encoding → Front → List ℕ → Outcome RawEventSink
outcome_by e bare bytes = resume_words_outcome bytes e
outcome_by e (headed w h) bytes = resume_raw_outcome bytes

abbrev encoding_there : Encoding → Front → List ℕ → Encoding
encoding_there e bare bytes = e
encoding_there e (headed w h) bytes = raw_encoding bytes

library-by : (e : Encoding) (f : Front) (bytes : List ℕ) → ResumedBy e f bytes (resumed_by (encoding_there e f bytes) (outcome_by e f bytes))
library-by e bare bytes = promised e (resume_words_outcome bytes e)
library-by e (headed w h) bytes = promised (raw_encoding bytes) (resume_raw_outcome bytes)

sink-by : (e : Encoding) (f : Front) (bytes : List ℕ) (r : PropheseeResumed) → ResumedByC e f bytes r
    → r.sink ≡ flat_sink (sink_or (encoding_there e f bytes) (outcome_by e f bytes))
sink-by e bare bytes r by =
    ap (λ (r : PropheseeResumed). r.sink) (rw (number_known e, encoding_back e, fresh-is e false) at by) ∙ sink_numbers e (resume_words_outcome bytes e)
sink-by e (headed w h) bytes r by = ap (λ (r : PropheseeResumed). r.sink) by ∙ sink_numbers (raw_encoding bytes) (resume_raw_outcome bytes)

-- what is read of the library's calls is read of these
read-c : (e : Encoding) (header : Bool) (f : Front) (way : Way) (ran : List RanC) (chain : ChainedC (flat_sink (fresh_sink e header)) ran) (cut : ℕ)
    → CutAndResumed (fresh_sink e header) f (ran_from (fresh_sink e header) ran) cut (ReadBack way) → CutAndResumedC e header f ran cut way
read-c e header f way ran chain cut read =
    let s = fresh_sink e header in
    let all = written s ran chain in
    let calls = calls_are s ran in
    record {
      of_cut = λ few. read_back way _ _ (rw (all, calls) at (read.of_cut (rw all few)));
      of_joined = λ short r by second chain₂ rest few.
          let left = take cut (all_written_c ran) in
          let u = sink_or (encoding_there e f left) (outcome_by e f left) in
          let is = sink-by e f left r by in
          let chain₃ : ChainedC (flat_sink u) second = rw is at chain₂ in
          let all₂ = written u second chain₃ in
          let calls₂ = calls_are u second in
          let rest₂ = rw (is, sink_back u) at rest in
          read_back way _ _ (rw (all, all₂, calls) at
          (read.of_joined (rw all short) (resumed_by (encoding_there e f left) (outcome_by e f left)) (rw all (library-by e f left)) (ran_from u second)
          (chained u second chain₃) (rw (calls, calls₂) rest₂) (rw (all, all₂) few)));
      of_joined-first = λ first second chain₂ rest few.
          let all₂ = written (fresh e) second chain₂ in
          let calls₂ = calls_are (fresh e) second in
          read_back way _ _ (rw (all, all₂, calls) at
          (read.of_joined-first (rw calls first) (ran_from (fresh e) second) (chained (fresh e) second chain₂) (rw (calls, calls₂) rest)
          (rw (all, all₂) few)));
    }

pub demand-three-c : DemandThreeC
demand-three-c e ran chain cut h =
    read-c e false bare (as_words e widest) ran chain cut
    (demand_three_ran e (ran_from (fresh e) ran) (chained (fresh e) ran chain) cut (rw (written (fresh e) ran chain) h))

pub demand-three-headed-c : DemandThreeHeadedC
demand-three-headed-c e ran chain w h cut b le =
    let s = fresh_sink e true in
    read-c e true (headed w h) (as_recording e w h) ran chain cut
    (demand_three_headed_ran e (ran_from s ran) (chained s ran chain) w h cut (rw (calls_are s ran) b) (rw (written s ran chain) le))
