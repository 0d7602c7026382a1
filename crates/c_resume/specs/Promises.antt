-- From what the library promises to what the C interface does.
use Rattle.std.specs.Prelude.{◌≡◌, refl, false}
use Rattle.std.proofs.Common.{◌∙◌}
use Rattle.evt_types.specs.{declared.Encoding.Encoding, Outcome.Outcome, Outcome.refuse, Outcome.give}
use Rattle.write_rules.specs.{declared.RawEventSink.RawEventSink, Rules.fresh_sink}
use Rattle.write_resume.specs.{declared.Resumed.Resumed, Resume.Resumes}
use Rattle.write_resume.specs.Resume.{sink_or, resume_verdict, told_resume}
use Rattle.c_writer.specs.Writer.{flat_sink}
use Rattle.c_resume.specs.{declared.resume.PropheseeResumed.PropheseeResumed, Resume.resumed_of}

abbrev pub resumed_numbers : Resumed → PropheseeResumed
resumed_numbers r = record { sink = flat_sink r.sink; refusal = (told_resume r.answer).number }

pub resumed_numbers_lem : {e : Encoding} {o : Outcome RawEventSink} {r : Resumed} → Resumes e o r
    → resumed_numbers r ≡ resumed_of (flat_sink (fresh_sink e false)) o
resumed_numbers_lem {e} {o} h = (λ i. record { sink = flat_sink (h.is_sink_lem i); refusal = (h.is_told i).number }) ∙ go o
  where
    go : (o : Outcome RawEventSink)
        → record { sink = flat_sink (sink_or e o); refusal = (resume_verdict o).number } ≡ resumed_of (flat_sink (fresh_sink e false)) o
    go (refuse r) = refl
    go (give s) = refl
