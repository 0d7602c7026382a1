-- What the functions keep, and which answer is right.
use Rattle.std.specs.Bool.{then_some}
use Rattle.std.specs.Prelude.{◌≡◌, Bool, cond, ℕ, ◌/◌}
use Rattle.std.proofs.Math.Path.{refl}
use Rattle.std.proofs.Common.{sym, subst, ◌∙◌, arith}
use Rattle.std.proofs.Math.Bool.{true, false}
use Rattle.evt_types.specs.declared.{Encoding.Encoding, Refusal.Refusal, Refusal.TheVariants.StateOutOfRange}
use Rattle.std.specs.Prelude.{Some, None, Result, Ok, Err}
use Rattle.evt_types.specs.{Outcome.Outcome, Outcome.refuse, Outcome.give}
use Rattle.evt_codec.specs.{declared.codec.Codec.Codec, Codec.encoding_of, Codec.started_c, Codec.coarse_c}
use Rattle.read_after.specs.After.{after_answer, Afters}
use Rattle.write_rules.specs.{declared.RawEventSink.RawEventSink, Range.grain_of}
use Rattle.write_resume.specs.declared.{Coarse.Coarse, Resumed.Resumed}
use Rattle.write_resume.specs.Resume.{resumable, resume_outcome, resume_after, encoding_or, resume_answer, sink_or, Resumes}

abbrev pub coarse_of : Codec → Coarse
coarse_of c = record {
  encoding = encoding_of c;
  time = coarse_c c;
  half = then_some (started_c c) (coarse_c c / grain_of (encoding_of c));
}

abbrev pub resumed_at : Coarse → RawEventSink
resumed_at k = record {
  version = k.encoding;
  header_written = true;
  n_events = 0;
  last_t = None;
  state = record { time_high = k.half; time_low = None; y = None };
}

abbrev pub resumed_by : Encoding → Outcome RawEventSink → Resumed
resumed_by e o = record { sink = sink_or e o; answer = resume_answer o }

pub resumes_by : (e : Encoding) (o : Outcome RawEventSink) (r : Resumed) → r ≡ resumed_by e o → Resumes e o r
resumes_by e o r is = subst (Resumes e o) (sym is) (go o)
  where
    go : (o : Outcome RawEventSink) → Resumes e o (resumed_by e o)
    go (refuse q) = record { is_told = refl; is_answer = refl; is_sink_lem = refl }
    go (give s) = record { is_told = refl; is_answer = refl; is_sink_lem = refl }

-- which answer is right
held : (started : Bool) (half : ℕ) → then_some started half ≡ cond started (Some half) None
held true half = refl
held false half = refl

module _ (c : Codec) (fit : Bool) (is : fit ≡ resumable c) (r : Resumed) where
  pub resume_fit : fit ≡ true → r ≡ record { sink = resumed_at (coarse_of c); answer = (Ok tt) } → Resumes (encoding_of c) (resume_outcome c) r
  unfolding resume_outcome
  resume_fit h k = resumes_by (encoding_of c) (resume_outcome c) r (k ∙ rw (sym is ∙ h, held (started_c c) (coarse_c c / grain_of (encoding_of c))))

  pub resume_unfit : fit ≡ false → r ≡ resumed_by (encoding_of c) (refuse StateOutOfRange) → Resumes (encoding_of c) (resume_outcome c) r
  unfolding resume_outcome
  resume_unfit h k = resumes_by (encoding_of c) (resume_outcome c) r (k ∙ rw (sym is ∙ h))

given_by : (o : Outcome Codec) (c : Codec) → after_answer o ≡ Ok c → o ≡ give c
given_by (refuse q) c h = let no : ◌≡◌ {A = ℕ} 0 1 = cc in absurd (omega arith)
given_by (give d) c h = cc

refused_by : (o : Outcome Codec) (q : Refusal) → after_answer o ≡ Err q → o ≡ refuse q
refused_by (refuse p) q h = cc
refused_by (give d) q h = let no : ◌≡◌ {A = ℕ} 0 1 = cc in absurd (omega arith)

-- behind the decoder that an answer brings
module _ (e : Encoding) {o : Outcome Codec} {a : Result Codec Refusal} (after : Afters o a) {r : Resumed} where
  pub behind-after : {c : Codec} → a ≡ Ok c → Resumes (encoding_of c) (resume_outcome c) r → Resumes (encoding_or e o) (resume_after o) r
  behind-after {c} h k = rw (given_by o c (sym after.is_answer ∙ h)) k

  pub behind-refused : {q : Refusal} → a ≡ Err q → r ≡ resumed_by e (refuse q) → Resumes (encoding_or e o) (resume_after o) r
  behind-refused {q} h k = rw (refused_by o q (sym after.is_answer ∙ h)) (resumes_by e (refuse q) r k)
