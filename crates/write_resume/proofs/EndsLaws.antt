-- Laws of specs/Ends.antt.
use Rattle.evt_codec.specs.{Codec.codec_after, Codec.encoding_after, Codec.encoding_fresh, Codec.fresh_c, Codec.in_range_c, declared.codec.Codec.Codec}
use Rattle.evt_types.specs.{Num.most_bytes, Outcome.give, Outcome.refuse, declared.Encoding.Encoding, declared.Refusal.TheVariants.StateOutOfRange}
use Rattle.evt_types.specs.{declared.Refusal.TheVariants.TooLong}
use Rattle.read_after.specs.After.{after_outcome}
use Rattle.std.proofs.{Common.subst, Common.◌∙◌, Math.Bool.false, Math.Bool.true, Math.Path.refl}
use Rattle.std.specs.Prelude.{Bool, List, cond, length, ltb, ℕ, ◌≡◌}
use Rattle.write_resume.specs.{Resume.Resumes, Resume.encoding_or, Resume.resume_after, Resume.resume_words_outcome, declared.Resumed.Resumed}

-- words leave the encoding as it is
module _ (e : Encoding) (words : List ℕ) where
  words_encoding : encoding_or e (after_outcome (fresh_c e) words) ≡ e
  unfolding after_outcome
  words_encoding = go (ltb most_bytes (length words)) (in_range_c (fresh_c e))
    where
      go : (long fit : Bool) → encoding_or e (cond long (refuse TooLong) (cond fit (give (codec_after (fresh_c e) words)) (refuse StateOutOfRange))) ≡ e
      go true fit = refl
      go false true = encoding_after (fresh_c e) words ∙ encoding_fresh e
      go false false = refl

  pub behind-words : {d : Codec} → d ≡ fresh_c e → {r : Resumed} → Resumes (encoding_or e (after_outcome d words)) (resume_after (after_outcome d words)) r
      → Resumes e (resume_words_outcome words e) r
  behind-words f {r} h = subst (λ (k : Encoding). Resumes k (resume_words_outcome words e) r) words_encoding (rw f at h)
