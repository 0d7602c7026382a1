use Rattle.std.proofs.Common.{sym, ◌∙◌}
use Rattle.c_values.specs.Flags.{passed}
use Rattle.c_decoder.specs.{Decoder.is_decoder, Decoder.codec_in}
use Rattle.c_resume.proofs.PromisesLaws.{resumes_decoder}
use Rattle.c_resume.proofs.resume.resume_decoder.Goals as goal

pub returns-in-Ok : goal.returns-in-Ok
returns-in-Ok c =
    let d = c.args.decoder in
    let p = passed (is_decoder d) (codec_in d) c.in-Ok.codec _ (sym c.try_from.ensures ∙ c.in-Ok.is) in
    c.from.ensures ∙ resumes_decoder d p.0 _ p.1 _ c.resume.ensures
