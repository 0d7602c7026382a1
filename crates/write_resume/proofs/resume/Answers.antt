use Rattle.std.proofs.Common.{◌≡◌, ◌∙◌}
use Rattle.write_resume.specs.{Resume.resumable, Ends.resume_fit, Ends.resume_unfit}
use Rattle.write_resume.proofs.resume.Goals as goal

pub returns-then-is_resumable : goal.returns-then-is_resumable
returns-then-is_resumable c =
    let fit : c.is_resumable.result ≡ resumable c.args.codec = c.is_resumable.ensures ∙ rw c.coarse_of-coarse.ensures in
    resume_fit _ _ fit _ c.if-is_resumable.true (rw (c.resumed_at.ensures, c.coarse_of-coarse.ensures))

pub returns : goal.returns
returns c =
    let fit : c.is_resumable.result ≡ resumable c.args.codec = c.is_resumable.ensures ∙ rw c.coarse_of-coarse.ensures in
    resume_unfit _ _ fit _ c.if-is_resumable.false (c.refused.ensures ∙ rw c.coarse_of-coarse.ensures)
