use Rattle.std.proofs.Common.{arith, ◌∙◌}
use Rattle.laws_stream.specs.Words.{bytes}
use Rattle.write_buffer.specs.Storing.{stored, le_bytes}
use Rattle.write_buffer.proofs.put32.Goals as goal

pub returns-then-out-gt0 : goal.returns-then-out-gt0
returns-then-out-gt0 c =
    stored c.args.out.now c.copy_from_slice.new.self (bytes 4 c.args.w) c.args.at _ (c.copy_from_slice.ensures.after ∙ c.to_le_bytes.ensures ∙ le_bytes 4 _) (omega arith)
    (c.requires.1 c.if-out-gt0.true)
