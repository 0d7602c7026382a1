-- By the codec's case: so many words make a block of 64 bytes.
use Rattle.std.proofs.Common.{refl, ◌∙◌, arith}
use Rattle.evt_codec.specs.declared.codec.Codec.TheVariants.{Evt2, Evt21, Evt3}
use Rattle.trigger_count.specs.Marks.{trigger_count_lem}
use Rattle.trigger_count.proofs.count.Goals as goal

pub of_size-requires : goal.of_size-requires
of_size-requires c = record { words = 16; pos = omega arith; whole = refl }

pub of_size-requires-in-Evt21 : goal.of_size-requires-in-Evt21
of_size-requires-in-Evt21 c = record { words = 8; pos = omega arith; whole = refl }

pub of_size-requires-in-Evt3 : goal.of_size-requires-in-Evt3
of_size-requires-in-Evt3 c = record { words = 32; pos = omega arith; whole = refl }

pub returns-in-Evt2 : goal.returns-in-Evt2
returns-in-Evt2 c = rw c.in-Evt2.is (c.of_size.ensures ∙ trigger_count_lem (Evt2 _) c.args.bytes.now)

pub returns-in-Evt21 : goal.returns-in-Evt21
returns-in-Evt21 c = rw c.in-Evt21.is (c.of_size-in-Evt21.ensures ∙ trigger_count_lem (Evt21 _) c.args.bytes.now)

pub returns-in-Evt3 : goal.returns-in-Evt3
returns-in-Evt3 c = rw c.in-Evt3.is (c.of_size-in-Evt3.ensures ∙ trigger_count_lem (Evt3 _) c.args.bytes.now)
