-- The numbers that resuming answers are always a writer's, and read back as the library's own.
use Rattle.std.specs.Prelude.{◌≡◌, true, false}
use Rattle.evt_types.specs.{declared.Encoding.Encoding, Outcome.Outcome, Outcome.refuse, Outcome.give}
use Rattle.write_rules.specs.{declared.RawEventSink.RawEventSink, Rules.fresh_sink}
use Rattle.write_resume.specs.Resume.{sink_or}
use Rattle.c_writer.specs.{Writer.is_sink, Writer.sink_of, Writer.flat_sink, Laws.sink_back, Laws.sink_flat}
use Rattle.c_resume.specs.Resume.{resumed_of}

module _ (e : Encoding) where
  pub resumed_back : (o : Outcome RawEventSink) → sink_of (resumed_of (flat_sink (fresh_sink e false)) o).sink ≡ sink_or e o
  resumed_back (refuse r) = sink_back (fresh_sink e false)
  resumed_back (give s) = sink_back s

  pub resumed_sink_lem : (o : Outcome RawEventSink) → is_sink (resumed_of (flat_sink (fresh_sink e false)) o).sink ≡ true
  resumed_sink_lem (refuse r) = sink_flat (fresh_sink e false)
  resumed_sink_lem (give s) = sink_flat s
