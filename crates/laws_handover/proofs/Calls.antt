-- Laws of specs/Calls.antt.
use Rattle.evt_types.specs.declared.Encoding.{Encoding}
use Rattle.laws_formats.proofs.Appends.{fresh_understood}
use Rattle.laws_formats.specs.{Appends.Understood, Appends.notes-all, Either.fresh_of}
use Rattle.laws_handover.proofs.EventWords.{append_typed}
use Rattle.laws_handover.specs.{Calls.accepted_rise, Calls.groups_events, Calls.groups_of, Calls.groups_words, Handover.Call, Handover.Typed}
use Rattle.laws_handover.specs.{Handover.accepted_events, Handover.stream_words}
use Rattle.laws_stream.specs.Machine.{All, notes}
use Rattle.std.proofs.Common.{◌∙◌}
use Rattle.std.specs.Prelude.{Bool, List, ◌≡◌}
use Rattle.write_append.specs.Rising.{Rises}
use Rattle.write_rules.specs.{Rules.fresh_sink, declared.RawEventSink.RawEventSink}

-- ---- the accepted appends as groups of events

-- EACH ACCEPTED EVENT stands in one of them
pub stream-notes : (s : RawEventSink) (cs : List Call) → notes (stream_words s cs) ≡ accepted_events s cs
stream-notes s cs = rw (groups_words s cs) (notes-all s.version s.state (groups_of s cs) ∙ groups_events s cs)

pub stream_typed : (s : RawEventSink) (cs : List Call) → All (Typed s.version) (stream_words s cs)
stream_typed s cs = rw (groups_words s cs) (append_typed s.version s.state (groups_of s cs))

-- ---- of a fresh writer

module _ (e : Encoding) (header : Bool) (cs : List Call) where
  abbrev writer : RawEventSink
  writer = fresh_sink e header

  pub fresh_rise : Rises 0 (accepted_events writer cs)
  fresh_rise = accepted_rise writer cs

  pub stream_understood : Understood e (fresh_of e) (stream_words writer cs)
  stream_understood = rw (groups_words writer cs) (fresh_understood e (groups_of writer cs) (rw (groups_events writer cs) fresh_rise))
