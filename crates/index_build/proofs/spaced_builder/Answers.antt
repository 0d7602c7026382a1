use Rattle.index_build.specs.Open.{ready_known, ready_none, ready_surveyed, ready_rest}
use Rattle.index_build.proofs.spaced_builder.Goals as goal

pub survey-tally-requires : goal.survey-tally-requires
survey-tally-requires c =
    ready_rest c.args.recording.now c.args.start c.args.encoding c.new-codec.result c.new-codec.ensures c.requires.0

pub returns-then-tally-eq0 : goal.returns-then-tally-eq0
returns-then-tally-eq0 c =
    let tally = c.survey-tally in
    let window = c.whole_window in
    let fresh = c.new-codec in
    let need = c.record_count-need in
    let a = c.args in
    ready_none a.recording.now a.start a.encoding a.size a.spacing a.room c.requires.0 c.requires.1.1
    need.result need.ensures c.if-room-need.false
    c.in-None.is fresh.result fresh.ensures
    window.result window.ensures tally.result tally.ensures c.if-tally-eq0.true

pub returns-in-Some : goal.returns-in-Some
returns-in-Some c =
    let source = c.uncounted-source in
    let need = c.record_count-need in
    let a = c.args in
    ready_known a.recording.now a.start a.encoding a.size a.spacing a.room c.requires.0 c.requires.1.1
    need.result need.ensures c.if-room-need.false _ c.in-Some.is
    source.result source.ensures c.first_builder.result c.first_builder.ensures

pub returns-else-tally-eq0 : goal.returns-else-tally-eq0
returns-else-tally-eq0 c =
    let source = c.uncounted-source-in-None in
    let tally = c.survey-tally in
    let window = c.whole_window in
    let fresh = c.new-codec in
    let enough = c.if-room-need in
    let need = c.record_count-need in
    let a = c.args in
    ready_surveyed a.recording.now a.start a.encoding a.size a.spacing a.room c.requires.0 c.requires.1.1
    need.result need.ensures enough.false c.in-None.is fresh.result fresh.ensures window.result window.ensures
    tally.result tally.ensures c.if-tally-eq0.false source.result source.ensures c.first_builder-in-None.result c.first_builder-in-None.ensures
