use Rattle.std.proofs.Common.{◌≡◌, ◌∙◌, ap, subst, ℕ, take, arith, length-take}
use Rattle.c_index.specs.Records.{entries_of}
use Rattle.c_index.specs.Making.{Stage, stage_start, stage_fit, stage_next, makes}
use Rattle.c_index.proofs.opening.make_records.Goals as goal

pub loop-entries-init : goal.loop-entries-init
loop-entries-init c = stage_start c.args.recording.now c.args.first c.requires (take c.args.first.cap c.args.records.now)

pub advance-requires : goal.advance-requires
advance-requires c =
    let a = c.args in
    let p = c.loop-entries in
    stage_fit a.recording.now a.first c.requires (take a.first.cap a.records.now) p.entries-index
    (omega (arith, length-take a.first.cap a.records.now)) p.builder p.entries-items p.invariant

pub loop-entries-preserved : goal.loop-entries-preserved
loop-entries-preserved c =
    let a = c.args in
    let p = c.loop-entries in
    stage_next a.recording.now a.first c.requires (take a.first.cap a.records.now) p.entries-index
    (omega (arith, length-take a.first.cap a.records.now)) p.builder p.entries-items p.invariant (omega arith) _ _ c.advance.ensures
    _ (c.from.ensures ∙ ap entries_of c.from-record.ensures)

pub returns : goal.returns
returns c =
    let a = c.args in
    let p = c.loop-entries in
    let end : p.entries-index ≡ a.first.cap = omega (arith, length-take a.first.cap a.records.now) in
    makes a.recording.now a.first c.requires a.records.now p.builder p.entries-items
    (subst (λ (k : ℕ). Stage a.recording.now a.first (take a.first.cap a.records.now) k p.builder p.entries-items) end p.invariant)
