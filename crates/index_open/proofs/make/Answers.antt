use Rattle.std.proofs.Common.{◌≡◌, ap, ◌∙◌, List, ◌++◌, take, drop, arith, length-take}
use Rattle.index_build.specs.declared.{Builder.Builder, Checkpoint.Checkpoint}
use Rattle.std.specs.Prelude.{Ok}
use Rattle.index_build.specs.{Build.builder_at, Build.concluded, Build.made_at, Index.firsts, Stage.laid_to}
use Rattle.index_build.specs.Stage.{stage_fit, stage_next, stage_start, written_to}
use Rattle.index_open.proofs.make.Goals as goal

pub loop-record-init : goal.loop-record-init
loop-record-init c = stage_start c.args.recording.now c.args.first c.requires (take c.args.first.cap c.args.records.now)

pub advance-requires : goal.advance-requires
advance-requires c =
    let a = c.args in
    let p = c.loop-record in
    stage_fit a.recording.now a.first c.requires (take a.first.cap a.records.now) p.record-index
    (omega (arith, length-take a.first.cap a.records.now)) p.builder p.record-items p.invariant

pub loop-record-preserved : goal.loop-record-preserved
loop-record-preserved c =
    let a = c.args in
    let p = c.loop-record in
    stage_next a.recording.now a.first c.requires (take a.first.cap a.records.now) p.record-index
    (omega (arith, length-take a.first.cap a.records.now)) p.builder p.record-items p.invariant (omega arith) _ _ c.advance.ensures

pub returns : goal.returns
returns c =
    let a = c.args in
    let p = c.loop-record in
    let end : p.record-index ≡ a.first.cap = omega (arith, length-take a.first.cap a.records.now) in
    let last = p.invariant.is_builder ∙ ap (builder_at a.recording.now a.first) end in
    let laid = p.invariant.laid ∙ ap (laid_to a.recording.now a.first (take a.first.cap a.records.now)) end in
    record {
      is_answer = c.conclude.ensures ∙ ap (λ (u : Builder). Ok (concluded u)) last;
      laid =
          ap (λ (zs : List Checkpoint). zs ++ drop a.first.cap a.records.now) laid
          ∙ written_to (firsts (made_at a.recording.now a.first) a.first.cap) a.records.now a.first.cap;
    }
