use Rattle.std.proofs.Common.{◌≡◌, length, rules, arith, length-take}
use Rattle.index_build.specs.Index.{open_raw_outcome}
use Rattle.index_fixed.specs.Laws.{opens_whole}
use Rattle.index_fixed.proofs.open_into.Goals as goal

pub returns : goal.returns
returns c =
    let a = c.args in
    let made = c.open-answer in
    let all : length a.records ≡ 64 = search rules in
    let kept : length made.new.records ≡ a.n = omega (arith, made.auto.records, length-take a.n a.records) in
    opens_whole (open_raw_outcome a.recording.now a.options) made.result a.records made.new.records a.n (omega arith) kept made.ensures
