use Rattle.std.proofs.Common.{◌∙◌, ap}
use Rattle.std.specs.Result.{result_ok}
use Rattle.header_text.specs.Number.{number_of}
use Rattle.header_text.proofs.NumberLaws.{read_ok}
use Rattle.header_text.proofs.size.half.Goals as goal

pub returns : goal.returns
returns c = c.ok.ensures.value ∙ ap result_ok c.read_number.ensures ∙ read_ok _ ∙ ap number_of c.trim.ensures
