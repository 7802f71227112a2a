-- What `steptext::read::read_answers` says of a text without a line, and of one with line 1.
use Rattle.lines.specs.Handed.{lines_left}
use Rattle.steptext.proofs.Whole.{begins, begins_with_none}
use Rattle.steptext.proofs.read.read_answers.Goals as goal

pub returns-in_err-next : goal.returns-in_err-next
returns-in_err-next c = begins_with_none (lines_left c.args.reader.now) _ _ c.in_err-next.ensures.steps.0.0 c.from_residual.ensures

pub returns : goal.returns
returns c =
    begins (lines_left c.args.reader.now) c.in_ok-next.field-0.now (lines_left c.next.new.self) _ c.in_ok-next.ensures.steps.0 c.answers_said.ensures
