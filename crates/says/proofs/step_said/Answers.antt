-- What `says::step_said` says of a line without its line feed, and of one with it.
use Rattle.std.proofs.Common.{◌∙◌}
use Rattle.says.proofs.Said.{said_ended, said_unended}
use Rattle.says.proofs.step_said.Goals as goal

pub returns-in_err-body : goal.returns-in_err-body
returns-in_err-body c = c.from_residual.ensures ∙ said_unended c.args.line.now c.in_err-body.ensures

pub returns : goal.returns
returns c =
    c.numbers_said.ensures ∙ said_ended c.args.line.now c.in_ok-body.ensures.0 c.in_ok-body.field-0.now c.in_ok-body.ensures.1
