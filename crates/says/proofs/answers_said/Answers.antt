-- What `says::answers_said` says at each of its returns.
use Rattle.std.proofs.Common.{◌∙◌, arith}
use Rattle.says.proofs.Said.{answers_read, no_answers, no_start}
use Rattle.says.proofs.answers_said.Goals as goal

pub returns-in_err-body : goal.returns-in_err-body
returns-in_err-body c = c.from_residual.ensures ∙ no_answers c.args.line.now 0 c.in_err-body.ensures

pub returns-in_err-digits : goal.returns-in_err-digits
returns-in_err-digits c =
    c.from_residual-in_err-digits.ensures
    ∙ no_start c.args.line.now c.in_ok-body.field-0.now c.in_ok-body.ensures.1 c.in_err-digits.ensures.cases

pub returns : goal.returns
returns c =
    let found = c.in_ok-digits.ensures.cases in
    c.read_number.ensures
    ∙ answers_read c.args.line.now c.in_ok-body.field-0.now c.in_ok-body.ensures.1 c.in_ok-body.ensures.0 (omega arith) found.0
    c.in_ok-digits.digits.now found.1
