-- What `steptext::read::gather` says at each of its returns, and that a turn keeps what the loop keeps.
use Rattle.std.proofs.Common.{Err, [], is_some, true, ap, ◌+◌, ◌≡◌, ◌∙◌, rules, subst, sym}
use Rattle.lines.specs.Handed.{lines_left}
use Rattle.steptext.specs.Read.{read_steps}
use Rattle.steptext.specs.Told.{Gathers}
use Rattle.steptext.proofs.Gathered.{over_and_done, refused_line_lem, refused_text, turn, a_step, no_step, some_step}
use Rattle.steptext.specs.declared.told.TextRefusal.TheVariants.{Unreadable}
use Rattle.steptext.proofs.read.gather.Goals as goal

pub returns-in_err-numbers : goal.returns-in_err-numbers
returns-in_err-numbers c =
    let none = no_step c.step_said-said.result (Unreadable (c.loop-line.count + 2)) c.in_err-numbers.field-0.0 c.in_err-numbers.ensures.value in
    let f : c.from_residual.result ≡ Err c.in_err-numbers.field-0.0 = search rules in
    subst (λ r. Gathers (read_steps c.args.answers [] (lines_left c.args.reader)) r c.loop-line.t) (ap Err (sym none.1) ∙ sym f)
    (refused_line_lem (lines_left c.args.reader) c.args.answers c.args.t.now c.loop-line.t (lines_left c.loop-line.line-iterator) c.loop-line.count
    c.loop-line.invariant c.in-Some.line.now (lines_left c.next.new.self) c.in-Some.ensures.steps.0 (none.0 ∙ c.step_said-said.ensures))

pub returns-then-count-eq-MOST_STEPS : goal.returns-then-count-eq-MOST_STEPS
returns-then-count-eq-MOST_STEPS c =
    let found : is_some c.step_said-said.result ≡ true = search rules in
    let step = a_step c.step_said-said.result found in
    refused_text (lines_left c.args.reader) c.args.answers c.args.t.now c.loop-line.t (lines_left c.loop-line.line-iterator) c.loop-line.count
    c.loop-line.invariant c.in-Some.line.now (lines_left c.next.new.self) c.in-Some.ensures.steps.0 step.0 (step.1 ∙ c.step_said-said.ensures)
    c.if-count-eq-MOST_STEPS.true

pub loop-line-preserved : goal.loop-line-preserved
loop-line-preserved c =
    turn (lines_left c.args.reader) c.args.answers c.args.t.now c.loop-line.t (lines_left c.loop-line.line-iterator) c.loop-line.count
    c.loop-line.invariant c.in-Some.line.now (lines_left c.next.new.self) c.in-Some.ensures.steps.0 c.in_ok-numbers.numbers
    (some_step c.step_said-said.result (Unreadable (c.loop-line.count + 2)) c.in_ok-numbers.numbers c.in_ok-numbers.ensures.value ∙ c.step_said-said.ensures)
    c.if-count-eq-MOST_STEPS.false c.requires c.copy_into.new.t c.copy_into.ensures c.copy_into.auto.t

pub returns : goal.returns
returns c =
    over_and_done (lines_left c.args.reader) c.args.answers c.args.t.now c.loop-line.t (lines_left c.loop-line.line-iterator) c.loop-line.count
    c.loop-line.invariant c.in-None.ensures.steps.0.0
