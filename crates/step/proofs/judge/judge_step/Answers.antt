-- `step::judge::judge_step` meets its promise.
use Rattle.std.proofs.Common.{rules, ◌≡◌, ◌∙◌, Err, Result, subst, sym, ap}
use Rattle.messages.specs.declared.parts.Place.{Place}
use Rattle.faults.specs.Faults.{fault_number, faults, fine}
use Rattle.record.specs.Table.{messages, room_of}
use Rattle.refusals.specs.Numbers.{refusal_number}
use Rattle.refusals.specs.declared.Refusal.{Refusal}
use Rattle.rules.specs.Codes.{row_of}
use Rattle.rules.specs.Step.{Outcome, arguments_of, code_of, judge}
use Rattle.step.specs.Answer.{Answered}
use Rattle.step.proofs.Outcomes.{faulty, not_fine, past_arguments, refuses, unknown}
use Rattle.step.proofs.judge.judge_step.Goals as goal

pub returns-then-not-is_known : goal.returns-then-not-is_known
returns-then-not-is_known c =
    refuses c.args.n c.args.t.now Refusal.Code
    (unknown c.args.answers c.args.n c.args.t.now c.args.s.now (sym c.if-not-is_known.ensures))

-- What the arguments come to is found among the facts there, and not by its name.
pub returns-in_err-fault : goal.returns-in_err-fault
returns-in_err-fault c =
    let n = c.args.n in
    let t = c.args.t.now in
    let s = c.args.s.now in
    let e = c.in_err-fault.field-0.0 in
    let told : c.from_residual.result ≡ Err e = search rules in
    let found : fault_number (Err e) ≡ faults n (messages n t) (row_of (code_of s)).takes (arguments_of s) = search rules in
    subst (λ (r : Result Place Refusal). Answered n t (judge c.args.answers (room_of t) (messages n t) s) r t) (sym told)
    (refuses n t e (faulty c.args.answers n t s (sym c.if-not-is_known.ensures) (refusal_number e) found (not_fine e)))

pub returns : goal.returns
returns c =
    let n = c.args.n in
    let t = c.args.t.now in
    let s = c.args.s.now in
    let passed : fine ≡ faults n (messages n t) (row_of (code_of s)).takes (arguments_of s) = search rules in
    subst (λ (o : Outcome). Answered c.args.n c.args.t.now o c.decide.result c.decide.new.t)
    (sym (past_arguments c.args.answers c.args.n c.args.t.now c.args.s.now (sym c.if-not-is_known.ensures) passed))
    c.decide.ensures
