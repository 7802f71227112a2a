-- `step::judge::step` meets its promise.
use Rattle.std.proofs.Common.{subst, sym}
use Rattle.refusals.specs.declared.Refusal.{Refusal}
use Rattle.rules.specs.Step.{Outcome}
use Rattle.step.proofs.Outcomes.{lawful_judged, refuses, unlawful}
use Rattle.step.specs.Answer.{Answered}
use Rattle.step.proofs.judge.step.Goals as goal

pub returns-then-not-is_lawful_record : goal.returns-then-not-is_lawful_record
returns-then-not-is_lawful_record c =
    refuses c.args.n c.args.t.now Refusal.Record
    (unlawful c.args.answers c.args.n c.args.t.now c.args.s (sym c.if-not-is_lawful_record.ensures))

pub returns : goal.returns
returns c =
    subst (λ (o : Outcome). Answered c.args.n c.args.t.now o c.judge_step.result c.judge_step.new.t)
    (lawful_judged c.args.answers c.args.n c.args.t.now c.args.s (sym c.if-not-is_lawful_record.ensures)) c.judge_step.ensures
