-- `runs::run::run` meets its promise. What the tests before a return told is found among the facts there, and not by its name.
use borrow.Author.Tests.{le-leb, lt-leb}
use lib.ListN.{length}
use mathlib.Core.Bool.{true}
use mathlib.Core.Path.{◌≡◌}
use Rattle.messages.proofs.Chain.{failed, held}
use Rattle.rules.specs.Run.{step_count}
use Rattle.runs.proofs.Refusals.{few_bytes, no_steps, not_whole, plays}
use Rattle.runs.proofs.run.run.Goals as goal

pub returns-then-broken : goal.returns-then-broken
returns-then-broken c =
    not_whole c.args.answers c.args.t.now c.args.steps.now c.args.verdicts.now (failed c.is_whole-broken.ensures c.if-broken.true)

pub returns-then-uneven : goal.returns-then-uneven
returns-then-uneven c =
    let whole_table : c.is_whole-broken.result ≡ true = cc in
    no_steps c.args.answers c.args.t.now c.args.steps.now c.args.verdicts.now
    (held c.is_whole-broken.ensures whole_table) (failed c.are_whole_steps-uneven.ensures c.if-uneven.true)

pub returns-then-short : goal.returns-then-short
returns-then-short c =
    let whole_table : c.is_whole-broken.result ≡ true = cc in
    let even : c.are_whole_steps-uneven.result ≡ true = cc in
    few_bytes c.args.answers c.args.t.now c.args.steps.now c.args.verdicts.now
    (held c.is_whole-broken.ensures whole_table) (held c.are_whole_steps-uneven.ensures even)
    (lt-leb (step_count c.args.steps.now) (length c.args.verdicts.now) c.if-short.true)

pub returns : goal.returns
returns c =
    plays c.args.answers c.args.t.now c.args.steps.now c.args.verdicts.now
    (held c.is_whole-broken.ensures c.if-broken.false) (held c.are_whole_steps-uneven.ensures c.if-uneven.false)
    c.play.result c.play.new.t c.play.new.verdicts
    (le-leb (step_count c.args.steps.now) (length c.args.verdicts.now) c.if-short.false)
    c.play.ensures
