-- What `steptext::read::read_text` says at each of its returns.
use Rattle.std.proofs.Common.{Err, ap, arith, inl, inr, length, rules, subst, sym, ◌∙◌, ◌≡◌}
use Rattle.steptext.specs.Read.{read_lines, read_text}
use Rattle.steptext.specs.Told.{Leaves}
use Rattle.steptext.proofs.Whole.{all_gathered, at_front, none_gathered, refused, unread_first}
use Rattle.steptext.proofs.read.read_text.Goals as goal
use Rattle.steptext.proofs.read.read_text.Goals.{
  then-text-gt-MOST_BYTES-via-then-text-gt-MOST_BYTES,
  then-text-gt-MOST_BYTES-via-else-text-gt-MOST_BYTES+then-steps,
}

pub returns-then-text-gt-MOST_BYTES : goal.returns-then-text-gt-MOST_BYTES
returns-then-text-gt-MOST_BYTES c =
    refused c.args.text.now c.args.steps.now
    (elim c.then-text-gt-MOST_BYTES.branch [
      | then-text-gt-MOST_BYTES-via-then-text-gt-MOST_BYTES w ↦ inl (omega arith)
      | then-text-gt-MOST_BYTES-via-else-text-gt-MOST_BYTES+then-steps w ↦ inr (omega arith)
    ])

pub returns-in_default : goal.returns-in_default
returns-in_default c =
    unread_first c.args.text.now c.args.steps.now (omega arith) (omega arith)
    (ap read_lines (sym (at_front c.new-reader.result c.args.text c.new-reader.ensures.lent c.new-reader.ensures.position)) ∙ c.in_default.ensures)

pub returns-in_err-said : goal.returns-in_err-said
returns-in_err-said c =
    let e : c.from_residual.result ≡ Err c.in_err-said.field-0.0 = search rules in
    subst (λ r. Leaves (read_text (length c.args.steps.now) c.args.text.now) c.args.steps.now r c.args.steps.now) (sym e)
    (none_gathered c.args.text.now c.args.steps.now (omega arith) (omega arith) _
    (ap read_lines (sym (at_front c.new-reader.result c.args.text c.new-reader.ensures.lent c.new-reader.ensures.position)) ∙ c.in-Some.ensures)
    c.in_err-said.field-0.0 c.gather.new.t c.in_err-said.ensures)

pub returns : goal.returns
returns c =
    all_gathered c.args.text.now c.args.steps.now (omega arith) (omega arith) _
    (ap read_lines (sym (at_front c.new-reader.result c.args.text c.new-reader.ensures.lent c.new-reader.ensures.position)) ∙ c.in-Some.ensures)
    c.in_ok-said.said c.gather.new.t c.copy_into.new.t c.in_ok-said.ensures c.copy_into.ensures
