-- `results::play::play_steps` meets its promise.
use mathlib.Core.Path.{subst}
use Rattle.results.proofs.Playing.{printed}
use Rattle.printing.specs.Put.{Put}
use Rattle.rows.specs.Rows.{most_printed}
use Rattle.lines.specs.Lines.{Text}
use Rattle.results.proofs.play.play_steps.Goals as goal

pub returns : goal.returns
returns c = (
  subst (λ (bs : Text). Put c.args.out.now 0 bs most_printed c.put_results.new.out c.put_results.result)
      (printed c.args.answers c.args.table.now c.args.steps.now _ c.play-n.result c.play-n.new.t
      c.play-n.new.verdicts c.play-n.ensures) c.put_results.ensures,
  c.play-n.ensures.table_left,
)
