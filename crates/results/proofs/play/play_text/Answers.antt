-- `results::play::play_text` meets its promise.
use Rattle.std.proofs.Common.{◌∙◌, ◌≡◌, arith, subst, ap₂}
use Rattle.lines.specs.Lines.{Text}
use Rattle.printing.specs.Printed.{refused_line}
use Rattle.printing.specs.Put.{Put}
use Rattle.printing.specs.Widths.{refused_widest}
use Rattle.record.specs.Table.{most_room}
use Rattle.results.specs.Output.{results_of}
use Rattle.results.proofs.Showing.{is_refused, refused_as, refused_keeps, refused_prints, shows, shows_played, told}
use Rattle.results.proofs.play.play_text.Goals as goal

pub returns-in-Ok : goal.returns-in-Ok
returns-in-Ok c =
    let w = told c.args.text.now c.in-Ok.is c.read_text.ensures in
    shows_played (omega arith) (omega arith) w c.play_steps.ensures.0 c.play_steps.ensures.1

-- That the line is the refusal's is found by arithmetic, however the code makes it.
pub returns-in-Err : goal.returns-in-Err
returns-in-Err c =
    let e = c.in-Err.refusal in
    let w = told c.args.text.now c.in-Err.is c.read_text.ensures in
    shows (refused_as e) (is_refused _ e w.tells)
    (subst (λ (bs : Text). Put c.args.out.now 0 bs refused_widest c.put_refused_line.new.out c.put_refused_line.result)
    (ap₂ refused_line c.from-number.ensures (omega arith) ∙ refused_prints most_room e) c.put_refused_line.ensures)
    (refused_keeps c.args.table.now e) (omega arith)
