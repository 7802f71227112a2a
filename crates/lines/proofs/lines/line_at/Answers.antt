-- The line is a part of the text. That its start lies within is found by arithmetic, however the code tests it.
use Rattle.std.proofs.Common.{arith, ◌<◌, length}
use Rattle.lines.proofs.Parted.{line_cut}
use Rattle.lines.proofs.lines.line_at.Goals as goal

pub returns : goal.returns
returns c =
    let within : c.args.at < length c.args.text.now = omega arith in
    (within, line_cut c.args.text.now c.args.at c.next_at-end.result c.min-past.result within c.next_at-end.ensures.place c.min-past.ensures)
