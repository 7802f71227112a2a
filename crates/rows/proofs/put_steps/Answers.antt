-- `rows::put_steps` meets its promise.
use Rattle.std.proofs.Common.{◌≡◌, ◌∙◌, sym, arith, get_or, drop, length, ◌*◌, ◌+◌}
use Rattle.rows.proofs.Lines.{count_grows, is_0, not_0, steps_from, steps_over}
use Rattle.printing.proofs.Writing.{bounded, over, turn}
use Rattle.printing.specs.Printed.{lines_of, step_line}
use Rattle.rows.specs.Rows.{place_by, rows_by}
use Rattle.printing.specs.Widths.{step_widest}
use Rattle.rows.proofs.put_steps.Goals as goal
use Rattle.rows.proofs.put_steps.Goals.{else-number-eq0, then-number-eq0}

pub loop-i-preserved : goal.loop-i-preserved
loop-i-preserved c =
    let i = c.loop-i.i in
    let n = c.loop-i.n in
    let numbers = c.args.numbers.now in
    let so_far = c.loop-i.invariant.2 in
    let counted = c.count_after-n in
    let number = get_or numbers i 0 in
    let its_place : c.if-number-eq0.place ≡ place_by n number =
    elim c.if-number-eq0.branch [
      | then-number-eq0 w ↦ w.place-is ∙ counted.ensures ∙ is_0 (n + 1) n w.if-number-eq0.true ∙ sym (is_0 (n + 1) 0 w.if-number-eq0.true)
      | else-number-eq0 w ↦ w.place-is ∙ sym (not_0 (n + 1) 0 w.if-number-eq0.false)
    ] in
    let rest = lines_of step_line (rows_by (i + 1) counted.result (drop (i + 1) numbers)) in (
      omega (arith, counted.ensures, count_grows n number, c.loop-i.invariant.0),
      c.step_line.ensures.same_table ∙ c.loop-i.invariant.1,
      turn rest ((i + 1) * step_widest) (omega (arith, c.requires.room, so_far.put.within, so_far.put.long)) so_far
          (steps_from numbers i n c.loop-i-test.true its_place counted.ensures) c.step_line.ensures.put
          (omega (arith, so_far.put.within, c.step_line.ensures.put.within)),
    )

pub returns-clause-put : goal.returns-clause-put
returns-clause-put c =
    let numbers = c.args.numbers.now in
    let put = over c.loop-i.invariant.2 (steps_over numbers c.loop-i.i c.loop-i.n (omega arith)) in
    bounded (length numbers * step_widest) put (omega (arith, put.within))
