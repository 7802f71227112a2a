-- `rows::put_replies` meets its promise.
use Rattle.std.proofs.Common.{◌∙◌, arith, drop, ◌*◌, ◌+◌}
use Rattle.record.specs.Table.{messages}
use Rattle.rows.proofs.Lines.{replies_from, replies_over}
use Rattle.printing.proofs.Writing.{bounded, over, turn}
use Rattle.printing.specs.Printed.{lines_of, reply_line}
use Rattle.printing.specs.Widths.{reply_widest}
use Rattle.rules.specs.Said.{reply_rows}
use Rattle.rows.proofs.put_replies.Goals as goal

pub loop-p-preserved : goal.loop-p-preserved
loop-p-preserved c =
    let p = c.loop-p.p in
    let R = messages c.args.n c.args.t.now in
    let so_far = c.loop-p.invariant.1 in
    let put = c.put_reply.ensures.put in (
      c.put_reply.ensures.same_table ∙ c.loop-p.invariant.0,
      turn (lines_of reply_line (reply_rows R (p + 1) (drop (p + 1) R))) ((p + 1) * reply_widest)
          (omega (arith, c.requires.room, so_far.put.within, so_far.put.long)) so_far (replies_from c.args.t.now c.args.n p (omega arith)) put
          (omega (arith, so_far.put.within, put.within)),
    )

pub returns-clause-put : goal.returns-clause-put
returns-clause-put c =
    let put = over c.loop-p.invariant.1 (replies_over c.args.t.now c.args.n c.loop-p.p (omega arith)) in
    bounded (c.args.n * reply_widest) put (omega (arith, put.within))
