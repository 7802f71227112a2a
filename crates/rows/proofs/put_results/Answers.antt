-- `rows::put_results` meets its promise.
use Rattle.std.proofs.Common.{arith, rules}
use Rattle.printing.proofs.Writing.{bounded, then}
use Rattle.rows.specs.Rows.{most_printed}
use Rattle.rows.proofs.put_results.Goals as goal

pub returns : goal.returns
returns c =
    let both = then (omega arith) c.put_steps.ensures.put c.put_replies.ensures.put in
    let put = bounded most_printed both (omega (arith, both.within, c.requires.1, c.requires.3)) in
    search (rules, put)
