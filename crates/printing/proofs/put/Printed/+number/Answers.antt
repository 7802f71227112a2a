-- A number's last digit has room behind those of its tenth, if there are such, and they are the number's digits.
use Rattle.std.proofs.Common.{arith}
use Rattle.numbers.specs.Digits.{most_digits}
use Rattle.printing.proofs.Digits.{decimal_longer, some}
use Rattle.printing.proofs.Writing.{number_more, number_one}
use Rattle.printing.proofs.put.Printed.+number.Goals as goal
use Rattle.printing.proofs.put.Printed.+number.Goals.{else-n-ge10, then-n-ge10}

pub number-requires : goal.number-requires
number-requires t c = (omega arith, omega (arith, decimal_longer c.args.n c.if-n-ge10.true (omega arith)))

pub byte-requires : goal.byte-requires
byte-requires t c =
    elim c.if-n-ge10.branch [
      | then-n-ge10 w ↦
          let put = w.number.ensures.put in
          rw w.self-is (omega (arith, decimal_longer c.args.n w.if-n-ge10.true (omega arith), put.next, put.long))
      | else-n-ge10 w ↦ rw w.self-is (omega (arith, some most_digits c.args.n (omega arith)))
    ]

pub returns-clause-put : goal.returns-clause-put
returns-clause-put t c =
    elim c.if-n-ge10.branch [
      | then-n-ge10 w ↦
          number_more c.args.n w.if-n-ge10.true (omega arith) (omega arith) w.number.ensures.put (rw w.self-is at c.byte.ensures.put)
      | else-n-ge10 w ↦ number_one c.args.n w.if-n-ge10.false (rw w.self-is at c.byte.ensures.put)
    ]
