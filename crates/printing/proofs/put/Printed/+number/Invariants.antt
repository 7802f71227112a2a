-- What is left of the number falls at each call of `printing::put::Printed::number`.
use Rattle.printing.proofs.put.Printed.+number.Given as goal

abbrev pub decreases-number : goal.decreases-number
decreases-number l = l.n
