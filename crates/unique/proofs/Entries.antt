-- Equations, and the entries for hosts: each number that is returned or left is said by one.
use mathlib.Core.Path.{◌∙◌, sym}
use Rattle.unique.specs.Unique.{EquationUnique, KpReadUnique, KpRunUnique, KpStepUnique}

pub equation_unique : EquationUnique
equation_unique A x r r' e e' = e ∙ sym e'

pub kp_step_unique : KpStepUnique
kp_step_unique n t o r r' place place' left left' w w' =
    (w.number ∙ sym w'.number, w.new_place ∙ sym w'.new_place, w.table_left ∙ sym w'.table_left)

pub kp_run_unique : KpRunUnique
kp_run_unique o r r' n n' table table' verdicts verdicts' w w' =
    (w.number ∙ sym w'.number, w.count ∙ sym w'.count, w.table_left ∙ sym w'.table_left, w.bytes_left ∙ sym w'.bytes_left)

pub kp_read_unique : KpReadUnique
kp_read_unique t o r r' answers answers' count count' line line' left left' w w' = (
  w.number ∙ sym w'.number,
  w.said ∙ sym w'.said,
  w.how_many ∙ sym w'.how_many,
  w.at ∙ sym w'.at,
  w.steps_left
      ∙ sym w'.steps_left,
)
