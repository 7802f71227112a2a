-- Document 01's number of each refusal.
use Rattle.std.specs.Prelude.{ℕ}
use Rattle.refusals.specs.declared.Refusal.{Refusal}
use Rattle.refusals.specs.declared.Refusal.TheVariants.{
  Argument,
  Code,
  Condition,
  Item,
  Place,
  Record,
  Room,
  Steps,
  Verdicts,
}

abbrev pub refusal_number : Refusal → ℕ
refusal_number Record = 1
refusal_number Code = 2
refusal_number Argument = 3
refusal_number Place = 4
refusal_number Item = 5
refusal_number Condition = 6
refusal_number Room = 7
refusal_number Steps = 8
refusal_number Verdicts = 9
