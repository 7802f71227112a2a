-- What is left to decide of a step when its arguments are good: refusals 6 and 7.
use Rattle.std.specs.Prelude.{List, [], ◌∷◌, ℕ, ltb}
use Rattle.deeds.specs.Coded.{added_in, allowed_in}
use Rattle.record.specs.Table.{room_of}
use Rattle.rules.specs.Gates.{◌unless◌, through}
use Rattle.rules.specs.Step.{Outcome, accepted, refused}

unfoldable pub decided : ℕ → ℕ → List ℕ → List ℕ → Outcome
decided answers n t s = through (6 unless allowed_in n t s ∷ 7 unless ltb n (room_of t) ∷ []) refused (accepted (added_in answers n t s))
