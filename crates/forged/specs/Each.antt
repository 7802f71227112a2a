-- A forged step against each record that it is ready for.
use Rattle.std.specs.Prelude.{List, ℕ}
use Rattle.arguments.specs.Ready.{Ready}
use Rattle.record.specs.Table.{Record, messages}
use Rattle.forged.specs.declared.copied.Forgery.{Forgery}

abbrev pub Each : Forgery → (Record → List ℕ → Type 0) → Type 0
Each step P = (n : ℕ) → Ready n step.t.now step.row.now step.s.now → P (messages n step.t.now) step.s.now
