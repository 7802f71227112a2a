-- What a step gives for an argument: a number, or nothing where its row has no such argument.
use Rattle.std.specs.Prelude.{cond, List, None, Option, Some, ℕ}
use Rattle.rules.specs.declared.codes.Argument.{Argument}
use Rattle.rules.specs.Forged.{given, gives}

abbrev pub found_in : Argument → List Argument → List ℕ → Option ℕ
found_in k ks xs = cond (gives k ks) (Some (given k ks xs)) None
