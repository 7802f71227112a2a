-- What a step does, by the row of its code: whether its condition holds, and the message that it adds.
use Rattle.std.specs.Prelude.{Bool, List, ℕ}
use Rattle.messages.specs.Parts.{Message}
use Rattle.messages.specs.Tests.{all}
use Rattle.record.specs.Table.{messages}
use Rattle.rules.specs.Codes.{row_of}
use Rattle.rules.specs.Honest.{holds}
use Rattle.rules.specs.Step.{added, arguments_of, claims, code_of}

abbrev pub allowed_in : ℕ → List ℕ → List ℕ → Bool
allowed_in n t s = all holds (claims (messages n t) (row_of (code_of s)).takes (arguments_of s) (row_of (code_of s)).deed)

abbrev pub added_in : ℕ → ℕ → List ℕ → List ℕ → Message
added_in answers n t s = added (messages n t) (row_of (code_of s)).takes (arguments_of s) answers (row_of (code_of s)).deed
