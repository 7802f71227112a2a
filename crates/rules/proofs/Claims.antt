-- What a list of claims says: each finds what it wants. From the test to these facts and back, and from numbers to the part they stand for.
use mathlib.Core.Bool.{true}
use mathlib.Core.List.{List, [], ◌∷◌}
use mathlib.Core.Path.{◌≡◌, refl, ap}
use Prim.Native.Nat.{ℕ}
use Rattle.messages.proofs.Chain.{left_of, right_of}
use Rattle.messages.specs.Parts.{Message}
use Rattle.messages.specs.Tests.{all}
use Rattle.rules.proofs.Tests.{both, eq_same, same_eq}
use Rattle.rules.specs.Honest.{Claim, holds}

abbrev pub Facts : List Claim → Type 0
Facts [] = Unit {0}
Facts (c ∷ cs) = (c.found ≡ c.wanted) × Facts cs

pub facts : (cs : List Claim) → all holds cs ≡ true → Facts cs
facts [] e = tt
facts (c ∷ cs) e = (same_eq c.found c.wanted (left_of _ _ e), facts cs (right_of (holds c) _ e))

pub claimed : (cs : List Claim) → Facts cs → all holds cs ≡ true
claimed [] f = refl
claimed (c ∷ cs) f = both (eq_same f.0) (claimed cs f.1)

-- a party, a mark or a slip is known by its numbers; `read` is how it is read from them
pub as_part : {A : Type 0} (read : Message → ℕ → A) {found wanted : Message} → found ≡ wanted → read found 0 ≡ read wanted 0
as_part read e = ap (λ (l : Message). read l 0) e
