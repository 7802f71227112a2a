-- Refusals in a fixed order: a list of gates, each with its number; the first that is shut decides.
use Rattle.std.specs.Prelude.{ℕ, Bool, cond, List, [], ◌∷◌}

pub record Gate : Type 0 where
  pub number : ℕ
  pub stands_open : Bool

infix 68 ◌unless◌
abbrev pub ◌unless◌ : ℕ → Bool → Gate
k unless b = record { number = k; stands_open = b }

-- what the first shut gate's number gives, or the last argument where all stand open
abbrev pub through : {A : Type 0} → List Gate → (ℕ → A) → A → A
through [] shut passed = passed
through (x ∷ xs) shut passed = cond x.stands_open (through xs shut passed) (shut x.number)
