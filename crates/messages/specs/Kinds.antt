-- The kind that a number says.
use Rattle.std.specs.Prelude.{◌≡◌, ℕ, false, MatchResult, Result}
use Rattle.messages.specs.Layout.{kind_number}
use Rattle.messages.specs.Tests.{between}
use Rattle.messages.specs.declared.kind.Kind.{Kind}
use Rattle.messages.specs.declared.kind.UnknownKind.{UnknownKind}

-- the kind with this number, or an error where there is none
abbrev pub Decodes : ℕ → Result Kind UnknownKind → Type 0
Decodes number r = MatchResult r (λ kind. kind_number kind ≡ number) (λ e. between 1 number 5 ≡ false)
