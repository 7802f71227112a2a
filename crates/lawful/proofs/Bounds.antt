-- The code's two tables of bounds are those of the ranges of each kind: one computed test of each.
use mathlib.Core.Bool.{true}
use mathlib.Core.List.{List, [], map}
use mathlib.Core.Path.{◌≡◌, ◌∙◌, refl, ap}
use Prim.Native.Nat.{ℕ, ◌<◌}
use lib.ListN.{get_or, length}
use Rattle.messages.specs.Layout.{message_width}
use Rattle.lawful.proofs.Rows.{even, mapped}
use Rattle.lawful.specs.Lawful.{Range, kind_ranges, span_of, unused}
use Rattle.lawful.specs.declared.Span.{Span}

pub rows_even : even message_width kind_ranges ≡ true
rows_even = refl

-- one side of the span of each range
abbrev pub side_of : (Span → ℕ) → Range → ℕ
side_of side r = side (span_of r)

abbrev pub bounds_of : (Span → ℕ) → List (List ℕ)
bounds_of side = map (λ (rs : List Range). map (side_of side) rs) kind_ranges

-- position i of row k
pub of_row : (side : Span → ℕ) (k i : ℕ) → k < 5 → i < length (get_or kind_ranges k [])
    → get_or (get_or (bounds_of side) k []) i 0 ≡ side (span_of (get_or (get_or kind_ranges k []) i unused))
of_row side k i h l =
    ap (λ (xs : List ℕ). get_or xs i 0) (mapped (λ (rs : List Range). map (side_of side) rs) kind_ranges k [] [] h)
    ∙ mapped (side_of side) (get_or kind_ranges k []) i unused 0 l
