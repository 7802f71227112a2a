-- `lawful::in_row` meets its promise.
use Prim.Native.Nat.{◌+◌, ◌<◌, ℕ}
use lib.ListN.{drop, get_or, length}
use lib.Seq.{drop-cons}
use mathlib.Core.Bool.{Bool, ◌&&◌, and_assoc}
use mathlib.Core.List.{List, []}
use mathlib.Core.Path.{◌∙◌, ◌≡◌, ap, ap₂, subst, sym}
use native.Mathlib.Numerals.{add-one}
use native.Mathlib.Omega.{arith}
use Rattle.messages.specs.Layout.{message_width}
use Rattle.messages.specs.Tests.{between}
use Rattle.lawful.proofs.Bounds.{bounds_of, of_row, rows_even}
use Rattle.lawful.proofs.Rows.{even_at}
use Rattle.lawful.specs.Lawful.{Range, fits, kind_ranges, unused, within}
use Rattle.lawful.specs.declared.Span.{Span}
use Rattle.lawful.proofs.in_row.Goals as goal

-- one position further: the number there, and the rest
fits_from : (rs : List Range) (xs : List ℕ) (i : ℕ) → i < length rs → i < length xs
    → fits (drop i rs) (drop i xs) ≡ (within (get_or rs i unused) (get_or xs i 0) && fits (drop (i + 1) rs) (drop (i + 1) xs))
fits_from rs xs i h l =
    ap₂ fits (drop-cons rs i unused h) (drop-cons xs i 0 l)
    ∙ ap (λ (k : ℕ). within (get_or rs i unused) (get_or xs i 0) && fits (drop k rs) (drop k xs)) (sym (add-one i))

abbrev row_of : ℕ → List Range
row_of k = get_or kind_ranges k []

abbrev bound : (Span → ℕ) → ℕ → ℕ → ℕ
bound side k i = get_or (get_or (bounds_of side) k []) i 0

-- one position further
turn : (k i : ℕ) (m : List ℕ) (good : Bool) → k < 5 → length m ≡ message_width → i < message_width
    → ((good && between (bound (λ s. s.0) k i) (get_or m i 0) (bound (λ s. s.1) k i)) && fits (drop (i + 1) (row_of k)) (drop (i + 1) m))
    ≡ (good && fits (drop i (row_of k)) (drop i m))
turn k i m good h w l =
    let x : ℕ = get_or m i 0 in
    let rest : Bool = fits (drop (i + 1) (row_of k)) (drop (i + 1) m) in
    let inside = subst (λ (n : ℕ). i < n) (sym (even_at message_width kind_ranges [] rows_even k h)) l in
    and_assoc good (between (bound (λ s. s.0) k i) x (bound (λ s. s.1) k i)) rest
    ∙ ap (λ (z : Bool). good && z)
    (ap₂ (λ (u v : ℕ). between u x v && rest) (of_row (λ s. s.0) k i h inside) (of_row (λ s. s.1) k i h inside)
    ∙ sym (fits_from (row_of k) m i inside (omega arith)))

pub loop-i-preserved : goal.loop-i-preserved
loop-i-preserved c =
    turn c.args.row c.loop-i.i c.args.m.now c.loop-i.good c.requires.0 c.requires.1 c.loop-i-test.true ∙ c.loop-i.invariant
