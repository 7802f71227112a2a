-- Of steps that were played, the rows by their numbers are those of the definitions.
use mathlib.Core.List.{List, [], ◌∷◌}
use mathlib.Core.Path.{◌≡◌, ◌∙◌, refl, sym, ap, ap₂}
use Prim.Native.Nat.{ℕ, ◌+◌}
use lib.ListN.{length, length-append}
use Rattle.record.specs.Table.{Record}
use Rattle.rules.proofs.Accepted.{never_zero}
use Rattle.rules.specs.Run.{verdicts}
use Rattle.rules.specs.Said.{step_rows}
use Rattle.rules.specs.Step.{Outcome, Step, accepted, judge, number_of, place_of, record_after, refused}
use Rattle.rows.proofs.Lines.{not_0}
use Rattle.rows.specs.Rows.{count_by, place_by, rows_by}

place_by_lem : (n : ℕ) (o : Outcome) → (o ≡ refused 0 → ⊥) → place_by n (number_of o) ≡ place_of n o
place_by_lem n (accepted x) h = refl
place_by_lem n (refused k) h = not_0 (n + 1) 0 (λ (e : k ≡ 0). h (ap refused e))

count_by_lem : (R : Record) (o : Outcome) → (o ≡ refused 0 → ⊥) → count_by (length R) (number_of o) ≡ length (record_after R o)
count_by_lem R (accepted x) h = sym (length-append R (x ∷ []))
count_by_lem R (refused k) h = not_0 (length R + 1) (length R) (λ (e : k ≡ 0). h (ap refused e))

pub rows_told : (answers room told : ℕ) (R : Record) (ss : List Step)
    → rows_by told (length R) (verdicts answers room R ss) ≡ step_rows answers room told R ss
unfolding rows_by verdicts step_rows
rows_told answers room told R [] = refl
rows_told answers room told R (s ∷ ss) =
    let o = judge answers room R s in
    let h = never_zero answers room R s in
    let after = record_after R o in
    ap₂ (λ (p : ℕ) (rows : List (List ℕ)). ((told + 1) ∷ number_of o ∷ p ∷ []) ∷ rows) (place_by_lem (length R) o h)
    (ap (λ (n : ℕ). rows_by (told + 1) n (verdicts answers room after ss)) (count_by_lem R o h) ∙ rows_told answers room (told + 1) after ss)
