-- Refusals 3, 4 and 5 of one argument and of a step's six, as a number; `fine` where there is none.
use Rattle.std.specs.Prelude.{Bool, Err, List, [], ◌∷◌, Ok, Result, ℕ, eqb}
use Rattle.refusals.specs.Numbers.{refusal_number}
use Rattle.refusals.specs.declared.Refusal.{Refusal}
use Rattle.messages.specs.Tests.{between}
use Rattle.record.specs.Table.{Record, message_at}
use Rattle.rules.specs.declared.codes.Argument.{Argument}
use Rattle.rules.specs.Gates.{◌unless◌, through}
use Rattle.rules.specs.Items.{each_argument, holding, in_range, placed}
use Rattle.arguments.specs.Offers.{offers}

-- above the number of every refusal
abbrev pub fine : ℕ
fine = 10

-- of what the code answers
abbrev pub fault_number : Result (Unit {0}) Refusal → ℕ
fault_number (Ok u) = fine
fault_number (Err e) = refusal_number e

abbrev pub itself : ℕ → ℕ
itself k = k

abbrev pub is_zero : ℕ → Bool
is_zero x = eqb x 0

abbrev pub range_fault : ℕ → ℕ → ℕ → ℕ
range_fault least x most = through (3 unless between least x most ∷ []) itself fine

abbrev pub place_fault : ℕ → Record → Argument → ℕ → ℕ
place_fault n R k x = through (4 unless between 1 x n ∷ 5 unless offers k (message_at R (record { 0 = x })) ∷ []) itself fine

abbrev pub fault_of : ℕ → Record → Argument → ℕ → ℕ
fault_of n R k x = through (3 unless in_range k x ∷ 4 unless placed n k x ∷ 5 unless holding R k x ∷ []) itself fine

abbrev pub faults : ℕ → Record → List Argument → List ℕ → ℕ
faults n R ks xs =
    through
    (3 unless each_argument in_range ks xs ∷ 4 unless each_argument (placed n) ks xs ∷ 5 unless each_argument (holding R) ks xs ∷ []) itself
    fine
