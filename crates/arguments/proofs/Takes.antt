-- The table of arguments: the code's rows are those of the definitions, and each has six entries. And the search of a row for an argument, from
-- a position on.
use mathlib.Core.Bool.{Bool, true, false, ◌||◌, cond}
use mathlib.Core.List.{List, [], ◌∷◌, map}
use Rattle.std.specs.Prelude.{None, Some}
use mathlib.Core.Path.{◌≡◌, ◌∙◌, refl, sym, ap, ap₂}
use Prim.Native.Nat.{ℕ, suc, ◌+◌, ◌-◌, ◌≤◌, ◌<◌}
use native.Mathlib.Nat.{add_comm}
use native.Mathlib.Numerals.{add-one}
use native.Mathlib.Omega.{arith}
use lib.Dec.{eqb}
use lib.ListN.{get_or-map, drop, drop_of_length-le, get_or, length, length-drop}
use lib.Seq.{drop-cons, get_or-drop}
use Rattle.messages.proofs.Chain.{bounds}
use Rattle.lawful.proofs.Rows.{even_at, mapped}
use Rattle.rules.specs.Codes.{Row, known, letter, most_code, row, row_of, rows, starts}
use Rattle.rules.specs.Forged.{given, gives}
use Rattle.rules.specs.Step.{arguments_of, code_of}
use Rattle.rules.specs.declared.codes.Argument.{Argument}
use Rattle.rules.specs.declared.codes.Argument.TheVariants.{Unused}
use Rattle.arguments.specs.Given.{found_in}
use Rattle.arguments.specs.Ready.{Known}

abbrev takes_of : Row → List Argument
takes_of x = x.takes

abbrev none : Row
none = row starts []

-- the code's table has the arguments of each row: one computed test, wherever the code finds the row
pub table_row : (code i : ℕ) → i ≡ code - 1 → 1 ≤ code → code ≤ most_code → get_or (map takes_of rows) i [] ≡ (row_of code).takes
table_row code i e l k =
    ap (λ (n : ℕ). get_or (map takes_of rows) n []) e ∙ mapped takes_of rows (code - 1) none [] (omega arith)

pub six : (code : ℕ) → 1 ≤ code → code ≤ most_code → length (row_of code).takes ≡ 6
six code l k =
    sym (ap length (get_or-map takes_of rows (code - 1) none)) ∙ even_at 6 (map takes_of rows) (takes_of none) refl (code - 1) (omega arith)

-- the row beside a step
pub six_in_row : {row : List Argument} {s : List ℕ} → Known row s → length row ≡ 6
six_in_row {s = s} k = ap length k.its_row ∙ six (code_of s) k.low k.high

-- a step of seven numbers with a known code, and the row of that code
pub known_step : {row : List Argument} {s : List ℕ} → length s ≡ 7 → known (code_of s) ≡ true → row ≡ (row_of (code_of s)).takes → Known row s
known_step {s = s} l e r =
    record {
      seven = l;
      its_row = r;
      low = (bounds 1 (code_of s) most_code e).0;
      high = (bounds 1 (code_of s) most_code e).1;
    }

-- the arguments of a step are its numbers after the code
pub argument_at : (s : List ℕ) (i : ℕ) → get_or (arguments_of s) i 0 ≡ get_or s (i + 1) 0
argument_at s i = get_or-drop 1 s i 0 ∙ ap (λ (k : ℕ). get_or s k 0) (add_comm 1 i)

pub six_arguments : (s : List ℕ) → length s ≡ 7 → length (arguments_of s) ≡ 6
six_arguments s e = length-drop 1 s ∙ omega (arith, e)

-- one argument further in the search
found_cons : (k j : Argument) (js : List Argument) (x : ℕ) (xs : List ℕ)
    → found_in k (j ∷ js) (x ∷ xs) ≡ cond (eqb (letter j) (letter k)) (Some x) (found_in k js xs)
found_cons k j js x xs = by (eqb (letter j) (letter k))
  where
    by : (b : Bool) → cond (b || gives k js) (Some (cond b x (given k js xs))) None ≡ cond b (Some x) (found_in k js xs)
    by true = refl
    by false = refl

-- in a step
pub find_from : {row : List Argument} {s : List ℕ} (known : Known row s) (k : Argument) (i : ℕ) → i < length row
    → found_in k (drop i row) (drop i (arguments_of s))
    ≡ cond (eqb (letter (get_or row i Unused)) (letter k)) (Some (get_or s (i + 1) 0)) (found_in k (drop (i + 1) row) (drop (i + 1) (arguments_of s)))
find_from {row} {s} known k i l =
    let xs = arguments_of s in
    ap₂ (found_in k) (drop-cons row i Unused l) (drop-cons xs i 0 (omega (arith, six_in_row known, six_arguments s known.seven)))
    ∙ found_cons k (get_or row i Unused) (drop (suc i) row) (get_or xs i 0) (drop (suc i) xs)
    ∙ ap₂ (λ (n y : ℕ). cond (eqb (letter (get_or row i Unused)) (letter k)) (Some y) (found_in k (drop n row) (drop n xs)))
    (sym (add-one i)) (argument_at s i)

-- past the last argument
pub find_over : (row : List Argument) (xs : List ℕ) (k : Argument) (i : ℕ) → length row ≤ i → found_in k (drop i row) xs ≡ None
find_over row xs k i l = ap (λ (ks : List Argument). found_in k ks xs) (drop_of_length-le row {i = i} l)
