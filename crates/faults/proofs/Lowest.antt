-- The refusals of arguments: the step's number is the lowest of the six.
use mathlib.Core.Bool.{Bool, true, false, false≢true, ◌&&◌, cond}
use mathlib.Core.List.{List}
use mathlib.Core.Path.{◌≡◌, ◌∙◌, refl, sym, ap, ap₂}
use Prim.Native.Nat.{ℕ, suc, ◌+◌, ◌≤◌, ◌<◌, min}
use native.Mathlib.Numerals.{add-one}
use native.Mathlib.Omega.{arith}
use lib.ListN.{drop, get_or, length}
use lib.Seq.{drop-cons}
use Rattle.record.specs.Table.{Record}
use Rattle.rules.specs.declared.codes.Argument.{Argument}
use Rattle.rules.specs.declared.codes.Argument.TheVariants.{Unused}
use Rattle.rules.specs.Items.{each_argument, holding, in_range, placed}
use Rattle.std.specs.Prelude.{Err, Ok, Result}
use Rattle.std.specs.Result.{is_err}
use Rattle.faults.specs.Faults.{fault_number, fault_of, faults, fine}
use Rattle.refusals.specs.declared.Refusal.{Refusal}

-- gates that two arguments pass or not: the lower number wins
unfoldable pub three : Bool → Bool → Bool → ℕ
three a b c = cond a (cond b (cond c fine 5) 4) 3

lower : (a b c a' b' c' : Bool) → three (a && a') (b && b') (c && c') ≡ min (three a b c) (three a' b' c')
unfolding three
lower false b c false b' c' = refl
lower false b c true false c' = refl
lower false b c true true false = refl
lower false b c true true true = refl
lower true false c false b' c' = refl
lower true false c true false c' = refl
lower true false c true true false = refl
lower true false c true true true = refl
lower true true false false b' c' = refl
lower true true true false b' c' = refl
lower true true false true false c' = refl
lower true true true true false c' = refl
lower true true false true true false = refl
lower true true false true true true = refl
lower true true true true true false = refl
lower true true true true true true = refl

least_three : (a b c : Bool) → 3 ≤ three a b c
unfolding three
least_three false b c = omega arith
least_three true false c = omega arith
least_three true true false = omega arith
least_three true true true = omega arith

pub fault_least : (n : ℕ) (R : Record) (k : Argument) (x : ℕ) → 3 ≤ fault_of n R k x
unfolding three
fault_least n R k x = least_three (in_range k x) (placed n k x) (holding R k x)

-- no refusal is above every number of one
pub fine_highest : (r : Result (Unit {0}) Refusal) (k : ℕ) → false ≡ is_err r → k ≤ fine → k ≡ min k (fault_number r)
fine_highest (Ok u) k e h = omega arith
fine_highest (Err f) k e h = absurd (false≢true e)

-- the step's number from argument i on
pub at_least : (n : ℕ) (R : Record) (ks : List Argument) (xs : List ℕ) → 3 ≤ faults n R ks xs
unfolding three
at_least n R ks xs = least_three (each_argument in_range ks xs) (each_argument (placed n) ks xs) (each_argument (holding R) ks xs)

pub faults_from : (n : ℕ) (R : Record) (ks : List Argument) (xs : List ℕ) (i : ℕ) → i < length ks → i < length xs
    → faults n R (drop i ks) (drop i xs)
    ≡ min (fault_of n R (get_or ks i Unused) (get_or xs i 0)) (faults n R (drop (i + 1) ks) (drop (i + 1) xs))
unfolding three
faults_from n R ks xs i l w =
    let k = get_or ks i Unused in
    let x = get_or xs i 0 in
    let ks' = drop (suc i) ks in
    let xs' = drop (suc i) xs in
    ap₂ (faults n R) (drop-cons ks i Unused l) (drop-cons xs i 0 w)
    ∙ lower (in_range k x) (placed n k x) (holding R k x) (each_argument in_range ks' xs') (each_argument (placed n) ks' xs')
    (each_argument (holding R) ks' xs')
    ∙ ap (λ (j : ℕ). min (fault_of n R k x) (faults n R (drop j ks) (drop j xs))) (sym (add-one i))

-- one argument further: f is its fault, next the lower of that and the lowest so far
pub turn : (n : ℕ) (R : Record) (ks : List Argument) (xs : List ℕ) (i f first next whole : ℕ) → i < length ks → i < length xs
    → f ≡ fault_of n R (get_or ks i Unused) (get_or xs i 0) → min first (faults n R (drop i ks) (drop i xs)) ≡ whole → next ≡ min first f
    → min next (faults n R (drop (i + 1) ks) (drop (i + 1) xs)) ≡ whole
turn n R ks xs i f first next whole l w e inv p =
    let rest = faults n R (drop (i + 1) ks) (drop (i + 1) xs) in
    lowest first f next (faults n R (drop i ks) (drop i xs)) rest whole
    (faults_from n R ks xs i l w ∙ ap (λ (z : ℕ). min z rest) (sym e)) inv p
  where
    lowest : (x y z v w u : ℕ) → v ≡ min y w → min x v ≡ u → z ≡ min x y → min z w ≡ u
    lowest x y z v w u a b c = omega arith

-- 3 is the lowest: with an argument that gives it the step has it
pub three_found : (n : ℕ) (R : Record) (ks : List Argument) (xs : List ℕ) (i f first whole : ℕ) → i < length ks → i < length xs
    → f ≡ fault_of n R (get_or ks i Unused) (get_or xs i 0) → min first (faults n R (drop i ks) (drop i xs)) ≡ whole → f ≡ 3 → 3 ≤ first → 3 ≡ whole
three_found n R ks xs i f first whole l w e inv h m =
    low _ _ (turn n R ks xs i f first 3 whole l w e inv (omega arith)) (at_least n R (drop (i + 1) ks) (drop (i + 1) xs))
  where
    low : (x y : ℕ) → min 3 x ≡ y → 3 ≤ x → 3 ≡ y
    low x y a b = omega arith
