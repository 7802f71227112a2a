-- A row has nothing after its first unused argument, so from there on a step's number is told by its arguments alone: 3 if one of them is
-- not 0.
use mathlib.Core.Bool.{Bool, true, false, false≢true, ◌&&◌, cond}
use mathlib.Core.List.{List, [], ◌∷◌}
use mathlib.Core.Path.{◌≡◌, ◌∙◌, refl, sym, ap, ap₂, subst}
use Prim.Native.Nat.{ℕ, zero, suc, ◌+◌, ◌-◌, ◌≤◌, ◌<◌, min}
use native.Mathlib.Nat.{add_comm, le_of_eq, le_of_suc-le-suc, not-suc-le-zero}
use native.Mathlib.Omega.{arith}
use lib.ListN.{drop, get_or, length, length-drop, take}
use lib.Seq.{drop-drop, take_all}
use Rattle.std.specs.List.{list_all}
use Rattle.messages.proofs.Chain.{left_of, right_of, skip}
use Rattle.messages.specs.Tests.{all}
use Rattle.record.specs.Table.{Record}
use Rattle.rules.proofs.Tests.{all_member, member_at}
use Rattle.rules.specs.Codes.{Row, most_code, row, row_of, rows, starts}
use Rattle.rules.specs.declared.codes.Argument.{Argument}
use Rattle.rules.specs.declared.codes.Argument.TheVariants.{Unused}
use Rattle.rules.specs.Items.{each_argument, holding, in_range, placed}
use Rattle.rules.specs.Step.{arguments_of, code_of}
use Rattle.arguments.proofs.Takes.{six_arguments, six_in_row}
use Rattle.faults.specs.Faults.{faults, fine, is_zero}
use Rattle.arguments.specs.Ready.{Known}

abbrev is_unused : Argument → Bool
is_unused Argument.Unused = true
is_unused Argument.B = false
is_unused Argument.S = false
is_unused Argument.C = false
is_unused Argument.A = false
is_unused (Argument.The k) = false
is_unused (Argument.At i) = false

-- and no other
unused_is : (k : Argument) → is_unused k ≡ true → k ≡ Unused
unused_is Argument.Unused e = refl
unused_is Argument.B e = absurd (false≢true e)
unused_is Argument.S e = absurd (false≢true e)
unused_is Argument.C e = absurd (false≢true e)
unused_is Argument.A e = absurd (false≢true e)
unused_is (Argument.The k) e = absurd (false≢true e)
unused_is (Argument.At i) e = absurd (false≢true e)

abbrev ends : List Argument → Bool
ends [] = true
ends (k ∷ ks) = cond (is_unused k) (all is_unused ks) (ends ks)

abbrev ends_row : Row → Bool
ends_row x = ends x.takes

all_drop : {A : Type 0} (f : A → Bool) (xs : List A) → all f xs ≡ true → (k : ℕ) → all f (drop k xs) ≡ true
all_drop f xs e zero = e
all_drop f [] e (suc k) = refl
all_drop f (x ∷ xs) e (suc k) = all_drop f xs (right_of (f x) (all f xs) e) k

-- over the whole table at once
row_ends : (code : ℕ) → 1 ≤ code → code ≤ most_code → ends (row_of code).takes ≡ true
row_ends code l h = all_member ends_row rows (row_of code) refl (member_at rows (row starts []) (code - 1) (omega arith))

from_unused : (ks : List Argument) (i : ℕ) → ends ks ≡ true → i < length ks → is_unused (get_or ks i Unused) ≡ true → all is_unused (drop i ks) ≡ true
from_unused [] i e h u = absurd (not-suc-le-zero h)
from_unused (k ∷ ks) zero e h u = sym (skip u (sym (subst (λ (b : Bool). cond b (all is_unused ks) (ends ks) ≡ true) u e)))
from_unused (k ∷ ks) (suc i) e h u = by (is_unused k) e (λ f. from_unused ks i f (le_of_suc-le-suc h) u)
  where
    by : (b : Bool) → cond b (all is_unused ks) (ends ks) ≡ true → (ends ks ≡ true → all is_unused (drop i ks) ≡ true)
        → all is_unused (drop i ks) ≡ true
    by true f rec = all_drop is_unused ks f i
    by false f rec = rec f

-- a test of unused arguments asks each number alone
each_unused : (f : Argument → ℕ → Bool) (g : ℕ → Bool) → ((x : ℕ) → f Unused x ≡ g x) → (ks : List Argument) (xs : List ℕ) → length ks ≡ length xs
    → all is_unused ks ≡ true → each_argument f ks xs ≡ all g xs
each_unused f g same [] [] l u = refl
each_unused f g same [] (x ∷ xs) l u = absurd (omega arith)
each_unused f g same (k ∷ ks) [] l u = absurd (omega arith)
each_unused f g same (k ∷ ks) (x ∷ xs) l u =
    let so : k ≡ Unused = unused_is k (left_of (is_unused k) (all is_unused ks) u) in
    ap₂ (λ (a b : Bool). a && b) (ap (λ (j : Argument). f j x) so ∙ same x)
    (each_unused f g same ks xs (omega arith) (right_of (is_unused k) (all is_unused ks) u))

always : ℕ → Bool
always x = true

all_always : (xs : List ℕ) → all always xs ≡ true
unfolding always
all_always [] = refl
all_always (x ∷ xs) = all_always xs

faults_unused : (n : ℕ) (R : Record) (ks : List Argument) (xs : List ℕ) → length ks ≡ length xs → all is_unused ks ≡ true
    → faults n R ks xs ≡ cond (all is_zero xs) fine 3
unfolding always
faults_unused n R ks xs l u =
    ap (λ (a : Bool). cond a (cond (each_argument (placed n) ks xs) (cond (each_argument (holding R) ks xs) fine 5) 4) 3)
    (each_unused in_range is_zero (λ x. refl) ks xs l u)
    ∙ ap₂ (λ (b d : Bool). cond (all is_zero xs) (cond b (cond d fine 5) 4) 3)
    (each_unused (placed n) always (λ x. refl) ks xs l u ∙ all_always xs) (each_unused (holding R) always (λ x. refl) ks xs l u ∙ all_always xs)

-- in a step, where argument i is unused
pub ended : (n : ℕ) (R : Record) {row : List Argument} {s : List ℕ} (known : Known row s) (i first : ℕ) (z : Bool) → i < length row
    → get_or row i Unused ≡ Unused → z ≡ all is_zero (drop i (arguments_of s)) → 3 ≤ first → first ≤ fine
    → min first (faults n R (drop i row) (drop i (arguments_of s))) ≡ faults n R row (arguments_of s)
    → cond z first 3 ≡ faults n R (row_of (code_of s)).takes (arguments_of s)
ended n R {row} {s} known i first z l e p low high inv =
    let its_row = known.its_row in
    let long = six_in_row known in
    by z
    (faults_unused n R (drop i row) (drop i (arguments_of s))
    (length-drop i row ∙ ap (λ (m : ℕ). m - i) (long ∙ sym (six_arguments s known.seven)) ∙ sym (length-drop i (arguments_of s)))
    (from_unused row i (ap ends its_row ∙ row_ends (code_of s) known.low known.high) l (ap is_unused e))
    ∙ ap (λ (b : Bool). cond b fine 3) (sym p))
    ∙ ap (λ (ks : List Argument). faults n R ks (arguments_of s)) its_row
  where
    by : (b : Bool) → faults n R (drop i row) (drop i (arguments_of s)) ≡ cond b fine 3 → cond b first 3 ≡ faults n R row (arguments_of s)
    by true f = omega (arith, inv, f)
    by false f = omega (arith, inv, f)

-- the numbers after the code, from argument i on
pub zeros_from : (s : List ℕ) (i : ℕ) → list_all is_zero (take (length s - (i + 1)) (drop (i + 1) s)) ≡ all is_zero (drop i (arguments_of s))
zeros_from s i =
    ap (list_all is_zero) (take_all (length s - (i + 1)) (drop (i + 1) s) (le_of_eq (length-drop (i + 1) s)))
    ∙ ap (λ (k : ℕ). list_all is_zero (drop k s)) (add_comm i 1)
    ∙ ap (list_all is_zero) (sym (drop-drop i 1 s))
    ∙ each (drop i (drop 1 s))
  where
    each : (xs : List ℕ) → list_all is_zero xs ≡ all is_zero xs
    each [] = refl
    each (x ∷ xs) = ap (λ (b : Bool). is_zero x && b) (each xs)

-- of a step of seven numbers
pub zeros_to : (s : List ℕ) (i : ℕ) → length s ≡ 7 → list_all is_zero (take (7 - (i + 1)) (drop (i + 1) s)) ≡ all is_zero (drop i (arguments_of s))
zeros_to s i seven = ap (λ (w : ℕ). list_all is_zero (take (w - (i + 1)) (drop (i + 1) s))) (sym seven) ∙ zeros_from s i
