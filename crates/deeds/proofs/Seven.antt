-- A step as its seven numbers: the places that its row asks for are in 1..n, and what it would add is found at its code and arguments
-- written out, where the row computes.
use mathlib.Core.Bool.{Bool, true}
use mathlib.Core.List.{List, [], ◌∷◌}
use mathlib.Core.Logic.{◌⊎◌, ⊎_elim}
use mathlib.Core.Path.{◌≡◌, ◌∙◌, refl, sym, ap, subst}
use Prim.Native.Nat.{ℕ, zero, suc, ◌+◌, ◌≤◌, ◌<◌}
use native.Mathlib.Nat.{le_of_suc-le-suc, not-suc-le-zero}
use native.Mathlib.Omega.{arith}
use lib.ListN.{get_or, length}
use Rattle.messages.proofs.Chain.{bounds, left_of, right_of}
use Rattle.record.proofs.Cut.{message_at_lem}
use Rattle.messages.specs.Parts.{Message}
use Rattle.messages.specs.Tests.{between}
use Rattle.record.specs.Table.{message_at, message_in, messages}
use Rattle.rules.specs.Codes.{row_of}
use Rattle.rules.specs.declared.codes.Argument.{Argument}
use Rattle.rules.specs.Items.{each_argument, placed}
use Rattle.rules.specs.Step.{arguments_of, code_of}
use Rattle.arguments.proofs.Takes.{argument_at, six, six_arguments}
use Rattle.arguments.specs.Ready.{Ready}

written_out : List ℕ → List ℕ
written_out s = get_or s 0 0 ∷ get_or s 1 0 ∷ get_or s 2 0 ∷ get_or s 3 0 ∷ get_or s 4 0 ∷ get_or s 5 0 ∷ get_or s 6 0 ∷ []

explicit : (s : List ℕ) → length s ≡ 7 → s ≡ written_out s
unfolding written_out
explicit [] l = absurd (omega arith)
explicit (a ∷ []) l = absurd (omega arith)
explicit (a ∷ b ∷ []) l = absurd (omega arith)
explicit (a ∷ b ∷ c ∷ []) l = absurd (omega arith)
explicit (a ∷ b ∷ c ∷ d ∷ []) l = absurd (omega arith)
explicit (a ∷ b ∷ c ∷ d ∷ e ∷ []) l = absurd (omega arith)
explicit (a ∷ b ∷ c ∷ d ∷ e ∷ f ∷ []) l = absurd (omega arith)
explicit (a ∷ b ∷ c ∷ d ∷ e ∷ f ∷ g ∷ []) l = refl
explicit (a ∷ b ∷ c ∷ d ∷ e ∷ f ∷ g ∷ h ∷ s) l = absurd (omega arith)

-- a step of this code
abbrev pub coded : ℕ → List ℕ → List ℕ
coded code s = code ∷ get_or s 1 0 ∷ get_or s 2 0 ∷ get_or s 3 0 ∷ get_or s 4 0 ∷ get_or s 5 0 ∷ get_or s 6 0 ∷ []

pub at_code : {A : Type 0} (f : List ℕ → A) {r : A} (s : List ℕ) (code : ℕ) → length s ≡ 7 → code_of s ≡ code → r ≡ f (coded code s) → r ≡ f s
unfolding written_out
at_code f {r} s code l e p = subst (λ (z : List ℕ). r ≡ f z) (sym (explicit s l ∙ ap (λ (c : ℕ). coded c s) e)) p

-- a step of one of two codes that come to the same
pub at_either : {A : Type 0} (f : List ℕ → A) {r : A} (s : List ℕ) (code other : ℕ) → length s ≡ 7 → (code_of s ≡ code) ⊎ (code_of s ≡ other)
    → f (coded code s) ≡ f (coded other s) → r ≡ f (coded code s) → r ≡ f s
at_either f s code other l e same p = ⊎_elim (λ z. at_code f s code l z p) (λ z. at_code f s other l z (p ∙ same)) e

-- what a code takes
pub taken : {k code : ℕ} → k ≡ code → (row_of k).takes ≡ (row_of code).takes
taken e = ap (λ (c : ℕ). (row_of c).takes) e

-- entry i of a row is passed
passed_at : (f : Argument → ℕ → Bool) (ks : List Argument) (xs : List ℕ) (i : ℕ) → i < length ks → i < length xs
    → each_argument f ks xs ≡ true → f (get_or ks i Argument.Unused) (get_or xs i 0) ≡ true
passed_at f [] xs i h w e = absurd (not-suc-le-zero h)
passed_at f (k ∷ ks) [] i h w e = absurd (not-suc-le-zero w)
passed_at f (k ∷ ks) (x ∷ xs) zero h w e = left_of (f k x) _ e
passed_at f (k ∷ ks) (x ∷ xs) (suc i) h w e =
    passed_at f ks xs i (le_of_suc-le-suc h) (le_of_suc-le-suc w) (right_of (f k x) _ e)

module _ {n : ℕ} {t : List ℕ} {row : List Argument} {s : List ℕ} (ready : Ready n t row s) where
  named_place : (i : ℕ) → i < 6 → placed n (get_or (row_of (code_of s)).takes i Argument.Unused) (get_or s (i + 1) 0) ≡ true
  named_place i h =
      subst (λ (x : ℕ). placed n (get_or (row_of (code_of s)).takes i Argument.Unused) x ≡ true) (argument_at s i)
      (passed_at (placed n) (row_of (code_of s)).takes (arguments_of s) i
      (subst (λ (z : ℕ). i < z) (sym (six (code_of s) ready.known.low ready.known.high)) h)
      (subst (λ (z : ℕ). i < z) (sym (six_arguments s ready.known.seven)) h) ready.places)

  -- argument i is the place of a message, by what the step's row has there
  module _ (i : ℕ) {ks : List Argument} (e : (row_of (code_of s)).takes ≡ ks) (h : i < 6)
      (w : placed n (get_or ks i Argument.Unused) (get_or s (i + 1) 0) ≡ between 1 (get_or s (i + 1) 0) n) where
    in_range_lem : between 1 (get_or s (i + 1) 0) n ≡ true
    in_range_lem =
        sym w ∙ subst (λ (js : List Argument). placed n (get_or js i Argument.Unused) (get_or s (i + 1) 0) ≡ true) e (named_place i h)

    pub first_place : 1 ≤ get_or s (i + 1) 0
    first_place = (bounds 1 (get_or s (i + 1) 0) n in_range_lem).0

    pub last_place : get_or s (i + 1) 0 ≤ n
    last_place = (bounds 1 (get_or s (i + 1) 0) n in_range_lem).1

    pub message_there : {x : Message} → x ≡ message_in t (record { 0 = get_or s (i + 1) 0 })
        → x ≡ message_at (messages n t) (record { 0 = get_or s (i + 1) 0 })
    message_there p = p ∙ sym (message_at_lem n t (record { 0 = get_or s (i + 1) 0 }) first_place last_place)
