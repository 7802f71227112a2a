-- What a step gives: an argument that its row has passed the tests that each argument passed, one that the row lacks reads as 0.
use mathlib.Core.Bool.{Bool, true, false, cond, ◌||◌, false≢true, true≢false}
use mathlib.Core.List.{List, [], ◌∷◌}
use mathlib.Core.Logic.{⊎_elim}
use mathlib.Core.Path.{◌≡◌, ◌∙◌, refl, sym, ap, subst}
use Prim.Native.Nat.{ℕ}
use borrow.Author.Tests.{eqb-true}
use lib.Dec.{eqb}
use Rattle.messages.proofs.Chain.{left_of, right_of}
use Rattle.messages.specs.declared.kind.Kind.TheVariants.{AuthRequest, AuthResponse, Initiate, Invoice, Payment}
use Rattle.rules.proofs.Tests.{either, other, picked}
use Rattle.rules.specs.Codes.{letter}
use Rattle.rules.specs.declared.codes.Argument.{Argument}
use Rattle.rules.specs.declared.codes.Item.{Item}
use Rattle.rules.specs.Forged.{given, gives}
use Rattle.rules.specs.Items.{each_argument}

-- an argument is known by its letter
abbrev every_argument : List Argument
every_argument =
    Argument.Unused
    ∷ Argument.B
    ∷ Argument.S
    ∷ Argument.C
    ∷ Argument.A
    ∷ Argument.The Initiate
    ∷ Argument.The Invoice
    ∷ Argument.The Payment
    ∷ Argument.The AuthRequest
    ∷ Argument.The AuthResponse
    ∷ Argument.At Item.H
    ∷ Argument.At Item.M
    ∷ Argument.At Item.E
    ∷ Argument.At Item.R
    ∷ Argument.At Item.V
    ∷ Argument.At Item.Q
    ∷ Argument.At Item.P
    ∷ Argument.At Item.G
    ∷ []

abbrev lettered : List Argument → ℕ → Argument
lettered [] n = Argument.Unused
lettered (k ∷ ks) n = cond (eqb n (letter k)) k (lettered ks n)

by_letter : (k : Argument) → lettered every_argument (letter k) ≡ k
by_letter Argument.Unused = refl
by_letter Argument.B = refl
by_letter Argument.S = refl
by_letter Argument.C = refl
by_letter Argument.A = refl
by_letter (Argument.The Initiate) = refl
by_letter (Argument.The Invoice) = refl
by_letter (Argument.The Payment) = refl
by_letter (Argument.The AuthRequest) = refl
by_letter (Argument.The AuthResponse) = refl
by_letter (Argument.At Item.H) = refl
by_letter (Argument.At Item.M) = refl
by_letter (Argument.At Item.E) = refl
by_letter (Argument.At Item.R) = refl
by_letter (Argument.At Item.V) = refl
by_letter (Argument.At Item.Q) = refl
by_letter (Argument.At Item.P) = refl
by_letter (Argument.At Item.G) = refl

same_letter : (j k : Argument) → eqb (letter j) (letter k) ≡ true → j ≡ k
same_letter j k e =
    sym (by_letter j) ∙ ap (lettered every_argument) (eqb-true (letter j) (letter k) e) ∙ by_letter k

module _ (k : Argument) where
  -- one that is left off
  none_given : (ks : List Argument) → given k ks [] ≡ 0
  none_given [] = refl
  none_given (j ∷ ks) = refl

  pub not_given : (ks : List Argument) (xs : List ℕ) → gives k ks ≡ false → given k ks xs ≡ 0
  not_given [] xs g = refl
  not_given (j ∷ ks) [] g = refl
  not_given (j ∷ ks) (x ∷ xs) g =
      picked (λ (n : ℕ). n ≡ 0) (eqb (letter j) (letter k)) x (given k ks xs)
      (λ h. absurd (true≢false (sym (ap (◌|| gives k ks) h) ∙ g))) (λ h. not_given ks xs (sym (ap (◌|| gives k ks) h) ∙ g))

  -- the argument asked for is the first that the row names, or it stands further on
  module _ (f : Argument → ℕ → Bool) where
    is_first : (j : Argument) (x : ℕ) → f j x ≡ true → eqb (letter j) (letter k) ≡ true → f k x ≡ true
    is_first j x e h = subst (λ (i : Argument). f i x ≡ true) (same_letter j k h) e

    pub passed_given : (ks : List Argument) (xs : List ℕ) → each_argument f ks xs ≡ true → gives k ks ≡ true → f k (given k ks xs) ≡ true
    passed_given [] xs e g = absurd (false≢true g)
    passed_given (j ∷ ks) [] e g =
        ⊎_elim (is_first j 0 (left_of _ _ e))
        (λ m. subst (λ (n : ℕ). f k n ≡ true) (none_given ks) (passed_given ks [] (right_of (f j 0) _ e) m))
        (either (eqb (letter j) (letter k)) (gives k ks) g)
    passed_given (j ∷ ks) (x ∷ xs) e g =
        picked (λ (n : ℕ). f k n ≡ true) (eqb (letter j) (letter k)) x (given k ks xs) (is_first j x (left_of _ _ e))
        (λ h. passed_given ks xs (right_of (f j x) _ e) (other (eqb (letter j) (letter k)) (gives k ks) g h))
