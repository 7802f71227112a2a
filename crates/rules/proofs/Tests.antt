-- Laws of the tests that the definitions are made of: what a chain, a test of each element and a comparison say when they pass,
-- and when they pass. (The two halves of a chain, and a number between two, are in `Chain` of messages.)
use mathlib.Core.Bool.{Bool, true, false, cond, ◌&&◌, ◌||◌, false≢true, true≢false}
use mathlib.Core.List.Memᴰ
use mathlib.Core.List.{List, Memᴰ, [], ◌++◌, ◌∷◌}
use mathlib.Core.Logic.{◌⊎◌, inl, inr, ⊎_elim}
use mathlib.Core.Path.{◌≡◌, ◌∙◌, refl, sym, ap, ap₂, subst}
use Prim.Native.Nat.{ℕ, ◌<◌}
use borrow.Author.Tests.{eq-eqb, eqb-true}
use lib.Dec.{eqb}
use lib.ListN.{get_or, length, take}
use lib.Seq.{split_at}
use Rattle.messages.proofs.Chain.{left_of, right_of}
use Rattle.messages.specs.Tests.{all, same}

-- both of two tests, one of two, and the other of two
pub both : {a b : Bool} → a ≡ true → b ≡ true → (a && b) ≡ true
both p q = ap₂ (λ (x y : Bool). x && y) p q

pub either : (a b : Bool) → (a || b) ≡ true → (a ≡ true) ⊎ (b ≡ true)
either true b e = inl refl
either false b e = inr e

pub other : (a b : Bool) → (a || b) ≡ true → a ≡ false → b ≡ true
other true b e f = absurd (true≢false f)
other false b e f = e

-- what holds of both branches
pub picked : {A : Type 0} (P : A → Type 0) (b : Bool) (x y : A) → (b ≡ true → P x) → (b ≡ false → P y) → P (cond b x y)
picked P true x y yes' no' = yes' refl
picked P false x y yes' no' = no' refl

-- a test of each element of a list: of two lists joined, and at one element
pub all_append : {A : Type 0} (f : A → Bool) (xs ys : List A) → all f xs ≡ true → all f ys ≡ true → all f (xs ++ ys) ≡ true
all_append f [] ys p q = q
all_append f (x ∷ xs) ys p q = both (left_of (f x) _ p) (all_append f xs ys (right_of (f x) _ p) q)

pub all_member : {A : Type 0} (f : A → Bool) (xs : List A) (x : A) → all f xs ≡ true → Memᴰ x xs → f x ≡ true
all_member f [] x e m = absurd (Memᴰ.not-nil m)
all_member f (y ∷ ys) x e m =
    ⊎_elim (λ p. ap f p ∙ left_of _ _ e) (λ n. all_member f ys x (right_of (f y) _ e) n) (Memᴰ.cases_cons m)

pub member_at : {A : Type 0} (xs : List A) (d : A) (i : ℕ) → i < length xs → Memᴰ (get_or xs i d) xs
member_at xs d i h =
    subst (Memᴰ (get_or xs i d)) (sym (split_at xs i d h)) (Memᴰ.append_right (take i xs) (Memᴰ.head refl))

-- the same numbers are the same list
pub same_eq : (xs ys : List ℕ) → same xs ys ≡ true → xs ≡ ys
same_eq [] [] e = refl
same_eq [] (y ∷ ys) e = absurd (false≢true e)
same_eq (x ∷ xs) [] e = absurd (false≢true e)
same_eq (x ∷ xs) (y ∷ ys) e = ap₂ ◌∷◌ (eqb-true x y (left_of _ _ e)) (same_eq xs ys (right_of (eqb x y) _ e))

pub same_refl : (xs : List ℕ) → same xs xs ≡ true
same_refl [] = refl
same_refl (x ∷ xs) = both (eq-eqb x x refl) (same_refl xs)

pub eq_same : {xs ys : List ℕ} → xs ≡ ys → same xs ys ≡ true
eq_same {xs} e = subst (λ (zs : List ℕ). same xs zs ≡ true) e (same_refl xs)
