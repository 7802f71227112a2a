-- A table of rows: rows of one width, and what stands at a place of a list of what a function tells of data.
use mathlib.Core.Bool.{Bool, true}
use mathlib.Core.List.{List, [], ◌∷◌, map}
use mathlib.Core.Path.{◌≡◌, refl}
use Prim.Native.Nat.{ℕ, zero, suc, ◌<◌}
use borrow.Author.Tests.{eqb-true}
use lib.Dec.{eqb}
use Rattle.messages.specs.Tests.{all}
use Rattle.messages.proofs.Chain.{left_of, right_of}
use native.Mathlib.Nat.{not-suc-le-zero, le_of_suc-le-suc}
use lib.ListN.{get_or, length}

-- every row has w entries
abbrev pub even : {A : Type 0} → ℕ → List (List A) → Bool
even w rows = all (λ (r : List _). eqb (length r) w) rows

pub even_at : {A : Type 0} (w : ℕ) (rows : List (List A)) (d : List A) → even w rows ≡ true → (k : ℕ) → k < length rows → length (get_or rows k d) ≡ w
even_at w [] d e k h = absurd (not-suc-le-zero h)
even_at w (r ∷ rs) d e zero h = eqb-true _ _ (left_of _ _ e)
even_at w (r ∷ rs) d e (suc k) h = even_at w rs d (right_of (eqb (length r) w) _ e) k (le_of_suc-le-suc h)

-- a list of what f tells of data: at a place it is what f tells of what stands there
pub mapped : {A B : Type 0} (f : A → B) (xs : List A) (k : ℕ) (d : A) (e : B) → k < length xs → get_or (map f xs) k e ≡ f (get_or xs k d)
mapped f [] k d e h = absurd (not-suc-le-zero h)
mapped f (x ∷ xs) zero d e h = refl
mapped f (x ∷ xs) (suc k) d e h = mapped f xs k d e (le_of_suc-le-suc h)
