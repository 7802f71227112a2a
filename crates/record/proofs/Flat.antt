-- Pieces of one width laid one after the other, and cut again: the messages of a record, the steps of a list.
use mathlib.Core.List.{List, [], ◌∷◌, ◌++◌, append_assoc, Memᴰ}
use mathlib.Core.Path.{◌≡◌, ◌∙◌, refl, ap, ap₂}
use Prim.Native.Nat.{ℕ, ◌+◌, ◌*◌}
use lib.ListN.{drop, length, length-append, take}
use lib.Seq.{drop_at, take_at}
use native.Mathlib.Nat.{suc-mul, zero-mul}
use native.Mathlib.Omega.{arith}
use Rattle.messages.specs.Layout.{flat}
use Rattle.record.specs.Table.{cut}

abbrev pub AllLong : ℕ → List (List ℕ) → Type 0
AllLong w xs = (x : List ℕ) → Memᴰ x xs → length x ≡ w

pub flat_length : (w : ℕ) (xs : List (List ℕ)) → AllLong w xs → length (flat xs) ≡ length xs * w
flat_length w [] h = omega (arith, zero-mul w)
flat_length w (x ∷ xs) h =
    length-append x (flat xs)
    ∙ ap₂ ◌+◌ (h x (Memᴰ.head refl)) (flat_length w xs (λ y m. h y (Memᴰ.tail m)))
    ∙ omega (arith, suc-mul (length xs) w)

pub cut_flat : (w : ℕ) (xs : List (List ℕ)) (rest : List ℕ) → AllLong w xs → cut w (length xs) (flat xs ++ rest) ≡ xs
cut_flat w [] rest h = refl
cut_flat w (x ∷ xs) rest h =
    ap₂ ◌∷◌ (ap (take w) (append_assoc x (flat xs) rest) ∙ take_at x (flat xs ++ rest) w l)
    (ap (λ (t : List ℕ). cut w (length xs) t)
    (ap (drop w) (append_assoc x (flat xs) rest) ∙ drop_at x (flat xs ++ rest) w l)
    ∙ cut_flat w xs rest (λ y m. h y (Memᴰ.tail m)))
  where
    l : length x ≡ w
    l = h x (Memᴰ.head refl)
