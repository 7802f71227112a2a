-- Tests that the definitions are made of: a number in a range, all of a list of Bools, and two lists of numbers number by number.
use Rattle.std.specs.Prelude.{Bool, true, false, ◌&&◌, List, [], ◌∷◌, ℕ, eqb, leb}

abbrev pub between : ℕ → ℕ → ℕ → Bool
between least x most = leb least x && leb x most

-- each of these
abbrev pub every : List Bool → Bool
every [] = true
every (b ∷ bs) = b && every bs

-- a test of each element of a list
abbrev pub all : {A : Type 0} → (A → Bool) → List A → Bool
all f [] = true
all f (x ∷ xs) = f x && all f xs

-- the same numbers, and as many
abbrev pub same : List ℕ → List ℕ → Bool
same [] [] = true
same [] (y ∷ ys) = false
same (x ∷ xs) [] = false
same (x ∷ xs) (y ∷ ys) = eqb x y && same xs ys
