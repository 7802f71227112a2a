-- A text, on lists of bytes: its lines in order, and the line at a position.
use Rattle.std.specs.Prelude.{ℕ, suc, cond, List, [], ◌∷◌, eqb, drop, get_or}

abbrev pub Text : Type 0
Text = List ℕ

abbrev pub tab : ℕ
tab = 9

abbrev pub line_feed : ℕ
line_feed = 10

-- how many bytes stand before the first of a kind
abbrev pub before : ℕ → Text → ℕ
before kind [] = 0
before kind (x ∷ xs) = cond (eqb x kind) 0 (suc (before kind xs))

-- a byte more in front of the first of these texts
abbrev pub onto : ℕ → List Text → List Text
onto x [] = (x ∷ []) ∷ []
onto x (t ∷ ts) = (x ∷ t) ∷ ts

-- the lines of a text in order, line feed and all; the last may lack it
abbrev pub lines : Text → List Text
lines [] = []
lines (x ∷ xs) = cond (eqb x line_feed) ((x ∷ []) ∷ lines xs) (onto x (lines xs))

-- the line that starts after so many bytes of a text; none is left where this is empty
unfoldable pub line_at : Text → ℕ → Text
line_at t at = get_or (lines (drop at t)) 0 []
