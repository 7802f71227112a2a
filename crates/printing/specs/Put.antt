-- What a function that writes bytes into a lent table leaves and returns.
use Rattle.std.specs.Prelude.{ℕ, ◌+◌, ◌≤◌, List, ◌++◌, ◌≡◌, drop, length, take}
use Rattle.lines.specs.Lines.{Text}

-- the bytes bs stand at p of the table, and r is the next place. The last two follow from the first two where there was room for `most`
-- bytes, and bs are no more than that; callers count with them
pub record Put (before : List ℕ) (p : ℕ) (bs : Text) (most : ℕ) (after : List ℕ) (r : ℕ) : Type 0 where
  pub next : r ≡ p + length bs
  pub table : after ≡ take p before ++ bs ++ drop (p + length bs) before
  pub within : r ≤ p + most
  pub long : length after ≡ length before
