-- What the program prints of house replies: every line of it that begins with `R`.
use Rattle.std.specs.Prelude.{ℕ, ◌↔◌, ◌⊎◌, ◌≡◌, get_or, take}
use mathlib.Core.List.{List, Memᴰ, [], ◌∷◌}
use Rattle.lines.specs.Lines.{Text, lines}
use Rattle.printing.specs.Printed.{letter_r, reply_line}
use Rattle.results.specs.Shown.{Shows}

-- a line of a house reply that ends in 20 or 21, and in 21 exactly for the outsider with himself
pub record ReplyPrinted (l : Text) : Type 0 where
  pub place : ℕ
  pub seller : ℕ
  pub buyer : ℕ
  pub number : ℕ
  pub says : l ≡ reply_line (place ∷ seller ∷ buyer ∷ number ∷ [])
  pub told : (number ≡ 20) ⊎ (number ≡ 21)
  pub outsider : (number ≡ 21) ↔ ((buyer ≡ 0) × (seller ≡ 0))

-- So it is with every text, in the bytes that `play_text` leaves; a refused text has no such line. (proofs/Replies)
abbrev pub RepliesPrinted : Type 0
RepliesPrinted =
    (text t out : List ℕ) (r : ℕ) (table left : List ℕ) → Shows text t out r table left
    → (l : Text) → Memᴰ l (lines (take r left)) → get_or l 0 0 ≡ letter_r → ReplyPrinted l
