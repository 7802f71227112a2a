-- The line that a reader hands over next, and the reader behind it; none where no line is left.
use Rattle.std.specs.Prelude.{ℕ, ◌≡◌, ◌+◌, ◌≤◌, ◌<◌, List, MatchOption, Option, drop, length}
use Rattle.std.specs.Borrow.{Bor}
use Rattle.std.specs.Iterator.{YieldsFirstRef}
use Rattle.lines.specs.Lines.{Text, line_at, lines}
use Rattle.lines.specs.declared.reader.Reader.{Reader}

-- of a text, at a position
abbrev pub Hands : Text → ℕ → Option (Bor Text) → Type 0
Hands t at handed = MatchOption handed (length t ≤ at) (λ line. (at < length t) × (line.now ≡ line_at t at))

abbrev pub next_of : Reader → Text
next_of r = line_at r.text.now r.at

abbrev pub behind_next : Reader → Reader
behind_next r = record { text = r.text; at = r.at + length (next_of r) }

-- where no line is left the reader stays
abbrev pub GoesBehind : Reader → Option (Bor Text) → Reader → Type 0
GoesBehind r handed r' =
    MatchOption handed ((length r.text.now ≤ r.at) × (r' ≡ r)) (λ line. (r.at < length r.text.now) × (line.now ≡ next_of r) × (r' ≡ behind_next r))

abbrev pub lines_left : Reader → List Text
lines_left r = lines (drop r.at r.text.now)

-- the first of the lines that are left is handed over, and the reader goes behind it
abbrev pub HandsOver : Reader → Option (Bor Text) → Reader → Type 0
HandsOver r handed r' = YieldsFirstRef lines_left r handed r' × GoesBehind r handed r'
