-- The lines that are handed over: there is one or there is none, by where the text ends.
use Rattle.std.proofs.Common.{ℕ, None, Option, Some, ◌≡◌, ◌∙◌, ◌<◌, ◌≤◌, ap, arith, refl, sym}
use Rattle.std.specs.Borrow.{Bor}
use Rattle.lines.specs.Handed.{GoesBehind, Hands}
use Rattle.lines.specs.Lines.{Text}
use Rattle.lines.specs.declared.reader.Reader.{Reader}
use Rattle.unique.specs.Unique.{LineUnique, NextUnique, handed}

pub line_unique : LineUnique
line_unique t at None None h h' = refl
line_unique t at None (Some l') h h' = absurd (omega (arith, h, h'.0))
line_unique t at (Some l) None h h' = absurd (omega (arith, h', h.0))
line_unique t at (Some l) (Some l') h h' = ap Some (h.1 ∙ sym h'.1)

behind_unique : (reader left left' : Reader) (r r' : Option (Bor Text)) → GoesBehind reader r left → GoesBehind reader r' left'
    → (handed r ≡ handed r') × (left ≡ left')
behind_unique reader left left' None None h h' = (refl, h.1 ∙ sym h'.1)
behind_unique reader left left' None (Some l') h h' = absurd (omega (arith, h.0, h'.0))
behind_unique reader left left' (Some l) None h h' = absurd (omega (arith, h.0, h'.0))
behind_unique reader left left' (Some l) (Some l') h h' = (ap Some (h.1 ∙ sym h'.1), h.2 ∙ sym h'.2)

pub next_unique : NextUnique
next_unique reader left left' r r' h h' = behind_unique reader left left' r r' h.1 h'.1
