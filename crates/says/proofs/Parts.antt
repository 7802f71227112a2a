-- A text parted at its tabs, as std parts it.
use Rattle.std.proofs.Common.{cond, List, [], ◌∷◌, ◌≡◌, ◌∙◌, refl, ap, ℕ, eqb}
use Rattle.std.specs.List.{onto_first, slice_split}
use Rattle.lines.specs.Lines.{Text, onto, tab}
use Rattle.says.specs.Text.{parts}

onto_same : (x : ℕ) (ps : List Text) → onto_first x ps ≡ onto x ps
onto_same x [] = refl
onto_same x (p ∷ ps) = refl

pub split_parts : (t : Text) → slice_split (λ x. eqb x tab) t ≡ parts t
split_parts [] = refl
split_parts (x ∷ xs) =
    ap (λ (ps : List Text). cond (eqb x tab) ([] ∷ ps) (onto_first x ps)) (split_parts xs)
    ∙ ap (λ (ps : List Text). cond (eqb x tab) ([] ∷ parts xs) ps) (onto_same x (parts xs))
