-- Two refusals with one number are the same.
use Rattle.std.proofs.Common.{◌≡◌, ℕ, ◌-◌, [], ◌∷◌, get_or, ap, sym, refl, ◌∙◌}
use Rattle.refusals.specs.Numbers.{refusal_number}
use Rattle.refusals.specs.declared.Refusal.{Refusal}
use Rattle.refusals.specs.declared.Refusal.TheVariants.{
  Argument,
  Code,
  Condition,
  Item,
  Place,
  Record,
  Room,
  Steps,
  Verdicts,
}

abbrev numbered : ℕ → Refusal
numbered n = get_or (Record ∷ Code ∷ Argument ∷ Place ∷ Item ∷ Condition ∷ Room ∷ Steps ∷ Verdicts ∷ []) (n - 1) Record

numbered-number : (r : Refusal) → numbered (refusal_number r) ≡ r
numbered-number Record = refl
numbered-number Code = refl
numbered-number Argument = refl
numbered-number Place = refl
numbered-number Item = refl
numbered-number Condition = refl
numbered-number Room = refl
numbered-number Steps = refl
numbered-number Verdicts = refl

pub numbers_apart : (a b : Refusal) → refusal_number a ≡ refusal_number b → a ≡ b
numbers_apart a b e = sym (numbered-number a) ∙ ap numbered e ∙ numbered-number b
