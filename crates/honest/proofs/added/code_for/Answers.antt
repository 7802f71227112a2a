-- `honest::added::code_for` meets its promise: where the account is past the last bit, the answers shifted by it are 0.
use Rattle.std.proofs.Common.{ℕ, ◌∙◌, ◌%◌, ap, refl, nat_eq}
use Rattle.std.proofs.Math.Nat.{div-eq_of_lt, lt_of_lt_of_le}
use Rattle.std.proofs.Math.Pow.{pow_mono}
use Rattle.std.proofs.lemmas.Bool.{ne_eqb}
use Rattle.std.proofs.lemmas.Nat.{and_mask}
use Rattle.messages.proofs.Picks.{no}
use Rattle.honest.proofs.added.code_for.Goals.{else-b-le15-via-then-b-le15+else-answers-b-eq1, else-b-le15-via-else-b-le15}
use Rattle.honest.proofs.added.code_for.Goals as goal

pub returns-else-b-le15 : goal.returns-else-b-le15
returns-else-b-le15 c =
    elim c.else-b-le15.branch [
      | else-b-le15-via-then-b-le15+else-answers-b-eq1 w ↦ no _ (ne_eqb _ _ (λ e. w.if-answers-b-eq1.false (and_mask _ 1 ∙ e))) refl
      | else-b-le15-via-else-b-le15 w ↦ no _ (ap (λ (x : ℕ). nat_eq (x % 2) 1) (div-eq_of_lt (lt_of_lt_of_le c.ranges.answers.fits (pow_mono w.if-b-le15.false)))) refl
    ]
