-- Gates: one is through where all of them stand open, and only there.
use mathlib.Core.Bool.{Bool, true, false, cond}
use mathlib.Core.List.{List, [], ◌∷◌}
use mathlib.Core.Path.{◌≡◌, ◌∙◌, refl, ap}
use Prim.Native.Nat.{ℕ, ◌≤◌}
use Rattle.messages.proofs.Chain.{bounds, left_of, right_of}
use Rattle.messages.specs.Tests.{all, between}
use Rattle.rules.proofs.Tests.{picked}
use Rattle.rules.specs.Gates.{Gate, through}

-- each gate stands open
abbrev pub Open : List Gate → Type 0
Open [] = Unit {0}
Open (g ∷ gs) = (g.stands_open ≡ true) × Open gs

-- the gates of a refusal that document 01 lists
abbrev pub listed : Gate → Bool
listed g = between 1 g.number 11

module _ {A : Type 0} (shut : ℕ → A) (passed : A) where
  pub passes : (gs : List Gate) → Open gs → through gs shut passed ≡ passed
  passes [] o = refl
  passes (g ∷ gs) o = ap (λ (b : Bool). cond b (through gs shut passed) (shut g.number)) o.0 ∙ passes gs o.1

  -- what holds of each refusal and of what passes, holds of what comes out
  pub either_way : (P : A → Type 0) → ((k : ℕ) → P (shut k)) → P passed → (gs : List Gate) → P (through gs shut passed)
  either_way P s p [] = p
  either_way P s p (g ∷ gs) =
      picked P g.stands_open (through gs shut passed) (shut g.number) (λ e. either_way P s p gs) (λ e. s g.number)

  -- where what came out, P, is what no refusal gives
  module _ (P : A → Type 0) (never : (k : ℕ) → (1 ≤ k) × (k ≤ 11) → P (shut k) → ⊥) where
    one_open : (b : Bool) (x : A) (k : ℕ) → between 1 k 11 ≡ true → P (cond b x (shut k)) → (b ≡ true) × P x
    one_open true x k l e = (refl, e)
    one_open false x k l e = absurd (never k (bounds 1 k 11 l) e)

    pub all_open : (gs : List Gate) → all listed gs ≡ true → P (through gs shut passed) → Open gs × P passed
    all_open [] l e = (tt, e)
    all_open (g ∷ gs) l e =
        let here = one_open g.stands_open (through gs shut passed) g.number (left_of _ _ l) e in
        let rest = all_open gs (right_of (listed g) _ l) here.1 in
        ((here.0, rest.0), rest.1)
