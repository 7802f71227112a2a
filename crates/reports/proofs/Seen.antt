-- What follows from a look: whether all four messages of a payment stand, and whether the record is lawful.
use Rattle.std.proofs.Common.{Bool, ℕ, List, [], ◌∷◌, Option, None, Some, ◌≡◌, true, false, cond, eqb, is_some, unwrap_or, refl, sym, ap}
use Rattle.std.proofs.lemmas.Bool.{false≢true}
use Rattle.messages.proofs.Picks.{yes}
use Rattle.messages.specs.Tests.{all, every}
use Rattle.messages.specs.declared.parts.Mark.{Mark}
use Rattle.look.specs.Looked.{looked, passed, seen_in}
use Rattle.look.specs.declared.look.Seen.{Seen}
use Rattle.record.specs.Table.{Record, messages}
use Rattle.rules.specs.Report.{agreed}

-- all four, by what has been seen
pub agreed_seen : (x : Mark) (R : Record) {s : Seen} → s ≡ seen_in x R
    → agreed x R ≡ every (eqb x.hashed.account.0 x.buyer.0 ∷ s.initiated ∷ s.invoiced ∷ s.paid ∷ s.asked ∷ [])
agreed_seen x R {s} e =
    ap
    (λ (z : Seen). every (eqb x.hashed.account.0 x.buyer.0 ∷ z.initiated ∷ z.invoiced ∷ z.paid ∷ z.asked ∷ []))
    (sym e)

-- in a trusted record every message is passed
pub all_trusted : (R : Record) → all (passed true) R ≡ true
all_trusted [] = refl
all_trusted (m ∷ R) = all_trusted R

pub seen_trusted : (n : ℕ) (t : List ℕ) (x : Mark) → looked n n t true x ≡ Some (seen_in x (messages n t))
seen_trusted n t x = sym (yes _ (all_trusted (messages n t)) refl)

-- a look that ends at a message, and one that ends with the record
pub ended : (b : Bool) (x : Seen) → None ≡ cond b (Some x) None → b ≡ false
ended true x e = absurd (false≢true (ap is_some e))
ended false x e = refl

pub seen_all : (b : Bool) (x : Seen) {y : Seen} → Some y ≡ cond b (Some x) None → (b ≡ true) × (y ≡ x)
seen_all true x e = (refl, ap (λ (o : Option Seen). unwrap_or o x) e)
seen_all false x e = absurd (false≢true (sym (ap is_some e)))
