-- A text read byte by byte: where the first byte of a kind stands.
use Rattle.std.proofs.Common.{Bool, cond, [], ◌∷◌, ◌≡◌, ◌≢◌, ◌∙◌, refl, sym, ap, ℕ, zero, suc, ◌+◌, ◌<◌, add-one, arith, eq-eqb, ne_eqb, drop, get_or, length, drop-cons}
use Rattle.lines.specs.Lines.{Text, before}

-- the byte at a position is the first of what follows it
pub from : (t : Text) (i : ℕ) → i < length t → drop i t ≡ get_or t i 0 ∷ drop (i + 1) t
from t i h = drop-cons t i 0 h ∙ ap (λ (k : ℕ). get_or t i 0 ∷ drop k t) (sym (add-one i))

further : (kind x : ℕ) (t : Text) (n : ℕ) → x ≢ kind → before kind t ≡ n → before kind (x ∷ t) ≡ suc n
further kind x t n other e =
    ap (λ (b : Bool). cond b 0 (suc (before kind t))) (ne_eqb x kind other) ∙ ap suc e

pub found : (kind : ℕ) (t : Text) (n : ℕ) → n < length t → get_or t n 0 ≡ kind → ((k : ℕ) → k < n → get_or t k 0 ≢ kind) → before kind t ≡ n
found kind [] n h e o = absurd (omega arith)
found kind (x ∷ t) zero h e o = ap (λ (b : Bool). cond b 0 (suc (before kind t))) (eq-eqb x kind e)
found kind (x ∷ t) (suc n) h e o =
    further kind x t n (o 0 (omega arith)) (found kind t n (omega arith) e (λ k l. o (suc k) (omega arith)))

pub not_found : (kind : ℕ) (t : Text) → ((k : ℕ) → k < length t → get_or t k 0 ≢ kind) → before kind t ≡ length t
not_found kind [] o = refl
not_found kind (x ∷ t) o =
    further kind x t (length t) (o 0 (omega arith)) (not_found kind t (λ k l. o (suc k) (omega arith)))
