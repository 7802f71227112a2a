-- Chains of tests, as code that returns early meets them: a test that passed is skipped, one that failed stops the chain.
use mathlib.Core.Bool.{Bool, true, false, ◌&&◌, and-true, true≢false, false≢true}
use mathlib.Core.Path.{◌≡◌, ◌∙◌, refl, sym, subst}
use Prim.Native.Nat.{ℕ, ◌≤◌, ◌<◌}
use borrow.Author.Tests.{le-leb, leb-true, lt-leb}
use lib.Dec.{leb}
use Rattle.messages.specs.Tests.{between}

pub skip : {a b r : Bool} → a ≡ true → r ≡ b → r ≡ (a && b)
skip {a} {b} {r} p q = subst (λ (x : Bool). r ≡ (x && b)) (sym p) q

pub stop : {a : Bool} (b : Bool) → a ≡ false → false ≡ (a && b)
stop b p = subst (λ (x : Bool). false ≡ (x && b)) (sym p) refl

pub last : {a r : Bool} → r ≡ a → r ≡ (a && true)
last {a} p = p ∙ sym (and-true a)

-- code that returns at `!f(..)`: what the promise `r ≡ a` of that call says where the code went on, and where it returned
pub held : {a r : Bool} → r ≡ a → r ≡ true → a ≡ true
held p q = sym p ∙ q

pub failed : {a r : Bool} → r ≡ a → r ≡ false → a ≡ false
failed p q = sym p ∙ q

-- both of two tests that passed together
pub left_of : (a b : Bool) → (a && b) ≡ true → a ≡ true
left_of true b e = refl
left_of false b e = e

pub right_of : (a b : Bool) → (a && b) ≡ true → b ≡ true
right_of true b e = e
right_of false b e = absurd (false≢true e)

-- a number and a range: two tests
pub bounds : (l x u : ℕ) → between l x u ≡ true → (l ≤ x) × (x ≤ u)
bounds l x u e = (leb-true l x (left_of _ _ e), leb-true x u (right_of (leb l x) _ e))

pub inside : {l x u : ℕ} → l ≤ x → x ≤ u → between l x u ≡ true
inside p q = sym (skip (le-leb _ _ p) (sym (le-leb _ _ q)))

pub below : {l x : ℕ} (u : ℕ) → x < l → between l x u ≡ false
below u p = sym (stop _ (lt-leb _ _ p))

pub above : {l x u : ℕ} → l ≤ x → u < x → between l x u ≡ false
above p q = sym (skip (le-leb _ _ p) (sym (lt-leb _ _ q)))

-- a loop that leaves at the first test that fails: x is what is asked from here on, r the test here, y what is asked after it
pub leaves : {x : Bool} (r y : Bool) → x ≡ (r && y) → r ≡ false → false ≡ x
leaves true y e f = absurd (true≢false f)
leaves false y e f = sym e

pub goes_on : {x : Bool} (r y : Bool) → x ≡ (r && y) → r ≡ true → y ≡ x
goes_on true y e f = sym e
goes_on false y e f = absurd (false≢true f)
