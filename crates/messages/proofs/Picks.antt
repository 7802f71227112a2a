-- A value that is picked by a test, as code that returns early meets it.
use mathlib.Core.Bool.{Bool, true, false, cond}
use mathlib.Core.Path.{◌≡◌, sym, subst}

pub yes : {A : Type 0} {b : Bool} {r x : A} (y : A) → b ≡ true → r ≡ x → r ≡ cond b x y
yes {r = r} {x = x} y p q = subst (λ (z : Bool). r ≡ cond z x y) (sym p) q

pub no : {A : Type 0} {b : Bool} {r y : A} (x : A) → b ≡ false → r ≡ y → r ≡ cond b x y
no {r = r} {y = y} x p q = subst (λ (z : Bool). r ≡ cond z x y) (sym p) q
