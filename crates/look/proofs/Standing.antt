-- Two messages compared number by number, and messages looked for among the first messages of a table.
use mathlib.Core.Bool.{Bool, ◌&&◌, ◌||◌, or_assoc, or_comm}
use mathlib.Core.List.{List, [], ◌∷◌, ◌++◌}
use mathlib.Core.Path.{◌≡◌, ◌∙◌, refl, sym, ap, ap₂}
use Prim.Native.Nat.{ℕ, suc, ◌+◌, ◌*◌, ◌-◌, ◌<◌, min}
use native.Mathlib.Omega.{arith}
use lib.Dec.{eqb}
use lib.ListN.{drop, take}
use Rattle.std.specs.Cmp.Lexicographic.{pointwise}
use Rattle.messages.specs.Layout.{message_width}
use Rattle.messages.specs.Parts.{Message}
use Rattle.record.proofs.Cut.{cut_next}
use Rattle.record.specs.Table.{Record, message_in, messages}
use Rattle.messages.specs.Tests.{same}
use Rattle.rules.specs.Report.{stands}

-- `==` of two slices of numbers
alike : (a b : List ℕ) → pointwise eqb a b ≡ same a b
alike [] [] = refl
alike [] (y ∷ b) = refl
alike (x ∷ a) [] = refl
alike (x ∷ a) (y ∷ b) = ap (λ (r : Bool). eqb x y && r) (alike a b)

-- one message more at the end
stands_more : (x : Message) (R : Record) (y : Message) → stands x (R ++ (y ∷ [])) ≡ (same y x || stands x R)
stands_more x [] y = refl
stands_more x (z ∷ R) y =
    ap (λ (b : Bool). same z x || b) (stands_more x R y)
    ∙ sym (or_assoc (same z x) (same y x) (stands x R))
    ∙ ap (λ (b : Bool). b || stands x R) (or_comm (same z x) (same y x))
    ∙ or_assoc (same y x) (same z x) (stands x R)

-- what stands, with one message more: r says whether that message is the one that is looked for
pub one_more : (x : Message) (R : Record) (m : Message) {before r : Bool} {y : Message} → before ≡ stands x R → r ≡ pointwise eqb m y → y ≡ x
    → (before || r) ≡ stands x (R ++ (m ∷ []))
one_more x R m {before} {r} e f g =
    or_comm before r ∙ ap₂ ◌||◌ (f ∙ ap (pointwise eqb m) g ∙ alike m x) e ∙ sym (stands_more x R m)

-- a look through a table: the message at place i + 1 is one of the first
pub one_counted : (t : List ℕ) (i first : ℕ) {m : Message} → m ≡ message_in t (record { 0 = i + 1 }) → i < first
    → messages (min i first) t ++ (m ∷ []) ≡ messages (min (i + 1) first) t
one_counted t i first e h =
    let k : min i first ≡ i = omega arith in
    let l : min (i + 1) first ≡ suc i = omega arith in
    let j : i + 1 - 1 ≡ i = omega arith in
    ap₂ (λ (R : Record) (x : Message). R ++ (x ∷ [])) (ap (λ (z : ℕ). messages z t) k)
    (e ∙ ap (λ (z : ℕ). take message_width (drop (z * message_width) t)) j)
    ∙ sym (cut_next message_width i t)
    ∙ ap (λ (z : ℕ). messages z t) (sym l)
