-- The places that a ready step names are places of the table, and what is ready for a record is ready for its whole table.
use mathlib.Core.Bool.{true}
use mathlib.Core.List.{List, [], ◌∷◌}
use mathlib.Core.Path.{◌≡◌, refl, subst, sym}
use Prim.Native.Nat.{ℕ, ◌*◌, ◌≤◌}
use native.Mathlib.Nat.{le_trans, mul-le-mul_right}
use native.Mathlib.Omega.{arith}
use borrow.Author.Tests.{le-leb, leb-true}
use lib.ListN.{length}
use Rattle.arguments.specs.Ready.{Ready, ReadyStep}
use Rattle.messages.proofs.Chain.{bounds, inside, left_of, right_of, skip}
use Rattle.messages.specs.Layout.{message_width}
use Rattle.record.specs.Table.{room_of}
use Rattle.rules.specs.Codes.{row_of}
use Rattle.rules.specs.declared.codes.Argument.{Argument}
use Rattle.rules.specs.Items.{each_argument, placed}
use Rattle.rules.specs.Step.{arguments_of, code_of}

-- a place up to n is within the table
pub in_table : {n : ℕ} {t : List ℕ} {row : List Argument} {s : List ℕ} (ready : Ready n t row s) {p : ℕ} → p ≤ n → p * message_width ≤ length t
in_table ready h = le_trans (mul-le-mul_right message_width h) ready.room

-- places up to n are places of the table
wider : (n m : ℕ) → n ≤ m → (k : Argument) (x : ℕ) → placed n k x ≡ true → placed m k x ≡ true
wider n m h Argument.Unused x e = e
wider n m h Argument.B x e = e
wider n m h Argument.S x e = e
wider n m h Argument.C x e = e
wider n m h Argument.A x e = le-leb _ _ (le_trans (leb-true _ _ e) h)
wider n m h (Argument.The k) x e = inside (bounds 1 x n e).0 (le_trans (bounds 1 x n e).1 h)
wider n m h (Argument.At i) x e = inside (bounds 1 x n e).0 (le_trans (bounds 1 x n e).1 h)

all_wider : (n m : ℕ) → n ≤ m → (ks : List Argument) (xs : List ℕ) → each_argument (placed n) ks xs ≡ true → each_argument (placed m) ks xs ≡ true
all_wider n m h [] xs e = refl
all_wider n m h (k ∷ ks) [] e =
    sym (skip (wider n m h k 0 (left_of (placed n k 0) _ e)) (sym (all_wider n m h ks [] (right_of (placed n k 0) _ e))))
all_wider n m h (k ∷ ks) (x ∷ xs) e =
    sym (skip (wider n m h k x (left_of (placed n k x) _ e)) (sym (all_wider n m h ks xs (right_of (placed n k x) _ e))))

pub for_table : {n : ℕ} {t : List ℕ} {row : List Argument} {s : List ℕ} → Ready n t row s → Ready (room_of t) t row s
for_table {n} {t} {s = s} ready =
    record {
      known = ready.known;
      room = omega arith;
      places = all_wider n (room_of t) (omega (arith, ready.room)) (row_of (code_of s)).takes (arguments_of s) ready.places;
    }

pub without_row : {n : ℕ} {t : List ℕ} {row : List Argument} {s : List ℕ} → Ready n t row s → ReadyStep n t s
without_row {n} {t} {s = s} ready = subst (λ (z : List Argument). Ready n t z s) ready.known.its_row ready
