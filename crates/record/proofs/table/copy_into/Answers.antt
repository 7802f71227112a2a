-- `record::table::copy_into` meets its promise.
use Prim.Native.Nat.{◌+◌, ◌<◌, ℕ}
use lib.ListN.{drop, get_or, length, length-set, set, take}
use lib.Seq.{paste, paste-suc, take_all}
use mathlib.Core.List.{List, ◌++◌}
use mathlib.Core.Path.{◌∙◌, ◌≡◌, ap, refl, sym}
use native.Mathlib.Nat.{le_of_eq}
use native.Mathlib.Numerals.{add-one}
use native.Mathlib.Omega.{arith}
use Rattle.record.specs.Table.{with_numbers}
use Rattle.record.proofs.table.copy_into.Goals as goal

-- one number more is copied
turn : {l : List ℕ} (t : List ℕ) (from : ℕ) (xs : List ℕ) (i : ℕ) → l ≡ paste t from xs i → from + i < length t → i < length xs
    → set l (from + i) (get_or xs i 0) ≡ paste t from xs (i + 1)
turn t from xs i e h k =
    ap (λ (x : List ℕ). set x (from + i) (get_or xs i 0)) e ∙ paste-suc t from xs i 0 h k ∙ ap (paste t from xs) (sym (add-one i))

-- all of them are
over : (t : List ℕ) (from : ℕ) (xs : List ℕ) (i : ℕ) → i ≡ length xs → paste t from xs i ≡ with_numbers from t xs
over t from xs i e =
    ap (paste t from xs) e ∙ ap (λ (x : List ℕ). take from t ++ x ++ drop (from + length xs) t) (take_all (length xs) xs (le_of_eq refl))

pub loop-i-preserved : goal.loop-i-preserved
loop-i-preserved c =
    let t = c.args.t.now in
    let xs = c.args.xs.now in (
      simp length-set c.loop-i.invariant.0,
      turn t c.args.from xs c.loop-i.i c.loop-i.invariant.1 (omega arith) (omega arith),
    )

pub returns : goal.returns
returns c = c.loop-i.invariant.1 ∙ over c.args.t.now c.args.from c.args.xs.now c.loop-i.i (omega arith)
