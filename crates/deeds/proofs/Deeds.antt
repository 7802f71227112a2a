-- What the code of a step does: the rows of the forged kinds are neighbours in the table, and only the honest steps after the first have a
-- condition.
use mathlib.Core.Bool.{Bool, true, false, true≢false}
use mathlib.Core.List.{List, [], map}
use mathlib.Core.Logic.{◌⊎◌, inl, inr}
use mathlib.Core.Path.{◌≡◌, ◌∙◌, refl, sym, ap}
use Prim.Native.Nat.{ℕ, ◌+◌, ◌-◌, ◌≤◌, ◌<◌}
use native.Mathlib.Omega.{arith}
use borrow.Author.Tests.{leb-false, leb-true}
use lib.Dec.{leb}
use lib.ListN.{get_or-map, drop, get_or, get_or-replicate, replicate, take}
use lib.Seq.{get_or-drop, get_or-take}
use Rattle.messages.specs.declared.kind.Kind.{Kind}
use Rattle.messages.specs.Parts.{Message}
use Rattle.messages.specs.Tests.{all}
use Rattle.record.specs.Table.{Record, messages}
use Rattle.rules.specs.Codes.{Deed, Row, asks, forges, invoices, most_code, pays, replies, row, row_of, rows, starts}
use Rattle.rules.specs.declared.codes.Argument.{Argument}
use Rattle.rules.specs.Honest.{holds}
use Rattle.rules.specs.Step.{added, arguments_of, claims, code_of}
use Rattle.forged.specs.Outside.{forged_in}
use Rattle.deeds.specs.Coded.{added_in, allowed_in}

abbrev pub deed_of : Row → Deed
deed_of x = x.deed

abbrev none : Row
none = row starts []

-- n rows after the first l are alike in what f tells of them
pub neighbours : {A : Type 0} (f : Row → A) (l n : ℕ) (d : A) → take n (drop l (map f rows)) ≡ replicate n d → (code : ℕ) → l < code → code ≤ l + n
    → f (row_of code) ≡ d
neighbours f l n d e code h w =
    let there = map f rows in
    let k : code - 1 ≡ l + (code - 1 - l) = omega arith in
    let j : code - 1 - l < n = omega arith in
    sym (get_or-map f rows (code - 1) none)
    ∙ ap (λ (i : ℕ). get_or there i (f none)) k
    ∙ sym (get_or-drop l there (code - 1 - l) (f none))
    ∙ sym (get_or-take n (drop l there) (code - 1 - l) (f none) j)
    ∙ ap (λ (x : List _). get_or x (code - 1 - l) (f none)) e
    ∙ get_or-replicate n (code - 1 - l) d (f none) j

pub forges_so : (answers n : ℕ) (t s : List ℕ) (k : Kind) {x : Message} → (row_of (code_of s)).deed ≡ forges k → x ≡ forged_in k (messages n t) s
    → x ≡ added_in answers n t s
unfolding forged_in
forges_so answers n t s k e p =
    p ∙ ap (λ (d : Deed). added (messages n t) (row_of (code_of s)).takes (arguments_of s) answers d) (sym e)

-- only the honest steps after the first have a condition
abbrev free : Deed → Bool
free starts = true
free invoices = false
free (pays key) = false
free asks = false
free replies = false
free (forges k) = true

abbrev is_free : Row → Bool
is_free x = free x.deed

freely : (R : Record) (ks : List Argument) (xs : List ℕ) (d : Deed) → free d ≡ true → true ≡ all holds (claims R ks xs d)
freely R ks xs starts e = refl
freely R ks xs invoices e = absurd (true≢false (sym e))
freely R ks xs (pays key) e = absurd (true≢false (sym e))
freely R ks xs asks e = absurd (true≢false (sym e))
freely R ks xs replies e = absurd (true≢false (sym e))
freely R ks xs (forges k) e = refl

pub unconditional : (n : ℕ) (t s : List ℕ) → 1 ≤ code_of s → code_of s ≤ most_code → (code_of s ≡ 2 → ⊥) → (((code_of s ≡ 3) ⊎ (code_of s ≡ 38)) → ⊥)
    → (code_of s ≡ 4 → ⊥) → (code_of s ≡ 5 → ⊥) → true ≡ allowed_in n t s
unconditional n t s l h two pays_so four five =
    freely (messages n t) (row_of (code_of s)).takes (arguments_of s) (row_of (code_of s)).deed (by (leb (code_of s) 1) refl)
  where
    three : code_of s ≡ 3 → ⊥
    three e = pays_so (inl e)

    last : code_of s ≡ 38 → ⊥
    last e = pays_so (inr e)

    by : (b : Bool) → leb (code_of s) 1 ≡ b → free (row_of (code_of s)).deed ≡ true
    by true e = neighbours is_free 0 1 true refl (code_of s) (omega arith) (omega (arith, leb-true (code_of s) 1 e))
    by false e =
        neighbours is_free 5 32 true refl (code_of s) (omega (arith, leb-false (code_of s) 1 e, three)) (omega (arith, last))
