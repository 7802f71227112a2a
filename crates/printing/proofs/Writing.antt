-- Bytes put one after the other are bytes put at once; and a loop that puts piece after piece.
use Rattle.std.proofs.Common.{List, [], ◌∷◌, ◌++◌, append_assoc, append-nil, ◌≡◌, ◌∙◌, refl, sym, ap, ap₂, subst, ℕ, ◌+◌, ◌/◌, ◌≤◌, ◌<◌, add-zero, arith, drop, length, length-append, take, take-append-drop, drop_at, drop-drop, length-take-le, take_at}
use Rattle.lines.specs.Lines.{Text, tab}
use Rattle.numbers.specs.Digits.{most_digits, most_number}
use Rattle.printing.proofs.Digits.{decimal_longer, decimal_more, decimal_one, last_digit, short}
use Rattle.printing.specs.Decimal.{decimal}
use Rattle.printing.specs.Put.{Put}
use Rattle.printing.specs.Widths.{cell_widest}

-- none
pub none : (out : List ℕ) (p most : ℕ) → Put out p [] most out p
none out p most =
    record {
      next = sym (add-zero p);
      table =
          sym (take-append-drop p out)
          ∙ ap₂ ◌++◌ (sym (append-nil (take p out))) (ap (λ (k : ℕ). drop k out) (sym (add-zero p)));
      within = omega arith;
      long = refl;
    }

-- no more than another bound
pub bounded : {before after : List ℕ} {p r m : ℕ} {bs : Text} (k : ℕ) → Put before p bs m after r → r ≤ p + k → Put before p bs k after r
bounded k put h = record { next = put.next; table = put.table; within = h; long = put.long }

-- these, and then those behind them
pub then : {before between after : List ℕ} {p q r m k : ℕ} {xs ys : Text} → q ≤ length before → Put before p xs m between q
    → Put between q ys k after r → Put before p (xs ++ ys) (m + k) after r
then {before} {between} {after} {p} {q} {r} {m} {k} {xs} {ys} fits first second =
    let front : length (take p before ++ xs) ≡ q =
    length-append (take p before) xs
    ∙ ap (λ (j : ℕ). j + length xs) (length-take-le p before (omega (arith, first.next)))
    ∙ sym first.next in
    let past : p + length xs + length ys ≡ p + length (xs ++ ys) = omega (arith, length-append xs ys) in
    record {
      next = omega (arith, past, first.next, second.next);
      table =
          second.table
          ∙ ap₂ (λ (a b : List ℕ). a ++ ys ++ b)
          (ap (take q) first.table ∙ take_at (take p before ++ xs) (drop (p + length xs) before) q front)
          (sym (drop-drop (length ys) q between)
          ∙ ap (drop (length ys)) (ap (drop q) first.table ∙ drop_at (take p before ++ xs) (drop (p + length xs) before) q front)
          ∙ drop-drop (length ys) (p + length xs) before
          ∙ ap (λ (j : ℕ). drop j before) past)
          ∙ ap (λ (a : List ℕ). a ++ drop (p + length (xs ++ ys)) before) (append_assoc (take p before) xs ys);
      within = omega (arith, first.within, second.within);
      long = second.long ∙ first.long;
    }

-- a number of one digit, and one of more
pub number_one : {before after : List ℕ} {p r : ℕ} (n : ℕ) → n < 10 → Put before p (last_digit n ∷ []) 1 after r
    → Put before p (decimal n) most_digits after r
number_one {before} {after} {p} {r} n h put =
    subst (λ (bs : Text). Put before p bs most_digits after r) (sym (decimal_one n h)) (bounded most_digits put (omega (arith, put.within)))

pub number_more : {before between after : List ℕ} {p q r : ℕ} (n : ℕ) → 10 ≤ n → n ≤ most_number → p + length (decimal n) ≤ length before
    → Put before p (decimal (n / 10)) most_digits between q → Put between q (last_digit n ∷ []) 1 after r
    → Put before p (decimal n) most_digits after r
number_more {before} {between} {after} {p} {q} {r} n h l fits first second =
    let longer = decimal_longer n h l in
    subst (λ (bs : Text). Put before p bs most_digits after r) (sym (decimal_more n h l))
    (bounded most_digits (then (omega (arith, first.next)) first second) (omega (arith, first.next, second.next, short most_digits n)))

-- a loop: of all that is to be put from p on, `rest` is still to come
pub record Going (before : List ℕ) (p : ℕ) (all : Text) (most : ℕ) (now : List ℕ) (r : ℕ) (rest : Text) : Type 0 where
  pub done : Text
  pub put : Put before p done most now r
  pub whole : done ++ rest ≡ all

pub begin : (before : List ℕ) (p : ℕ) (all : Text) → Going before p all 0 before p all
begin before p all = record { done = []; put = none before p 0; whole = refl }

pub turn : {before now next : List ℕ} {p r s most k : ℕ} {all rest bs : Text} (rest' : Text) (most' : ℕ) → r ≤ length before
    → Going before p all most now r rest → rest ≡ bs ++ rest' → Put now r bs k next s → s ≤ p + most' → Going before p all most' next s rest'
turn {bs = bs} rest' most' fits going split put h =
    record {
      done = going.done ++ bs;
      put = bounded most' (then fits going.put put) h;
      whole = append_assoc going.done bs rest' ∙ ap (λ (x : Text). going.done ++ x) (sym split) ∙ going.whole;
    }

pub over : {before now : List ℕ} {p r most : ℕ} {all rest : Text} → Going before p all most now r rest → rest ≡ [] → Put before p all most now r
over {before} {now} {p} {r} {most} going none_left =
    subst (λ (bs : Text). Put before p bs most now r)
    (sym (append-nil going.done) ∙ ap (λ (x : Text). going.done ++ x) (sym none_left) ∙ going.whole) going.put

-- a tab, and a number behind it
pub cell : {before between after : List ℕ} {p q r : ℕ} (n : ℕ) → p + cell_widest ≤ length before → Put before p (tab ∷ []) 1 between q
    → Put between q (decimal n) most_digits after r → Put before p (tab ∷ decimal n) cell_widest after r
cell n fits first second = then {k = most_digits} (omega (arith, first.next)) first second
