-- Lines that are printed one after the other are the lines of the text that they make; and a line of numbers begins with a digit.
use mathlib.Core.List.Memᴰ
use mathlib.Core.List.{Memᴰ}
use Rattle.std.proofs.Common.{Bool, true, false, not, cond, List, [], ◌∷◌, ◌++◌, append_assoc, map, ◌≡◌, ◌∙◌, refl, sym, ap, ap₂, subst, ⊎_elim, ℕ, ◌+◌, ◌≤◌, arith, ne_eqb, eqb, get_or, length}
use Rattle.std.proofs.lemmas.Bool.{false≢true}
use Rattle.messages.proofs.Chain.{bounds, left_of, right_of, skip}
use Rattle.messages.specs.Tests.{all}
use Rattle.lines.specs.Lines.{Text, line_feed, lines, onto, tab}
use Rattle.numbers.specs.Digits.{digit0, is_digit, most_digits}
use Rattle.printing.proofs.Digits.{all_digits, some}
use Rattle.printing.specs.Decimal.{decimal}
use Rattle.printing.specs.Printed.{letter_e, letter_r, line, lines_of, refused_line, reply_line, step_line}

-- a text is the first line, whatever comes after it
abbrev pub IsLine : Text → Type 0
IsLine l = (rest : Text) → lines (l ++ rest) ≡ l ∷ lines rest

-- bytes other than a line feed in front of it
abbrev plain : ℕ → Bool
plain x = not (eqb x line_feed)

plain_not : (b : Bool) → not b ≡ true → b ≡ false
plain_not true e = sym e
plain_not false e = refl

further : (xs : Text) → all plain xs ≡ true → (l : Text) → IsLine l → IsLine (xs ++ l)
further [] h l e rest = e rest
further (x ∷ xs) h l e rest =
    ap₂ (λ (b : Bool) (ls : List Text). cond b ((x ∷ []) ∷ lines ((xs ++ l) ++ rest)) (onto x ls))
    (plain_not (eqb x line_feed) (left_of (plain x) (all plain xs) h)) (further xs (right_of (plain x) (all plain xs) h) l e rest)

line_is : (ps : List Text) → all (all plain) ps ≡ true → IsLine (line ps)
line_is [] h = λ rest. refl
line_is (x ∷ []) h = further x (left_of (all plain x) true h) (line_feed ∷ []) (λ rest. refl)
line_is (x ∷ y ∷ ys) h =
    further x (left_of (all plain x) (all (all plain) (y ∷ ys)) h) (tab ∷ line (y ∷ ys))
    (further (tab ∷ []) refl (line (y ∷ ys)) (line_is (y ∷ ys) (right_of (all plain x) (all (all plain) (y ∷ ys)) h)))

digit_plain : (x : ℕ) → is_digit x ≡ true → plain x ≡ true
digit_plain x e =
    let b = bounds digit0 x (digit0 + 9) e in
    ap not (ne_eqb x line_feed (λ (z : x ≡ line_feed). omega arith))

digits_plain : (xs : Text) → all is_digit xs ≡ true → all plain xs ≡ true
digits_plain [] h = refl
digits_plain (x ∷ xs) h =
    sym (skip (digit_plain x (left_of (is_digit x) (all is_digit xs) h)) (sym (digits_plain xs (right_of (is_digit x) (all is_digit xs) h))))

numbers_plain : (row : List ℕ) → all (all plain) (map decimal row) ≡ true
numbers_plain [] = refl
numbers_plain (n ∷ row) = sym (skip (digits_plain (decimal n) (all_digits most_digits n)) (sym (numbers_plain row)))

pub step_line_is : (row : List ℕ) → IsLine (step_line row)
step_line_is row = line_is (map decimal row) (numbers_plain row)

pub reply_line_is : (row : List ℕ) → IsLine (reply_line row)
reply_line_is row = line_is ((letter_r ∷ []) ∷ map decimal row) (numbers_plain row)

pub refused_line_is : (number at : ℕ) → IsLine (refused_line number at)
refused_line_is number at = line_is ((letter_e ∷ []) ∷ map decimal (number ∷ at ∷ [])) (numbers_plain (number ∷ at ∷ []))

-- what holds of the line of each row, and of each line after them, holds of each line of the whole
pub each_line : (f : List ℕ → Text) → ((row : List ℕ) → IsLine (f row)) → (P : Text → Type 0) → (rows : List (List ℕ))
    → ((row : List ℕ) → Memᴰ row rows → P (f row)) → (rest : Text) → ((l : Text) → Memᴰ l (lines rest) → P l) → (l : Text)
    → Memᴰ l (lines (lines_of f rows ++ rest)) → P l
each_line f is P [] each rest after l m = after l m
each_line f is P (row ∷ rows) each rest after l m =
    let parted : lines (lines_of f (row ∷ rows) ++ rest) ≡ f row ∷ lines (lines_of f rows ++ rest) =
    ap lines (append_assoc (f row) (lines_of f rows) rest) ∙ is row (lines_of f rows ++ rest)
    in
    ⊎_elim (λ (e : l ≡ f row). subst P (sym e) (each row (Memᴰ.head refl)))
    (each_line f is P rows (λ r n. each r (Memᴰ.tail n)) rest after l)
    (Memᴰ.cases_cons (subst (Memᴰ l) parted m))

-- the first byte of a number
first_of : (xs rest : Text) → all is_digit xs ≡ true → 1 ≤ length xs → is_digit (get_or (xs ++ rest) 0 0) ≡ true
first_of [] rest h l = absurd (omega arith)
first_of (x ∷ xs) rest h l = left_of (is_digit x) (all is_digit xs) h

pub begins_no_R : (n : ℕ) (rest : Text) → get_or (decimal n ++ rest) 0 0 ≡ letter_r → ⊥
begins_no_R n rest e =
    false≢true (sym (ap is_digit e) ∙ first_of (decimal n) rest (all_digits most_digits n) (some most_digits n (omega arith)))
