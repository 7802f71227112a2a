-- The text of a number: how long it is, how it goes on from that of a tenth, and that it reads back.
use Rattle.std.proofs.Common.{Bool, true, false, not, cond, ◌||◌, [], ◌∷◌, ◌++◌, ◌≡◌, ◌∙◌, refl, sym, ap, ℕ, zero, suc, ◌+◌, ◌*◌, ◌-◌, ◌/◌, ◌%◌, ◌≤◌, ◌<◌, arith, eq-eqb, le-leb, ltb-false, ltb-true, ne_eqb, eqb, ltb, get_or, length, length-append}
use Rattle.std.proofs.Math.ListN.{get_or-append}
use Rattle.std.proofs.Math.Bool.{or-true}
use Rattle.std.proofs.lemmas.Bool.{le-ltb, lt-ltb}
use Rattle.messages.proofs.Chain.{last, left_of, right_of, skip}
use Rattle.messages.specs.Tests.{all, between}
use Rattle.lines.specs.Lines.{Text}
use Rattle.numbers.specs.Digits.{digit0, is_digit, is_number, most_digits, most_number, no_needless0, value_from, value_of}
use Rattle.printing.specs.Decimal.{ReadsBack, decimal, digits}

-- 10 to a power
tens : ℕ → ℕ
tens zero = 1
tens (suc f) = 10 * tens f

-- one digit, or more
data Size (n : ℕ) : Bool → Type 0 where
  single : n < 10 → Size n true
  several : 10 ≤ n → Size n false

size : (n : ℕ) → Size n (ltb n 10)
size n = told (ltb n 10) refl
  where
    told : (b : Bool) → ltb n 10 ≡ b → Size n b
    told true e = single (ltb-true n 10 e)
    told false e = several (ltb-false n 10 e)

abbrev pub last_digit : ℕ → ℕ
last_digit n = digit0 + n % 10

pub short : (f n : ℕ) → length (digits f n) ≤ f
unfolding digits
short zero n = omega arith
short (suc f) n = by (ltb n 10) (digits f (n / 10)) (short f (n / 10))
  where
    by : (b : Bool) (xs : Text) → length xs ≤ f → length (cond b [] xs ++ (last_digit n ∷ [])) ≤ suc f
    by true xs h = omega arith
    by false xs h = omega (arith, length-append xs (last_digit n ∷ []))

-- one digit more than a number may have changes nothing
enough : (f n : ℕ) → n < tens (suc f) → digits (suc f) n ≡ digits (suc (suc f)) n
unfolding digits tens
enough zero n h =
    let e : ltb n 10 ≡ true = lt-ltb n 10 (omega arith) in
    ap (λ (b : Bool). cond b [] [] ++ (last_digit n ∷ [])) e
    ∙ sym (ap (λ (b : Bool). cond b [] (digits 1 (n / 10)) ++ (last_digit n ∷ [])) e)
enough (suc f) n h =
    ap (λ (xs : Text). cond (ltb n 10) [] xs ++ (last_digit n ∷ [])) (enough f (n / 10) (omega arith))

-- so the text of a number is that of a tenth and its last digit
pub decimal_one : (n : ℕ) → n < 10 → decimal n ≡ last_digit n ∷ []
unfolding digits
decimal_one n h = ap (λ (b : Bool). cond b [] (digits 4 (n / 10)) ++ (last_digit n ∷ [])) (lt-ltb n 10 h)

pub decimal_more : (n : ℕ) → 10 ≤ n → n ≤ most_number → decimal n ≡ decimal (n / 10) ++ (last_digit n ∷ [])
unfolding digits tens
decimal_more n h l =
    ap (λ (b : Bool). cond b [] (digits 4 (n / 10)) ++ (last_digit n ∷ [])) (le-ltb n 10 h)
    ∙ ap (λ (xs : Text). xs ++ (last_digit n ∷ [])) (enough 3 (n / 10) (omega arith))

pub decimal_longer : (n : ℕ) → 10 ≤ n → n ≤ most_number → length (decimal n) ≡ length (decimal (n / 10)) + 1
decimal_longer n h l = ap length (decimal_more n h l) ∙ length-append (decimal (n / 10)) (last_digit n ∷ [])

value_more : (v : ℕ) (xs : Text) (x : ℕ) → value_from v (xs ++ (x ∷ [])) ≡ value_from v xs * 10 + (x - digit0)
value_more v [] x = refl
value_more v (y ∷ xs) x = value_more (v * 10 + (y - digit0)) xs x

value : (f n : ℕ) → n < tens f → value_of (digits f n) ≡ n
unfolding digits tens
value zero n h = omega arith
value (suc f) n h =
    value_more 0 (cond (ltb n 10) [] (digits f (n / 10))) (last_digit n)
    ∙ by (ltb n 10) (size n) (digits f (n / 10)) (value f (n / 10) (omega arith))
  where
    by : (b : Bool) → Size n b → (xs : Text) → value_of xs ≡ n / 10 → value_of (cond b [] xs) * 10 + (last_digit n - digit0) ≡ n
    by true (single s) xs e = omega arith
    by false (several s) xs e = omega arith

all_more : (xs : Text) (x : ℕ) → all is_digit xs ≡ true → is_digit x ≡ true → all is_digit (xs ++ (x ∷ [])) ≡ true
all_more [] x h e = sym (skip e refl)
all_more (y ∷ xs) x h e = sym (skip (left_of (is_digit y) (all is_digit xs) h) (sym (all_more xs x (right_of (is_digit y) (all is_digit xs) h) e)))

pub all_digits : (f n : ℕ) → all is_digit (digits f n) ≡ true
unfolding digits
all_digits zero n = refl
all_digits (suc f) n =
    all_more (cond (ltb n 10) [] (digits f (n / 10))) (last_digit n) (by (ltb n 10) (digits f (n / 10)) (all_digits f (n / 10)))
    (sym (skip (le-leb digit0 (last_digit n) (omega arith)) (sym (le-leb (last_digit n) (digit0 + 9) (omega arith)))))
  where
    by : (b : Bool) (xs : Text) → all is_digit xs ≡ true → all is_digit (cond b [] xs) ≡ true
    by true xs e = refl
    by false xs e = e

pub some : (f n : ℕ) → 1 ≤ f → 1 ≤ length (digits f n)
unfolding digits
some zero n h = absurd (omega arith)
some (suc f) n h = omega (arith, length-append (cond (ltb n 10) [] (digits f (n / 10))) (last_digit n ∷ []))

above_one : (f : ℕ) → 1 < tens f → 1 ≤ f
unfolding tens
above_one zero h = absurd (omega arith)
above_one (suc f) h = omega arith

-- the first digit is no 0 but in 0
first : (f n : ℕ) → 1 ≤ n → n < tens f → eqb (get_or (digits f n) 0 0) digit0 ≡ false
unfolding digits tens
first zero n l h = absurd (omega arith)
first (suc f) n l h =
    by (ltb n 10) (size n) (digits f (n / 10))
    (λ (m : 1 ≤ n / 10). some f (n / 10) (above_one f (omega arith)))
    (λ (m : 1 ≤ n / 10). first f (n / 10) m (omega arith))
  where
    by : (b : Bool) → Size n b → (xs : Text) → (1 ≤ n / 10 → 1 ≤ length xs) → (1 ≤ n / 10 → eqb (get_or xs 0 0) digit0 ≡ false)
        → eqb (get_or (cond b [] xs ++ (last_digit n ∷ [])) 0 0) digit0 ≡ false
    by true (single s) xs k e = ne_eqb (last_digit n) digit0 (λ (z : last_digit n ≡ digit0). omega arith)
    by false (several s) xs k e =
        ap (λ (d : ℕ). eqb d digit0) (get_or-append xs (last_digit n ∷ []) 0 0 (k (omega arith))) ∙ e (omega arith)

-- either one digit, or the first is no 0
no_needless : (n : ℕ) → n ≤ most_number → no_needless0 (decimal n) ≡ true
unfolding tens
no_needless n l = by (ltb n 10) (size n)
  where
    by : (b : Bool) → Size n b → no_needless0 (decimal n) ≡ true
    by true (single s) =
        ap (λ (b : Bool). b || not (eqb (get_or (decimal n) 0 0) digit0)) (eq-eqb (length (decimal n)) 1 (ap length (decimal_one n s)))
    by false (several s) =
        ap (λ (b : Bool). eqb (length (decimal n)) 1 || not b) (first most_digits n (omega arith) (omega arith)) ∙ or-true (eqb (length (decimal n)) 1)

pub reads_back : ReadsBack
unfolding is_number tens
reads_back n l =
    let text = decimal n in
    let v : value_of text ≡ n = value most_digits n (omega arith) in
    let long : between 1 (length text) most_digits ≡ true =
    sym (skip (le-leb 1 (length text) (some most_digits n (omega arith))) (sym (le-leb (length text) most_digits (short most_digits n)))) in
    (sym (skip long (skip (no_needless n l) (skip (all_digits most_digits n) (last (sym (le-leb (value_of text) most_number (omega arith))))))), v)
