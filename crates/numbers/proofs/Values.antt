-- What the code's tests say of a text as a number.
use Rattle.std.proofs.Common.{Err, Ok, Result, ⊎_elim, None, Some, Bool, true, false, ◌&&◌, cond, true≢false, List, [], ◌∷◌, ◌≡◌, ◌∙◌, sym, ap, ℕ, zero, suc, ◌+◌, ◌≤◌, ◌<◌, le-leb, arith, leb, drop, drop_of_length-le, get_or, length}
use Rattle.std.proofs.lemmas.Bool.{lt-leb}
use Rattle.std.proofs.Math.Bool.{and-false}
use Rattle.std.specs.Result.{OkIff, result_ok}
use Rattle.std.proofs.str.Laws.{order}
use Rattle.messages.proofs.Chain.{last, skip}
use Rattle.messages.specs.Tests.{all, between, every}
use Rattle.numbers.proofs.Sums.{Reading, split_digits}
use Rattle.numbers.specs.Number.{number_in}
use Rattle.lines.specs.Lines.{Text}
use Rattle.numbers.specs.Digits.{is_digit, is_number, most_digits, most_number, no_needless0, value_from, value_of}

-- one test that fails is enough
pub fails : (bs : List Bool) (k : ℕ) → get_or bs k true ≡ false → every bs ≡ false
fails [] k e = absurd (true≢false e)
fails (b ∷ bs) zero e = ap (λ (x : Bool). x && every bs) e
fails (b ∷ bs) (suc k) e = ap (λ (x : Bool). b && x) (fails bs k e) ∙ and-false b

module _ (xs : Text) where
  abbrev tests : List Bool
  tests = between 1 (length xs) most_digits ∷ no_needless0 xs ∷ all is_digit xs ∷ leb (value_of xs) most_number ∷ []

  pub unreadable : (k : ℕ) → get_or tests k true ≡ false → None ≡ number_in xs
  unfolding is_number
  unreadable k e = ap (λ (b : Bool). cond b (Some (value_of xs)) None) (sym (fails tests k e))

  module _ (sum i : ℕ) (reading : Reading xs sum i) where
    pub no_digit : i < length xs → is_digit (get_or xs i 0) ≡ false → None ≡ number_in xs
    no_digit h e =
        unreadable 2
        (sym (split_digits xs sum i reading h) ∙ ap (λ (b : Bool). b && all is_digit (drop (i + 1) xs)) e)

    pub value_read_lem : length xs ≤ i → sum ≡ value_of xs
    value_read_lem h = sym (ap (value_from sum) (drop_of_length-le xs {i = i} h)) ∙ reading.finish

    pub too_much : length xs ≤ i → most_number < sum → None ≡ number_in xs
    too_much h k = unreadable 3 (lt-leb (value_of xs) most_number (omega (arith, value_read_lem h)))

    pub is_number_lem : length xs ≤ i → between 1 (length xs) most_digits ≡ true → no_needless0 xs ≡ true → sum ≤ most_number → Some sum ≡ number_in xs
    unfolding is_number
    is_number_lem h a b k =
        let v = value_read_lem h in
        let d : all is_digit xs ≡ true = sym reading.digits ∙ ap (all is_digit) (drop_of_length-le xs {i = i} h) in
        let passes : true ≡ every tests = skip a (skip b (skip d (last (sym (le-leb (value_of xs) most_number (omega arith)))))) in
        ap Some v ∙ ap (λ (y : Bool). cond y (Some (value_of xs)) None) passes

    -- a sum of over 16 bits is no number
    pub narrowed : {E : Type 0} (r : Result ℕ E) → length xs ≤ i → between 1 (length xs) most_digits ≡ true → no_needless0 xs ≡ true
        → OkIff r (sum < 65536) sum → result_ok r ≡ number_in xs
    narrowed (Ok x) h a b (few, e) = ap Some e ∙ is_number_lem h a b (omega arith)
    narrowed (Err e) h a b many = ⊎_elim (λ k. too_much h k) (λ k. absurd (many (omega arith))) (order most_number sum)
