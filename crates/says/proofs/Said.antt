-- What a line says, by the code's tests: line 1 in one go, a step number by number.
use Rattle.std.proofs.Common.{None, Option, Some, Bor, Bool, true, false, ◌&&◌, cond, List, [], ◌∷◌, ◌++◌, map, append_assoc, append-nil, ◌≡◌, ◌∙◌, refl, sym, ap, ap₂, subst, ⊎_elim, ℕ, zero, suc, ◌+◌, ◌-◌, ◌≤◌, ◌<◌, le-leb, arith, eqb, leb, drop, drop_of_length-le, get_or, length, length-append, length-take, replicate, set, take}
use Rattle.std.proofs.Math.Seq.{set_at}
use Rattle.std.proofs.lemmas.Bool.{lt-leb}
use Rattle.std.proofs.lemmas.List.{length-map}
use Rattle.std.proofs.str.Laws.{order}
use Rattle.std.specs.Iterator.{AlwaysYields}
use Rattle.std.specs.Cmp.Lexicographic.{pointwise}
use Rattle.std.proofs.lemmas.Iterator.{YieldsList}
use Rattle.std.specs.List.{enumerate_from, slice_split}
use Rattle.says.proofs.Parts.{split_parts}
use Rattle.messages.proofs.Chain.{last, skip}
use Rattle.messages.specs.Layout.{filled}
use Rattle.messages.specs.Tests.{all, every, same}
use Rattle.rules.specs.Run.{step_width}
use Rattle.numbers.proofs.Values.{fails}
use Rattle.numbers.specs.Digits.{is_number, value_of}
use Rattle.numbers.specs.Number.{number_in}
use Rattle.says.specs.Says.{answers_said, numbers_said, step_said}
use Rattle.lines.specs.Lines.{Text, tab}
use Rattle.says.specs.Text.{answers_in, answers_start, body, is_answers_line, is_ended, is_step_line, parts, step_in}

-- line 1

no_number : is_number [] ≡ false
unfolding is_number
no_number = refl

-- as std compares two lists
starts : (t : Text) → pointwise eqb (take 2 t) answers_start ≡ same (take 2 t) answers_start
starts [] = refl
starts (x ∷ []) = refl
starts (x ∷ y ∷ t) = refl

two_of : (n : ℕ) (t : Text) → 2 ≤ n → take 2 (take n t) ≡ take 2 t
two_of zero t h = absurd (omega arith)
two_of (suc zero) t h = absurd (omega arith)
two_of (suc (suc n)) [] h = refl
two_of (suc (suc n)) (x ∷ []) h = refl
two_of (suc (suc n)) (x ∷ y ∷ t) h = refl

module _ (l : Text) where
  abbrev pub tests : List Bool
  tests = is_ended l ∷ same (take 2 l) answers_start ∷ is_number (drop 2 (body l)) ∷ []

  pub no_answers : (k : ℕ) → get_or tests k true ≡ false → None ≡ answers_said l
  unfolding is_answers_line
  no_answers k e = ap (λ (b : Bool). cond b (Some (answers_in l)) None) (sym (fails tests k e))

  module _ (b : Text) (is : b ≡ body l) where
    start_of : 2 ≤ length b → pointwise eqb (take 2 b) answers_start ≡ same (take 2 l) answers_start
    start_of h =
        starts b ∙ ap (λ (t : Text). same (take 2 t) answers_start) is
        ∙ ap (λ (t : Text). same t answers_start) (two_of (length l - 1) l (omega (arith, ap length is, length-take (length l - 1) l)))

    pub no_start : pointwise eqb (take 2 b) answers_start ≡ false → None ≡ answers_said l
    no_start e =
        ⊎_elim
        (λ few. no_answers 2 (ap is_number (drop_of_length-le (body l) {i = 2} (omega (arith, ap length is))) ∙ no_number))
        (λ many. no_answers 1 (sym (start_of many) ∙ e))
        (order (length b) 2)

    pub answers_read : is_ended l ≡ true → 2 ≤ length b → pointwise eqb (take 2 b) answers_start ≡ true → (digits : Text) → digits ≡ drop 2 b
        → number_in digits ≡ answers_said l
    unfolding is_answers_line answers_in
    answers_read ended h e digits f =
        let given : is_number (drop 2 (body l)) ≡ every tests = skip ended (skip (sym (start_of h) ∙ e) (last refl)) in
        ap number_in (f ∙ ap (drop 2) is)
        ∙ ap (λ (b : Bool). cond b (Some (value_of (drop 2 (body l)))) None) given

-- a step: its first numbers are read, and those of the other parts are still to be read

pub record Going {S : Type 0} (gives : S → Option (ℕ × Bor Text) → S → Type 0) (it : S) (xs : Text) (numbers : List ℕ) : Type 0 where
  pub done : List ℕ
  pub rest : List Text
  pub few : length done ≤ step_width
  pub yields : AlwaysYields gives (λ p. (p.0, p.1.now)) it (enumerate_from (length done) rest)
  pub readable : all is_number rest ≡ all is_number (parts xs)
  pub values : map value_of (parts xs) ≡ done ++ map value_of rest
  pub filled_up : numbers ≡ filled step_width 0 done

pub begin : {S : Type 0} (gives : S → Option (ℕ × Bor Text) → S → Type 0) (it : S) (xs : Text)
    → YieldsList gives (λ p. (p.0, p.1.now)) it (enumerate_from 0 (slice_split (λ x. eqb x tab) xs)) → Going gives it xs (replicate step_width 0)
begin gives it xs y =
    record {
      done = [];
      rest = parts xs;
      few = omega arith;
      yields = subst (λ (ps : List Text). AlwaysYields gives (λ p. (p.0, p.1.now)) it (enumerate_from 0 ps)) (split_parts xs) y.runs;
      readable = refl;
      values = refl;
      filled_up = refl;
    }

-- the next zero is replaced
next_filled : (done : List ℕ) (v : ℕ) → length done < step_width
    → set (filled step_width 0 done) (length done) v ≡ filled step_width 0 (done ++ v ∷ [])
next_filled done v h =
    let m = step_width - length done - 1 in
    let e : step_width - length done ≡ suc m = omega arith in
    let f : m ≡ step_width - length (done ++ v ∷ []) = omega (arith, length-append done (v ∷ [])) in
    ap (λ (k : ℕ). set (done ++ replicate k 0) (length done) v) e
    ∙ set_at done 0 (replicate m 0) v (length done) refl
    ∙ sym (append_assoc done (v ∷ []) (replicate m 0))
    ∙ ap (λ (k : ℕ). (done ++ v ∷ []) ++ replicate k 0) f

-- what stands behind an answer, and behind none
pub read_by : {A : Type 0} (b : Bool) (v w : A) → Some v ≡ cond b (Some w) None → (b ≡ true) × (v ≡ w)
read_by true v w e = (refl, cc)
read_by false v w e = absurd (cc)

pub unread_by : {A : Type 0} (b : Bool) (w : A) → None ≡ cond b (Some w) None → b ≡ false
unread_by true w e = absurd (cc)
unread_by false w e = refl

module _ {S : Type 0} (gives : S → Option (ℕ × Bor Text) → S → Type 0) (it : S) where
  abbrev seen : ℕ × Bor Text → ℕ × Text
  seen p = (p.0, p.1.now)

  taken_by : (n : ℕ) (rest : List Text) → AlwaysYields gives seen it (enumerate_from n rest) → (p : ℕ × Bor Text) (next : S) → gives it (Some p) next
      → (others : List Text) × (rest ≡ p.1.now ∷ others) × (p.0 ≡ n) × AlwaysYields gives seen next (enumerate_from (n + 1) others)
  taken_by n [] y p next g = absurd (y p next g)
  taken_by n (r ∷ rs) y p next g =
      let h = y.1 p next g in
      (rs, ap (λ (q : ℕ × Text). q.1 ∷ rs) (sym h.0), ap (λ (q : ℕ × Text). q.0) h.0, h.1)

  none_by : (n : ℕ) (rest : List Text) → AlwaysYields gives seen it (enumerate_from n rest) → (next : S) → gives it None next → rest ≡ []
  none_by n [] y next g = refl
  none_by n (r ∷ rs) y next g = absurd (y.0 next g)

  module _ (xs : Text) (numbers : List ℕ) (going : Going gives it xs numbers) where
    as_many : length (parts xs) ≡ length going.done + length going.rest
    as_many =
        omega
        (arith, length-map (parts xs) value_of, ap length going.values, length-append going.done (map value_of going.rest), length-map going.rest value_of)

    -- no part is left
    pub said_all : (next : S) → gives it None next → Some numbers ≡ numbers_said xs
    said_all next g =
        let over = none_by (length going.done) going.rest going.yields next g in
        let yes : true ≡ all is_number (parts xs) = ap (all is_number) (sym over) ∙ going.readable in
        let values : map value_of (parts xs) ≡ going.done =
        going.values ∙ ap (λ (z : List Text). going.done ++ map value_of z) over ∙ append-nil going.done in
        let many : length (parts xs) ≤ step_width = omega (arith, as_many, ap length over, going.few) in
        ap Some (going.filled_up ∙ ap (filled step_width 0) (sym values))
        ∙ ap (λ (b : Bool). cond b (Some (filled step_width 0 (map value_of (parts xs)))) None) (skip (sym yes) (last (sym (le-leb _ _ many))))

    module _ (part : ℕ × Bor Text) (next : S) (g : gives it (Some part) next) where
      taken : (others : List Text) × (going.rest ≡ part.1.now ∷ others) × (part.0 ≡ length going.done)
          × AlwaysYields gives seen next (enumerate_from (length going.done + 1) others)
      taken = taken_by (length going.done) going.rest going.yields part next g

      said_no : (k : ℕ) → get_or (all is_number (parts xs) ∷ leb (length (parts xs)) step_width ∷ []) k true ≡ false → None ≡ numbers_said xs
      said_no k e =
          ap (λ (b : Bool). cond b (Some (filled step_width 0 (map value_of (parts xs)))) None)
          (sym (fails (all is_number (parts xs) ∷ leb (length (parts xs)) step_width ∷ []) k e))

      pub said_too_much : step_width ≤ part.0 → None ≡ numbers_said xs
      said_too_much h =
          let t = taken in
          said_no 1 (lt-leb _ _ (omega (arith, as_many, ap length t.1, t.2)))

      pub said_none : None ≡ number_in part.1.now → None ≡ numbers_said xs
      said_none e =
          let t = taken in
          said_no 0
          (sym going.readable ∙ ap (all is_number) t.1
          ∙ ap (λ (b : Bool). b && all is_number t.0) (unread_by (is_number part.1.now) (value_of part.1.now) e))

      pub turn : (v : ℕ) → Some v ≡ number_in part.1.now → part.0 < step_width → Going gives next xs (set numbers part.0 v)
      turn v e h =
          let t = taken in
          let r = read_by (is_number part.1.now) v (value_of part.1.now) e in
          let long : length (going.done ++ v ∷ []) ≡ length going.done + 1 = length-append going.done (v ∷ []) in
          record {
            done = going.done ++ v ∷ [];
            rest = t.0;
            few = omega (arith, long, t.2);
            yields = subst (λ (n : ℕ). AlwaysYields gives seen next (enumerate_from n t.0)) (sym long) t.3;
            readable = skip r.0 refl ∙ ap (all is_number) (sym t.1) ∙ going.readable;
            values =
                going.values ∙ ap (λ (z : List Text). going.done ++ map value_of z) t.1
                ∙ ap (λ (k : ℕ). going.done ++ k ∷ map value_of t.0) (sym r.1)
                ∙ sym (append_assoc going.done (v ∷ []) (map value_of t.0));
            filled_up =
                ap₂ (λ (z : List ℕ) (k : ℕ). set z k v) going.filled_up t.2
                ∙ next_filled going.done v (omega (arith, t.2));
          }

-- the line as a whole
module _ (l : Text) where
  abbrev numbered : Bool
  numbered = every (all is_number (parts (body l)) ∷ leb (length (parts (body l))) step_width ∷ [])

  pub said_unended : is_ended l ≡ false → None ≡ step_said l
  unfolding is_step_line
  said_unended e = ap (λ (b : Bool). cond (b && numbered) (Some (step_in l)) None) (sym e)

  pub said_ended : is_ended l ≡ true → (b : Text) → b ≡ body l → numbers_said b ≡ step_said l
  unfolding is_step_line step_in
  said_ended e b is = ap numbers_said is ∙ ap (λ (b : Bool). cond (b && numbered) (Some (step_in l)) None) (sym e)
