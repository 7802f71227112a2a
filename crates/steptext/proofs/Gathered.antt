-- The lines after line 1, one by one: what is gathered so far, and what the rest of the text makes of it.
use Rattle.std.proofs.Common.{Err, None, Ok, Option, Some, is_some, true, false, ◌&&◌, List, [], ◌∷◌, ◌++◌, append_assoc, append-nil, map, ◌≡◌, ◌∙◌, refl, sym, ap, subst, ℕ, ◌+◌, ◌*◌, ◌-◌, ◌≤◌, ◌<◌, leb-true, arith, leb, drop, length, length-append, replicate, take, length-take-le, take_at}
use Rattle.std.specs.Option.{ok_or}
use Rattle.std.proofs.lemmas.Bool.{le-ltb, lt-ltb}
use Rattle.std.proofs.lemmas.List.{length-map, length-replicate}
use Rattle.messages.proofs.Chain.{left_of, right_of}
use Rattle.messages.specs.Layout.{filled, flat}
use Rattle.record.specs.Table.{with_numbers}
use Rattle.messages.specs.Tests.{all}
use Rattle.rules.specs.Run.{most_steps, step_width}
use Rattle.rules.specs.Step.{Step}
use Rattle.numbers.specs.Digits.{is_number, value_of}
use Rattle.steptext.specs.Read.{Reading, read_steps, says, too_long, unreadable}
use Rattle.says.proofs.Said.{read_by, unread_by}
use Rattle.says.specs.Says.{step_said}
use Rattle.lines.specs.Lines.{Text}
use Rattle.says.specs.Text.{body, is_ended, is_step_line, parts, step_in}
use Rattle.steptext.specs.Told.{Gathers}
use Rattle.steptext.specs.declared.told.TextRefusal.TheVariants.{TooLong, Unreadable}

-- what `ok_or` makes of what a line says
pub no_step : {A E : Type 0} (s : Option A) (x e : E) → Err e ≡ ok_or s x → (None ≡ s) × (e ≡ x)
no_step None x e h = (refl, cc)
no_step (Some v) x e h = absurd (cc)

pub some_step : {A E : Type 0} (s : Option A) (x : E) (v : A) → Ok v ≡ ok_or s x → Some v ≡ s
some_step None x v h = absurd (cc)
some_step (Some w) x v h = cc

pub a_step : {A : Type 0} (s : Option A) → is_some s ≡ true → (v : A) × (Some v ≡ s)
a_step None h = absurd (cc)
a_step (Some v) h = (v, refl)

filled_long : (vs : List ℕ) → length vs ≤ step_width → length (filled step_width 0 vs) ≡ step_width
filled_long vs h =
    let e = length-append vs (replicate (step_width - length vs) 0) in
    let f = length-replicate {A = ℕ} (step_width - length vs) 0 in
    omega arith

pub seven : (l : Text) → is_step_line l ≡ true → length (step_in l) ≡ step_width
unfolding is_step_line step_in
seven l h =
    let ps = parts (body l) in
    let few = left_of (leb (length ps) step_width) true (right_of (all is_number ps) (leb (length ps) step_width && true) (right_of (is_ended l) _ h)) in
    filled_long (map value_of ps) (subst (λ (k : ℕ). k ≤ step_width) (sym (length-map ps value_of)) (leb-true (length ps) step_width few))

flat_more : (ss : List Step) (s : Step) → flat (ss ++ s ∷ []) ≡ flat ss ++ s
flat_more [] s = append-nil s
flat_more (x ∷ ss) s = ap (λ (z : List ℕ). x ++ z) (flat_more ss s) ∙ sym (append_assoc x (flat ss) s)

-- of all these lines, some are left, and the steps of those before them are gathered
pub record Going (lines : List Text) (answers : ℕ) (t₀ t : List ℕ) (left : List Text) (count : ℕ) : Type 0 where
  pub done : List Step
  pub long : length t ≡ length t₀
  pub few : count ≤ most_steps
  pub as_many : length done ≡ count
  pub finish : read_steps answers done left ≡ read_steps answers [] lines
  pub gathered : take (count * step_width) t ≡ flat done

-- the three answers

told_unreadable : (o : Reading) (t : List ℕ) (k : ℕ) → unreadable k ≡ o → k ≤ most_steps + 2 → Gathers o (Err (Unreadable k)) t
told_unreadable o t k e h =
    subst (λ (x : Reading). Gathers x (Err (Unreadable k)) t) e
    (record { tells = record { number = refl; answers = refl; count = refl; line = refl; few = omega arith; near = h }; gathered = refl })

told_too_long : (o : Reading) (t : List ℕ) → too_long ≡ o → Gathers o (Err TooLong) t
told_too_long o t e =
    subst (λ (x : Reading). Gathers x (Err TooLong) t) e
    (record {
      tells = record { number = refl; answers = refl; count = refl; line = refl; few = omega arith; near = omega arith };
      gathered = refl;
    })

told_says : (o : Reading) (t : List ℕ) (answers count : ℕ) (ss : List Step) → says answers ss ≡ o → length ss ≡ count → count ≤ most_steps
    → take (count * step_width) t ≡ flat ss → Gathers o (Ok (record { answers = answers; count = count })) t
told_says o t answers count ss e n h g =
    subst (λ (x : Reading). Gathers x (Ok (record { answers = answers; count = count })) t) e
    (record {
      tells = record { number = refl; answers = refl; count = sym n; line = refl; few = h; near = omega arith };
      gathered = ap (λ (k : ℕ). take (k * step_width) t) n ∙ g;
    })

-- the next line, by what it is
module _ (answers : ℕ) (ss : List Step) (l : Text) (ls : List Text) where
  next_unreadable : is_step_line l ≡ false → unreadable (length ss + 2) ≡ read_steps answers ss (l ∷ ls)
  unfolding read_steps
  next_unreadable h = sym (simp h)

  next_too_many : is_step_line l ≡ true → most_steps ≤ length ss → too_long ≡ read_steps answers ss (l ∷ ls)
  unfolding read_steps
  next_too_many h k = sym (simp (h, le-ltb (length ss) most_steps k))

  next_step : is_step_line l ≡ true → length ss < most_steps
      → read_steps answers (ss ++ step_in l ∷ []) ls ≡ read_steps answers ss (l ∷ ls)
  unfolding read_steps
  next_step h k = sym (simp (h, lt-ltb (length ss) most_steps k))

module _ (lines : List Text) (answers : ℕ) (t₀ t : List ℕ) (left : List Text) (count : ℕ) (going : Going lines answers t₀ t left count) where
  module _ (l : Text) (ls : List Text) (split : left ≡ l ∷ ls) where
    from_here : read_steps answers going.done (l ∷ ls) ≡ read_steps answers [] lines
    from_here = ap (read_steps answers going.done) (sym split) ∙ going.finish

    pub refused_line_lem : None ≡ step_said l → Gathers (read_steps answers [] lines) (Err (Unreadable (count + 2))) t
    refused_line_lem e =
        told_unreadable _ t (count + 2)
        (ap (λ (k : ℕ). unreadable (k + 2)) (sym going.as_many)
        ∙ next_unreadable answers going.done l ls (unread_by (is_step_line l) (step_in l) e)
        ∙ from_here)
        (omega (arith, going.few))

    module _ (s : Step) (said : Some s ≡ step_said l) where
      pub refused_text : count ≡ most_steps → Gathers (read_steps answers [] lines) (Err TooLong) t
      refused_text k =
          told_too_long _ t
          (next_too_many answers going.done l ls (read_by (is_step_line l) s (step_in l) said).0 (omega (arith, going.as_many)) ∙ from_here)

      pub turn : (count ≡ most_steps → ⊥) → most_steps * step_width ≤ length t₀ → (after : List ℕ)
          → after ≡ with_numbers (count * step_width) t s → length after ≡ length t → Going lines answers t₀ after ls (count + 1)
      turn k room after w same =
          let r = read_by (is_step_line l) s (step_in l) said in
          let w7 : length s ≡ step_width = ap length r.1 ∙ seven l r.0 in
          let front : length (take (count * step_width) t ++ s) ≡ (count + 1) * step_width =
          omega
          (arith, length-append (take (count * step_width) t) s, length-take-le (count * step_width) t (omega (arith, going.long, going.few)), w7) in
          record {
            done = going.done ++ s ∷ [];
            long = same ∙ going.long;
            few = omega (arith, going.few);
            as_many = length-append going.done (s ∷ []) ∙ ap (λ (n : ℕ). n + 1) going.as_many;
            finish =
                ap (λ (x : Step). read_steps answers (going.done ++ x ∷ []) ls) r.1
                ∙ next_step answers going.done l ls r.0 (omega (arith, going.as_many, going.few)) ∙ from_here;
            gathered =
                ap (take ((count + 1) * step_width)) w
                ∙ take_at (take (count * step_width) t ++ s) (drop (count * step_width + length s) t) ((count + 1) * step_width) front
                ∙ ap (λ (z : List ℕ). z ++ s) going.gathered
                ∙ sym (flat_more going.done s);
          }

  pub over_and_done : left ≡ [] → Gathers (read_steps answers [] lines) (Ok (record { answers = answers; count = count })) t
  unfolding read_steps
  over_and_done e =
      told_says _ t answers count going.done (sym (ap (read_steps answers going.done) e) ∙ going.finish) going.as_many going.few going.gathered
