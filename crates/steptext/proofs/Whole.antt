-- A text as a whole: its size, its first line, and the step table afterwards.
use Rattle.std.proofs.Common.{Bor, inl, inr, ◌⊎◌, ap₂, Err, None, Ok, Option, Some, Bool, ◌&&◌, cond, List, [], ◌∷◌, ◌++◌, ◌≡◌, ◌∙◌, refl, sym, ap, subst, ℕ, ◌*◌, ◌≤◌, ◌<◌, le-leb, zero-add, arith, leb, drop, length, take}
use Rattle.std.proofs.Math.Bool.{and-false}
use Rattle.std.proofs.lemmas.Bool.{lt-leb}
use Rattle.messages.specs.Layout.{flat}
use Rattle.record.specs.Table.{with_numbers}
use Rattle.rules.specs.Run.{most_steps, over, step_width}
use Rattle.rules.specs.Step.{Step}
use Rattle.says.proofs.Said.{read_by, unread_by}
use Rattle.steptext.specs.Read.{
  Reading,
  count_of,
  most_bytes,
  read_lines,
  read_steps,
  read_text,
  steps_in,
  too_long,
  unreadable,
}
use Rattle.says.specs.Says.{answers_said}
use Rattle.lines.specs.Handed.{lines_left}
use Rattle.lines.specs.declared.reader.Reader.{Reader}
use Rattle.lines.specs.Lines.{Text, lines}
use Rattle.says.specs.Text.{answers_in, is_answers_line}
use Rattle.steptext.specs.Told.{BeginsWith, Gathers, Leaves}
use Rattle.steptext.specs.declared.told.Said.{Said}
use Rattle.steptext.specs.declared.told.TextRefusal.{TextRefusal}
use Rattle.steptext.specs.declared.told.TextRefusal.TheVariants.{TooLong, Unreadable}

front : (t xs : List ℕ) → with_numbers 0 t xs ≡ over xs t
front t xs = ap (λ (k : ℕ). xs ++ drop k t) (zero-add (length xs))

none_over : (ss : List Step) → 0 ≡ length ss → (t : List ℕ) → t ≡ over (flat ss) t
none_over [] e t = refl
none_over (s ∷ ss) e t = absurd (omega arith)

pub at_front : (r : Reader) (t : Bor Text) → r.text ≡ t → r.at ≡ 0 → lines_left r ≡ lines t.now
at_front r t h k = ap₂ (λ (x : Bor Text) (n : ℕ). lines (drop n x.now)) h k

-- the first of some lines
module _ (l : Text) (ls : List Text) where
  unread_line : None ≡ answers_said l → read_lines (l ∷ ls) ≡ unreadable 1
  unfolding read_lines
  unread_line e = ap (λ (b : Bool). cond b (read_steps (answers_in l) [] ls) (unreadable 1)) (unread_by (is_answers_line l) (answers_in l) e)

  read_line : (answers : ℕ) → Some answers ≡ answers_said l → read_lines (l ∷ ls) ≡ read_steps answers [] ls
  unfolding read_lines
  read_line answers e =
      let r = read_by (is_answers_line l) answers (answers_in l) e in
      ap (λ (b : Bool). cond b (read_steps (answers_in l) [] ls) (unreadable 1)) r.0 ∙ ap (λ (k : ℕ). read_steps k [] ls) (sym r.1)

no_lines : read_lines [] ≡ unreadable 1
unfolding read_lines
no_lines = refl

pub begins : (ls : List Text) (l : Text) (after : List Text) (r : Option ℕ) → ls ≡ l ∷ after → r ≡ answers_said l → BeginsWith ls r after
begins ls l after None e f = ap read_lines e ∙ unread_line l after f
begins ls l after (Some answers) e f = ap read_lines e ∙ read_line l after answers f

pub begins_with_none : (ls after : List Text) (r : Option ℕ) → ls ≡ [] → r ≡ None → BeginsWith ls r after
begins_with_none ls after None e f = ap read_lines e ∙ no_lines
begins_with_none ls after (Some answers) e f = absurd (cc)

module _ (t : Text) (steps : List ℕ) where
  leaves_too_long : too_long ≡ read_text (length steps) t → Leaves (read_text (length steps) t) steps (Err TooLong) steps
  leaves_too_long e =
      subst (λ (o : Reading). Leaves o steps (Err TooLong) steps) e
      (record {
        tells = record { number = refl; answers = refl; count = refl; line = refl; few = omega arith; near = omega arith };
        table = refl;
      })

  pub too_many_bytes : most_bytes < length t → Leaves (read_text (length steps) t) steps (Err TooLong) steps
  unfolding read_text
  too_many_bytes h =
      leaves_too_long
      (ap (λ (b : Bool). cond (b && leb (most_steps * step_width) (length steps)) (read_lines (lines t)) too_long) (sym (lt-leb (length t) most_bytes h)))

  pub too_short : length steps < most_steps * step_width → Leaves (read_text (length steps) t) steps (Err TooLong) steps
  unfolding read_text
  too_short h =
      leaves_too_long
      (ap (λ (b : Bool). cond b (read_lines (lines t)) too_long)
      (sym (ap (λ (b : Bool). leb (length t) most_bytes && b) (lt-leb (most_steps * step_width) (length steps) h)
      ∙ and-false (leb (length t) most_bytes))))

  pub refused : (most_bytes < length t) ⊎ (length steps < most_steps * step_width) → Leaves (read_text (length steps) t) steps (Err TooLong) steps
  refused (inl h) = too_many_bytes h
  refused (inr h) = too_short h

  module _ (small : length t ≤ most_bytes) (wide : most_steps * step_width ≤ length steps) where
    by_lines : read_lines (lines t) ≡ read_text (length steps) t
    unfolding read_text
    by_lines =
        ap (λ (b : Bool). cond b (read_lines (lines t)) too_long)
        (sym (ap (λ (b : Bool). b && leb (most_steps * step_width) (length steps)) (le-leb (length t) most_bytes small)
        ∙ le-leb (most_steps * step_width) (length steps) wide))

    pub unread_first : read_lines (lines t) ≡ unreadable 1 → Leaves (read_text (length steps) t) steps (Err (Unreadable 1)) steps
    unread_first e =
        subst (λ (o : Reading). Leaves o steps (Err (Unreadable 1)) steps) (sym e ∙ by_lines)
        (record {
          tells = record { number = refl; answers = refl; count = refl; line = refl; few = omega arith; near = omega arith };
          table = refl;
        })

    module _ (reading : Reading) (first : read_lines (lines t) ≡ reading) where
      pub all_gathered : (read : Said) (gathered left : List ℕ) → Gathers reading (Ok read) gathered
          → left ≡ with_numbers 0 steps (take (read.count * step_width) gathered) → Leaves (read_text (length steps) t) steps (Ok read) left
      all_gathered read gathered left g w =
          let many : read.count * step_width ≡ count_of reading * step_width = omega (arith, g.tells.count) in
          subst (λ (x : Reading). Leaves x steps (Ok read) left) (sym first ∙ by_lines)
          (record {
            tells = g.tells;
            table = w ∙ ap (with_numbers 0 steps) (ap (λ (k : ℕ). take k gathered) many ∙ g.gathered) ∙ front steps (flat (steps_in reading));
          })

      pub none_gathered : (refusal : TextRefusal) (gathered : List ℕ) → Gathers reading (Err refusal) gathered
          → Leaves (read_text (length steps) t) steps (Err refusal) steps
      none_gathered refusal gathered g =
          subst (λ (x : Reading). Leaves x steps (Err refusal) steps) (sym first ∙ by_lines)
          (record { tells = g.tells; table = none_over (steps_in reading) g.tells.count steps })
