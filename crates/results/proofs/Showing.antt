-- What the reader of a text answered, and what was then printed and left, is what the definitions say of the text.
use mathlib.Core.Bool.{Bool, true, false, ◌&&◌, cond}
use mathlib.Core.List.Memᴰ
use mathlib.Core.List.{List, [], ◌∷◌, ◌++◌, append-nil, Memᴰ}
use mathlib.Core.Logic.{⊎_elim}
use mathlib.Core.Path.{◌≡◌, ◌∙◌, refl, sym, ap, ap₂, subst}
use Prim.Native.Nat.{ℕ, ◌+◌, ◌*◌, ◌/◌, ◌%◌, ◌≤◌}
use native.Mathlib.Nat.{zero-add}
use native.Mathlib.Omega.{arith}
use lib.Dec.{eqb, leb, ltb}
use lib.ListN.{drop, length, length-replicate, replicate, take}
use lib.Seq.{length-take-le, take_at}
use Rattle.record.specs.Table.{cut, most_room, room_of, whole}
use Rattle.messages.specs.Layout.{flat, message_width}
use Rattle.record.proofs.Flat.{AllLong, cut_flat, flat_length}
use Rattle.rules.specs.Run.{most_steps, over, played, step_count, step_width, steps_of}
use Rattle.rules.specs.Step.{Step}
use Rattle.steptext.proofs.Gathered.{seven}
use Rattle.steptext.specs.Read.{Reading, most_bytes, read_lines, read_steps, read_text, says, steps_in, too_long, unreadable}
use Rattle.lines.specs.Lines.{Text, lines}
use Rattle.says.specs.Text.{answers_in, is_answers_line, is_step_line, step_in}
use Rattle.steptext.specs.Told.{Leaves, Tells, refusal_line, refusal_number}
use Rattle.steptext.specs.declared.told.Said.{Said}
use Rattle.steptext.specs.declared.told.TextRefusal.{TextRefusal}
use Rattle.steptext.specs.declared.told.TextRefusal.TheVariants.{TooLong, Unreadable}
use Rattle.printing.specs.Printed.{refused_line}
use Rattle.std.specs.Prelude.{Err, Ok, Result}
use Rattle.results.specs.Output.{output, reading, results, results_of}
use Rattle.printing.specs.Put.{Put}
use Rattle.rows.specs.Rows.{most_printed}
use Rattle.results.specs.Shown.{Shows, record_left}

-- the program's step table before a text is read into it, and the answer of the reader by its case
abbrev pub blank : List ℕ
blank = replicate (most_steps * step_width) 0

pub told : (text : Text) {steps : List ℕ} {r r' : Result Said TextRefusal} → r ≡ r' → Leaves (read_text (length blank) text) blank r steps
    → Leaves (reading text) blank r' steps
told text {steps} {r} {r'} e w =
    subst (λ (k : ℕ). Leaves (read_text k text) blank r' steps) (length-replicate {A = ℕ} (most_steps * step_width) 0)
    (subst (λ (x : Result Said TextRefusal). Leaves (read_text (length blank) text) blank x steps) e w)

pub whole_most : (t : List ℕ) → length t ≡ most_room * message_width → whole t ≡ true
whole_most t l = ap (λ (k : ℕ). eqb (k % message_width) 0 && leb k (most_room * message_width)) l

-- the answer of the reader decides what was read
pub is_says : (o : Reading) (said : Said) → Tells o (Ok said) → (says said.answers (steps_in o) ≡ o) × (said.count ≡ length (steps_in o))
is_says (says a ss) said w = (ap (λ (k : ℕ). says k ss) w.answers, w.count)
is_says (unreadable at) said w = let z = w.number in absurd (omega arith)
is_says too_long said w = let z = w.number in absurd (omega arith)

-- a refused text: what was read, and so what is printed
pub refused_as : TextRefusal → Reading
refused_as (Unreadable line) = unreadable line
refused_as TooLong = too_long

pub is_refused : (o : Reading) (e : TextRefusal) → Tells o (Err e) → refused_as e ≡ o
unfolding refused_as
is_refused (says a ss) (Unreadable at) w = let z = w.number in absurd (omega arith)
is_refused (says a ss) TooLong w = let z = w.number in absurd (omega arith)
is_refused (unreadable k) (Unreadable at) w = ap unreadable w.line
is_refused (unreadable k) TooLong w = let z = w.number in absurd (omega arith)
is_refused too_long (Unreadable at) w = let z = w.number in absurd (omega arith)
is_refused too_long TooLong w = refl

pub refused_prints : (room : ℕ) (e : TextRefusal) → refused_line (refusal_number e) (refusal_line e) ≡ results_of room (refused_as e)
unfolding refused_as
refused_prints room (Unreadable line) = refl
refused_prints room TooLong = refl

pub refused_keeps : (t : List ℕ) (e : TextRefusal) → t ≡ record_left t (refused_as e)
unfolding refused_as
refused_keeps t (Unreadable line) = refl
refused_keeps t TooLong = refl

-- every step that was read has seven numbers
none_long : AllLong step_width []
none_long x m = absurd (Memᴰ.not-nil m)

more_long : (ss : List Step) (s : Step) → AllLong step_width ss → length s ≡ step_width → AllLong step_width (ss ++ (s ∷ []))
more_long ss s h l x m =
    ⊎_elim (λ (z : Memᴰ x ss). h x z) (λ (z : Memᴰ x (s ∷ [])). ap length (Memᴰ.eq_of_singleton z) ∙ l) (Memᴰ.append_cases ss m)

steps_long : (answers : ℕ) (ss : List Step) (ls : List Text) → AllLong step_width ss → AllLong step_width (steps_in (read_steps answers ss ls))
unfolding read_steps
steps_long answers ss [] h = h
steps_long answers ss (l ∷ ls) h =
    by (is_step_line l) (ltb (length ss) most_steps) (read_steps answers (ss ++ (step_in l ∷ [])) ls) refl
    (λ (e : is_step_line l ≡ true). steps_long answers (ss ++ (step_in l ∷ [])) ls (more_long ss (step_in l) h (seven l e)))
  where
    by : (b c : Bool) (o : Reading) → is_step_line l ≡ b → (is_step_line l ≡ true → AllLong step_width (steps_in o))
        → AllLong step_width (steps_in (cond b (cond c o too_long) (unreadable (length ss + 2))))
    by true true o e next = next e
    by true false o e next = none_long
    by false c o e next = none_long

lines_long : (ls : List Text) → AllLong step_width (steps_in (read_lines ls))
unfolding read_lines
lines_long [] = none_long
lines_long (l ∷ ls) = by (is_answers_line l)
  where
    by : (b : Bool) → AllLong step_width (steps_in (cond b (read_steps (answers_in l) [] ls) (unreadable 1)))
    by true = steps_long (answers_in l) [] ls none_long
    by false = none_long

read_long : (room : ℕ) (text : Text) → AllLong step_width (steps_in (read_text room text))
unfolding read_text
read_long room text = by (leb (length text) most_bytes && leb (most_steps * step_width) room)
  where
    by : (b : Bool) → AllLong step_width (steps_in (cond b (read_lines (lines text)) too_long))
    by true = lines_long (lines text)
    by false = none_long

-- the steps in the step table are those that were read
module _ (text t left : List ℕ) (said : Said) (w : Leaves (reading text) t (Ok said) left) where
  abbrev ss : List Step
  ss = steps_in (reading text)

  counted : said.count ≡ length ss
  counted = (is_says (reading text) said w.tells).1

  long : length (flat ss) ≡ said.count * step_width
  long = flat_length step_width ss (read_long (most_steps * step_width) text) ∙ ap (λ (k : ℕ). k * step_width) (sym counted)

  taken : take (said.count * step_width) left ≡ flat ss
  taken = ap (take (said.count * step_width)) w.table ∙ take_at (flat ss) (drop (length (flat ss)) t) (said.count * step_width) long

  as_many : step_count (take (said.count * step_width) left) ≡ length ss
  as_many = ap (λ (xs : List ℕ). length xs / step_width) taken ∙ omega (arith, long, counted)

  pub few_steps : step_count (take (said.count * step_width) left) ≤ most_steps
  few_steps = omega (arith, as_many, counted, w.tells.few)

  pub steps_read : steps_of (take (said.count * step_width) left) ≡ ss
  steps_read =
      ap₂ (cut step_width) as_many (taken ∙ sym (append-nil (flat ss)))
      ∙ cut_flat step_width ss [] (read_long (most_steps * step_width) text)

-- what was put and left, by what was read
pub shows : {text t out table left : List ℕ} {r most : ℕ} (o : Reading) → o ≡ reading text → Put out 0 (results_of most_room o) most left r
    → table ≡ record_left t o → most ≤ length out → Shows text t out r table left
unfolding output
shows {text} {t} {out} {table} {left} {r} {most} o e put kept h =
    let bs = results_of most_room o in
    let same : bs ≡ results_of most_room (reading text) = ap (results_of most_room) e in
    let inside : r ≤ length left = omega (arith, put.within, put.long) in
    record {
      count = put.next ∙ zero-add (length bs) ∙ ap length same;
      printed = put.table ∙ ap (λ (k : ℕ). bs ++ drop k out) (zero-add (length bs)) ∙ ap (λ (xs : Text). over xs out) same;
      table_left = kept ∙ ap (record_left t) e;
      within = inside;
      part = sym (length-take-le r left inside);
    }

-- a text that was read and played
pub shows_played : {text t out table left steps : List ℕ} {r : ℕ} {said : Said} → length t ≡ most_room * message_width → most_printed ≤ length out
    → Leaves (reading text) blank (Ok said) steps
    → Put out 0 (results said.answers (room_of t) (steps_of (take (said.count * step_width) steps))) most_printed left r
    → table ≡ over (flat (played said.answers (room_of t) [] (steps_of (take (said.count * step_width) steps)))) t
    → Shows text t out r table left
shows_played {text} {t} {out} {table} {left} {steps} {r} {said} l fits w put kept =
    let room : room_of t ≡ most_room = omega arith in
    let ss = steps_in (reading text) in
    let read : steps_of (take (said.count * step_width) steps) ≡ ss = steps_read text blank steps said w in
    shows (says said.answers ss) (is_says (reading text) said w.tells).0
    (subst (λ (bs : Text). Put out 0 bs most_printed left r) (ap₂ (results said.answers) room read) put)
    (kept ∙ ap₂ (λ (k : ℕ) (zs : List Step). over (flat (played said.answers k [] zs)) t) room read)
    fits
