-- The lines from a step or a place on are one line and the lines from the next on.
use mathlib.Core.Bool.{Bool, true, false, cond}
use mathlib.Core.List.{List, [], ◌∷◌, ◌++◌}
use mathlib.Core.Path.{◌≡◌, ◌∙◌, refl, sym, ap, ap₂, subst}
use Prim.Native.Nat.{ℕ, ◌+◌, ◌*◌, ◌-◌, ◌≤◌, ◌<◌}
use native.Mathlib.Numerals.{add-one}
use native.Mathlib.Omega.{arith}
use borrow.Author.Tests.{eq-eqb, ne_eqb}
use lib.Dec.{eqb}
use lib.ListN.{drop, drop_of_length-le, get_or, length, take}
use lib.Seq.{drop-cons}
use Rattle.record.proofs.Cut.{cut_at, length_cut, take_messages}
use Rattle.messages.specs.Layout.{message_width}
use Rattle.messages.specs.Parts.{Message}
use Rattle.record.specs.Table.{Record, message_in, messages}
use Rattle.messages.specs.declared.signed.ReplySigned.{ReplySigned}
use Rattle.rules.specs.Items.{reply_signed_in}
use Rattle.rules.specs.Report.{house_reply, reply_mark, report_on}
use Rattle.rules.specs.Said.{reply_row, reply_rows}
use Rattle.printing.specs.Printed.{lines_of, reply_line, step_line}
use Rattle.rows.specs.Rows.{count_by, line_after, line_if, place_by, rows_by}

-- an accepted step is known by its number 0
pub is_0 : (x y : ℕ) {k : ℕ} → k ≡ 0 → cond (eqb k 0) x y ≡ x
is_0 x y {k} e = ap (λ (b : Bool). cond b x y) (eq-eqb k 0 e)

pub not_0 : (x y : ℕ) {k : ℕ} → (k ≡ 0 → ⊥) → cond (eqb k 0) x y ≡ y
not_0 x y {k} h = ap (λ (b : Bool). cond b x y) (ne_eqb k 0 h)

pub count_grows : (n k : ℕ) → count_by n k ≤ n + 1
count_grows n k = by (eqb k 0)
  where
    by : (b : Bool) → cond b (n + 1) n ≤ n + 1
    by true = omega arith
    by false = omega arith

-- the lines from step i on
pub steps_from : (numbers : List ℕ) (i n : ℕ) {place count : ℕ} → i < length numbers → place ≡ place_by n (get_or numbers i 0)
    → count ≡ count_by n (get_or numbers i 0)
    → lines_of step_line (rows_by i n (drop i numbers))
    ≡ step_line ((i + 1) ∷ get_or numbers i 0 ∷ place ∷ []) ++ lines_of step_line (rows_by (i + 1) count (drop (i + 1) numbers))
unfolding rows_by
steps_from numbers i n h p q =
    let k = get_or numbers i 0 in
    ap (λ (xs : List ℕ). lines_of step_line (rows_by i n xs)) (drop-cons numbers i 0 h ∙ ap (λ (j : ℕ). k ∷ drop j numbers) (sym (add-one i)))
    ∙ ap₂ (λ (a b : ℕ). step_line ((i + 1) ∷ k ∷ a ∷ []) ++ lines_of step_line (rows_by (i + 1) b (drop (i + 1) numbers))) (sym p) (sym q)

pub steps_over : (numbers : List ℕ) (i n : ℕ) → length numbers ≤ i → lines_of step_line (rows_by i n (drop i numbers)) ≡ []
unfolding rows_by
steps_over numbers i n h = ap (λ (xs : List ℕ). lines_of step_line (rows_by i n xs)) (drop_of_length-le numbers {i = i} h)

-- the lines from place p + 1 on
picked : (b : Bool) (row : List ℕ) (rows : List (List ℕ))
    → lines_of reply_line (cond b (row ∷ rows) rows) ≡ cond b (reply_line row) [] ++ lines_of reply_line rows
picked true row rows = refl
picked false row rows = refl

-- the line of the message x after the first p of a table
module _ (t : List ℕ) (p : ℕ) {x : Message} (named : x ≡ message_in t (record { 0 = p + 1 })) where
  pub no_line : house_reply x ≡ false → [] ≡ line_after t p
  unfolding line_if
  no_line e =
      ap (λ (b : Bool). cond b (reply_line (reply_row (messages p t) p (reply_mark x))) []) (sym e) ∙ ap (line_if (messages p t) p) named

  pub its_line : (signed : ReplySigned) {report : ℕ} → house_reply x ≡ true → signed ≡ reply_signed_in x → report ≡ report_on (messages p t) signed.mark
      → reply_line ((p + 1) ∷ signed.mark.seller.0 ∷ signed.mark.buyer.0 ∷ report ∷ []) ≡ line_after t p
  unfolding line_if
  its_line signed e s r =
      ap (λ (k : ℕ). reply_line ((p + 1) ∷ signed.mark.seller.0 ∷ signed.mark.buyer.0 ∷ k ∷ [])) r
      ∙ ap (λ (z : ReplySigned). reply_line (reply_row (messages p t) p z.mark)) s
      ∙ ap (λ (b : Bool). cond b (reply_line (reply_row (messages p t) p (reply_mark x))) []) (sym e)
      ∙ ap (line_if (messages p t) p) named

pub replies_from : (t : List ℕ) (n p : ℕ) → p < n
    → lines_of reply_line (reply_rows (messages n t) p (drop p (messages n t)))
    ≡ line_after t p ++ lines_of reply_line (reply_rows (messages n t) (p + 1) (drop (p + 1) (messages n t)))
unfolding reply_rows line_if
replies_from t n p h =
    let R = messages n t in
    let x = get_or R p [] in
    let rest = reply_rows R (p + 1) (drop (p + 1) R) in
    let same : p ≡ p + 1 - 1 = omega arith in
    let here : x ≡ message_in t (record { 0 = p + 1 }) =
    cut_at message_width n t p h ∙ ap (λ (j : ℕ). take message_width (drop (j * message_width) t)) same in
    ap (λ (xs : Record). lines_of reply_line (reply_rows R p xs))
    (drop-cons R p [] (subst (λ (k : ℕ). p < k) (sym (length_cut message_width n t)) h) ∙ ap (λ (j : ℕ). x ∷ drop j R) (sym (add-one p)))
    ∙ picked (house_reply x) (reply_row (take p R) p (reply_mark x)) rest
    ∙ ap₂ (λ (earlier : Record) (m : Message). line_if earlier p m ++ lines_of reply_line rest) (take_messages p n t (omega arith)) here

pub replies_over : (t : List ℕ) (n p : ℕ) → n ≤ p → lines_of reply_line (reply_rows (messages n t) p (drop p (messages n t))) ≡ []
unfolding reply_rows
replies_over t n p h =
    ap (λ (xs : Record). lines_of reply_line (reply_rows (messages n t) p xs))
    (drop_of_length-le (messages n t) {i = p} (subst (λ (k : ℕ). k ≤ p) (sym (length_cut message_width n t)) h))
