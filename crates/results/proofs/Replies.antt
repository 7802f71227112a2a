-- Every line that the program prints and that begins with `R` is that of a house reply, with report 20 or 21: the lines of steps begin with a
-- digit, that of a refused text with `E`, and the record is a reached one.
use mathlib.Core.Bool.{Bool, true, false}
use mathlib.Core.List.Memᴰ
use mathlib.Core.List.{List, Memᴰ, [], ◌∷◌, append-nil}
use mathlib.Core.Logic.{◌⊎◌, inl, inr, ⊎_elim}
use mathlib.Core.Path.{◌≡◌, ◌∙◌, refl, sym, ap, subst}
use Prim.Native.Nat.{ℕ, ◌+◌}
use native.Mathlib.Omega.{arith}
use borrow.Author.Tests.{eqb-false, eqb-true}
use lib.Dec.{eqb}
use lib.ListN.{drop, get_or, length, take}
use lib.Seq.{take_at}
use Rattle.lines.specs.Lines.{Text, lines}
use Rattle.messages.specs.declared.parts.Mark.{Mark}
use Rattle.printing.proofs.Apart.{begins_no_R, each_line, refused_line_is, reply_line_is, step_line_is}
use Rattle.printing.specs.Printed.{letter_r, lines_of, refused_line, reply_line, step_line}
use Rattle.record.specs.Table.{Record, most_room}
use Rattle.results.specs.Output.{output, reading, results, results_of}
use Rattle.results.specs.Replies.{RepliesPrinted, ReplyPrinted}
use Rattle.rules.proofs.Reached.{reached_played}
use Rattle.rules.proofs.Reports.{rows_reported}
use Rattle.rules.specs.Agreed.{Reported, RowReported}
use Rattle.rules.specs.Run.{played}
use Rattle.rules.specs.Said.{reply_rows, step_rows}
use Rattle.rules.specs.Step.{Step, judge, record_after}
use Rattle.steptext.specs.Read.{Reading, says, too_long, unreadable}

-- what is claimed of a line
abbrev Claimed : Text → Type 0
Claimed l = get_or l 0 0 ≡ letter_r → ReplyPrinted l

-- of a step's line, which begins with a digit
steps_claimed : (answers room told : ℕ) (R : Record) (ss : List Step) (row : List ℕ) → Memᴰ row (step_rows answers room told R ss)
    → Claimed (step_line row)
unfolding step_rows
steps_claimed answers room told R [] row m = absurd (Memᴰ.not-nil m)
steps_claimed answers room told R (s ∷ ss) row m =
    ⊎_elim
    (λ e. subst (λ (w : List ℕ). Claimed (step_line w)) (sym e) (λ q. absurd (begins_no_R (told + 1) _ q)))
    (steps_claimed answers room (told + 1) (record_after R (judge answers room R s)) ss row)
    (Memᴰ.cases_cons m)

-- of a reply's line, by its row: whether both are the outsider decides between 20 and 21
is_told : (x : Mark) (k : ℕ) → Reported x k → (k ≡ 20) ⊎ (k ≡ 21)
is_told x k r = by (eqb x.buyer.0 0) (eqb x.seller.0 0) refl refl
  where
    by : (b s : Bool) → eqb x.buyer.0 0 ≡ b → eqb x.seller.0 0 ≡ s → (k ≡ 20) ⊎ (k ≡ 21)
    by true true eb es = inr (r.outsider.1 (eqb-true _ 0 eb, eqb-true _ 0 es))
    by true false eb es = inl (r.agreed.1 (λ o. eqb-false _ 0 es o.1))
    by false s eb es = inl (r.agreed.1 (λ o. eqb-false _ 0 eb o.0))

reply_claimed : (row : List ℕ) → RowReported row → Claimed (reply_line row)
reply_claimed row w e =
    record {
      place = w.place;
      seller = w.payment.seller.0;
      buyer = w.payment.buyer.0;
      number = w.number;
      says = ap reply_line w.says;
      told = is_told w.payment w.number w.reported;
      outsider = w.reported.outsider;
    }

results_claimed : (answers : ℕ) (ss : List Step) (l : Text) → Memᴰ l (lines (results answers most_room ss)) → Claimed l
unfolding results
results_claimed answers ss =
    let R = played answers most_room [] ss in
    let rows = reply_rows R 0 R in
    each_line step_line step_line_is Claimed (step_rows answers most_room 0 [] ss) (steps_claimed answers most_room 0 [] ss)
    (lines_of reply_line rows)
    (λ l m.
    each_line reply_line reply_line_is Claimed rows
    (λ row n. reply_claimed row (rows_reported most_room R (reached_played answers most_room ss) row n)) []
    (λ k n. absurd (Memᴰ.not-nil n)) l (subst (λ (z : Text). Memᴰ l (lines z)) (sym (append-nil (lines_of reply_line rows))) m))

-- of the one line of a refused text, which begins with `E`
refused_claimed : (number at : ℕ) (l : Text) → Memᴰ l (lines (refused_line number at)) → Claimed l
refused_claimed number at l m e =
    let one : lines (refused_line number at) ≡ refused_line number at ∷ [] =
    ap lines (sym (append-nil (refused_line number at))) ∙ refused_line_is number at []
    in
    ⊎_elim (λ q. let z = sym (ap (λ (k : Text). get_or k 0 0) q) ∙ e in absurd (omega arith)) (λ n. absurd (Memᴰ.not-nil n))
    (Memᴰ.cases_cons (subst (Memᴰ l) one m))

output_claimed : (o : Reading) (l : Text) → Memᴰ l (lines (results_of most_room o)) → Claimed l
output_claimed (says answers ss) = results_claimed answers ss
output_claimed (unreadable at) = refused_claimed 10 at
output_claimed too_long = refused_claimed 11 0

pub replies_printed : RepliesPrinted
unfolding output
replies_printed text t out r table left w l m =
    let bs = output most_room text in
    let written : take r left ≡ bs = ap (take r) w.printed ∙ take_at bs (drop (length bs) out) r (sym w.count) in
    output_claimed (reading text) l (subst (λ (z : Text). Memᴰ l (lines z)) written m)
