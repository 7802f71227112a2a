-- The report on a reached record: at each house reply 20 if buyer and seller of its mark are not both the outsider, 21 if they are; so
-- never 22.
use mathlib.Core.Bool.{Bool, true, cond, ◌||◌, or-true, true≢false}
use mathlib.Core.List.Memᴰ
use mathlib.Core.List.{List, Memᴰ, [], ◌∷◌}
use mathlib.Core.Logic.{⊎_elim}
use mathlib.Core.Path.{◌≡◌, ◌∙◌, refl, sym, ap, subst, subst₂}
use Prim.Native.Nat.{ℕ, ◌+◌, ◌-◌, ◌<◌}
use borrow.Author.Tests.{eq-eqb, eqb-true}
use lib.Dec.{eqb}
use lib.ListN.{drop, get_or, length, length-drop, take}
use lib.Seq.{drop-cons}
use native.Mathlib.Numerals.{add-one}
use native.Mathlib.Omega.{arith}
use Rattle.messages.proofs.Chain.{inside, left_of, right_of}
use Rattle.record.proofs.Cut.{length_cut}
use Rattle.messages.specs.Layout.{message_width}
use Rattle.messages.specs.Parts.{Message}
use Rattle.record.specs.Table.{Record, message_at, messages, room_of}
use Rattle.messages.specs.Tests.{between, same}
use Rattle.messages.specs.declared.parts.Mark.{Mark}
use Rattle.messages.specs.declared.parts.Place.{Place}
use Rattle.rules.proofs.Agreement.{agreement}
use Rattle.rules.proofs.Gates.{all_open, passes}
use Rattle.rules.proofs.LawfulReached.{table_lawful}
use Rattle.rules.proofs.Tests.{both, eq_same, picked}
use Rattle.rules.specs.Agreed.{Agreed, BothOutside, HouseReplyAt, Reported, RowReported, ◌∈◌}
use Rattle.rules.specs.Reached.{Reached}
use Rattle.rules.specs.Report.{agreed, earlier, house_reply, its_initiate, its_invoice, its_payment, its_request, outside, payment_at, reply_mark, report, report_at, report_gates, report_on, stands}
use Rattle.rules.specs.Said.{reply_row, reply_rows}
use Rattle.rules.specs.Theorems.{Never22, Reports, RowsReported}

-- the report's own tests say the same as agreement
member_stands : (x : Message) (R : Record) → x ∈ R → stands x R ≡ true
member_stands x [] m = absurd (Memᴰ.not-nil m)
member_stands x (y ∷ R) m =
    ⊎_elim (λ e. ap (◌|| stands x R) (eq_same (sym e)))
    (λ n. ap (λ (b : Bool). same y x || b) (member_stands x R n) ∙ or-true (same y x)) (Memᴰ.cases_cons m)

agreed_test : (x : Mark) (R : Record) → Agreed x R → agreed x R ≡ true
agreed_test x R a =
    both (eq-eqb x.hashed.account.0 x.buyer.0 a.account)
    (both (member_stands (its_initiate x) R a.initiate)
    (both (member_stands (its_invoice x) R a.invoice)
    (both (member_stands (its_payment x) R a.payment) (both (member_stands (its_request x) R a.request) refl))))

both_outside : (x : Mark) → outside x ≡ true → BothOutside x
both_outside x e = (eqb-true x.buyer.0 0 (left_of _ _ e), eqb-true x.seller.0 0 (right_of (eqb x.buyer.0 0) _ e))

outside_test : (x : Mark) → BothOutside x → outside x ≡ true
outside_test x b = both (eq-eqb x.buyer.0 0 b.0) (eq-eqb x.seller.0 0 b.1)

pub agreed_report : (R : Record) (x : Mark) → (¬ BothOutside x → Agreed x R) → Reported x (report_on R x)
unfolding report_on
agreed_report R x a =
    picked (Reported x) (outside x) 21 (cond (agreed x R) 20 22)
    (λ e.
    let out = both_outside x e in
    record { agreed = (λ q. absurd (omega arith), λ n. absurd (n out)); outsider = (λ q. out, λ b. refl) })
    (λ e.
    let not_out : ¬ BothOutside x = λ b. true≢false (sym (outside_test x b) ∙ e) in
    let is_20 : cond (agreed x R) 20 22 ≡ 20 = ap (λ (b : Bool). cond b 20 22) (agreed_test x R (a not_out)) in
    record { agreed = (λ q. not_out, λ n. is_20); outsider = (λ q. absurd (omega arith), λ b. absurd (not_out b)) })

-- at each house reply of a reached record, and of a table that holds one
reported : (room : ℕ) (R : Record) → Reached room R → (p : Place) → HouseReplyAt R p → Reported (payment_at R p) (report_at R p)
reported room R r p h = agreed_report (earlier R p) (payment_at R p) (agreement room R r p h)

pub reports : Reports
unfolding report
reports n t h p r =
    let R = messages n t in
    let inside : between 1 p.0 n ≡ true = ap (between 1 p.0) (sym (length_cut message_width n t)) ∙ r.inside in
    subst (Reported (payment_at R p))
    (sym (passes (λ k. k) (report_at R p) (report_gates n t p) (table_lawful n t h, (inside, (r.reply, tt)))))
    (reported (room_of t) R h.reached p r)

-- 22 never occurs, whatever place is asked about
pub never_22 : Never22
unfolding report
never_22 n t h p e =
    let R = messages n t in
    let o = all_open (λ k. k) (report_at R p) (λ (k : ℕ). k ≡ 22) (λ k l q. omega arith) (report_gates n t p) refl e in
    let r : HouseReplyAt R p =
    record { inside = ap (between 1 p.0) (length_cut message_width n t) ∙ o.0.1.0; reply = o.0.1.1.0 }
    in
    let said = reported (room_of t) R h.reached p r in
    omega (arith, o.1, said.agreed.1 (λ b. omega (arith, o.1, said.outsider.1 b)))

-- the row of the reply x at p + 1, and the rows from there on
module _ (room : ℕ) (R : Record) (r : Reached room R) where
  row_reported : (p : ℕ) (x : Message) → p < length R → get_or R p [] ≡ x → house_reply x ≡ true → RowReported (reply_row (take p R) p (reply_mark x))
  row_reported p x l e h =
      let q : Place = record { 0 = p + 1 } in
      let k : p + 1 - 1 ≡ p = omega arith in
      let at_q : message_at R q ≡ x = ap (λ (j : ℕ). get_or R j []) k ∙ e in
      let there : HouseReplyAt R q =
      record { inside = inside {l = 1} {x = p + 1} (omega arith) (omega arith); reply = ap house_reply at_q ∙ h }
      in
      record {
        place = p + 1;
        payment = reply_mark x;
        number = report_on (take p R) (reply_mark x);
        says = refl;
        reported =
            subst₂ (λ (w : Message) (j : ℕ). Reported (reply_mark w) (report_on (take j R) (reply_mark w))) at_q k (reported room R r q there);
      }

  rows_from : (xs : Record) (p : ℕ) → drop p R ≡ xs → (row : List ℕ) → Memᴰ row (reply_rows R p xs) → RowReported row
  unfolding reply_rows
  rows_from [] p e row m = absurd (Memᴰ.not-nil m)
  rows_from (x ∷ xs) p e row m =
      let l : p < length R = omega (arith, ap length e, length-drop p R) in
      let split = sym e ∙ drop-cons R p [] l in
      let rest : drop (p + 1) R ≡ xs = ap (λ (k : ℕ). drop k R) (add-one p) ∙ sym (ap (drop 1) split) in
      let here = reply_row (take p R) p (reply_mark x) in
      let later = rows_from xs (p + 1) rest row in
      picked (λ (rows : List (List ℕ)). Memᴰ row rows → RowReported row) (house_reply x) (here ∷ reply_rows R (p + 1) xs)
      (reply_rows R (p + 1) xs)
      (λ h n.
      ⊎_elim (λ q. subst RowReported (sym q) (row_reported p x l (sym (ap (λ (zs : Record). get_or zs 0 []) split)) h)) later
      (Memᴰ.cases_cons n))
      (λ h. later) m

pub rows_reported : RowsReported
rows_reported room R r row m = rows_from room R r R 0 refl row m
