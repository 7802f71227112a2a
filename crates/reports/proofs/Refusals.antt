-- The refusals of a report, in their order, and a report that is not refused.
use Rattle.std.proofs.Common.{Bool, ℕ, List, Err, Ok, Result, ◌≡◌, ◌∙◌, ◌≤◌, ◌-◌, true, false, cond, refl, sym, ap, ap₂, arith}
use Rattle.std.proofs.lemmas.Bool.{le-leb}
use Rattle.look.specs.Looked.{passed}
use Rattle.messages.proofs.Chain.{bounds, skip}
use Rattle.messages.proofs.Picks.{no, yes}
use Rattle.messages.specs.Tests.{all, between}
use Rattle.messages.specs.declared.parts.Place.{Place}
use Rattle.record.proofs.Cut.{take_messages}
use Rattle.record.specs.Table.{lawful_record, message_at, messages, room_of, whole}
use Rattle.refusals.specs.Numbers.{refusal_number}
use Rattle.refusals.specs.declared.Refusal.{Refusal}
use Rattle.refusals.specs.declared.Refusal.TheVariants.{Item as no_item}
use Rattle.refusals.specs.declared.Refusal.TheVariants.{Place as no_place}
use Rattle.reports.specs.ReplyAt.{reply_at}
use Rattle.reports.specs.declared.report.Reply.{Reply}
use Rattle.rules.specs.Report.{house_reply, report, report_at, report_on}

-- a refusal's number, and x where there is none
abbrev number_or : ℕ → Result Reply Refusal → ℕ
number_or x (Ok y) = x
number_or x (Err r) = refusal_number r

abbrev reply_or : Reply → Result Reply Refusal → Reply
reply_or y (Ok z) = z
reply_or y (Err r) = y

-- gates 4 and 5: b and h pass them
shut : (b h : Bool) (x : ℕ) (y : Reply) {r : Refusal} → ◌≡◌ {A = Result Reply Refusal} (Err r) (cond b (cond h (Ok y) (Err no_item)) (Err no_place))
    → refusal_number r ≡ cond b (cond h x 5) 4
shut false h x y e = ap (number_or 0) e
shut true false x y e = ap (number_or 0) e
shut true true x y {r} e =
    let f : refusal_number r ≡ 0 = ap (number_or 0) e in
    let g : refusal_number r ≡ 1 = ap (number_or 1) e in
    absurd (omega arith)

open_both : (b h : Bool) (y : Reply) {z : Reply} → ◌≡◌ {A = Result Reply Refusal} (Ok z) (cond b (cond h (Ok y) (Err no_item)) (Err no_place))
    → (b ≡ true) × (h ≡ true) × (z ≡ y)
open_both false h y e = let f : ◌≡◌ {A = ℕ} 0 4 = ap (number_or 0) e in absurd (omega arith)
open_both true false y e = let f : ◌≡◌ {A = ℕ} 0 5 = ap (number_or 0) e in absurd (omega arith)
open_both true true y e = (refl, refl, ap (reply_or y) e)

module _ (n : ℕ) (t : List ℕ) (p : Place) where
  placed : Bool
  placed = between 1 p.0 n

  house : Bool
  house = house_reply (message_at (messages n t) p)

  -- where the lengths are right, the messages decide
  pub lawful_if : whole t ≡ true → n ≤ room_of t → {b : Bool} → all (passed false) (messages n t) ≡ b → lawful_record n t ≡ b
  lawful_if w r e = sym (skip w (skip (le-leb n (room_of t) r) (sym e)))

  pub unlawful : lawful_record n t ≡ false → 1 ≡ report n t p
  unfolding report
  unlawful e = no _ e refl

  module _ (is_lawful : lawful_record n t ≡ true) where
    pub refused : {r : Refusal} → Err r ≡ reply_at n t p → refusal_number r ≡ report n t p
    unfolding report placed house
    refused e = yes _ is_lawful (shut placed house (report_at (messages n t) p) _ e)

    pub reported : {r : Reply} → Ok r ≡ reply_at n t p → {x : ℕ} → x ≡ report_on (messages r.earlier t) r.mark → x ≡ report n t p
    unfolding report placed house
    reported {r} at {x} e =
        let b = open_both placed house _ at in
        let high = (bounds 1 p.0 n b.0).1 in
        let before : messages r.earlier t ≡ _ = ap (λ (y : Reply). messages y.earlier t) b.2 ∙ sym (take_messages (p.0 - 1) n t (omega arith)) in
        yes _ is_lawful (yes _ b.0 (yes _ b.1 (e ∙ ap₂ report_on before (ap (λ (y : Reply). y.mark) b.2))))
