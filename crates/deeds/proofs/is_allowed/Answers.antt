-- `deeds::is_allowed` meets its promise.
use Rattle.std.proofs.Common.{ℕ, get_or, refl, ap, ap₂, ◌≡◌, ◌∙◌, arith}
use mathlib.Core.Logic.{◌⊎◌, inl, inr, ⊎_elim}
use Rattle.messages.specs.Parts.{Message}
use Rattle.messages.specs.Tests.{all}
use Rattle.rules.specs.Codes.{row_of}
use Rattle.rules.specs.Honest.{ask_claims, holds, invoice_claims, pay_claims, reply_claims}
use Rattle.rules.specs.Step.{code_of}
use Rattle.deeds.proofs.Deeds.{unconditional}
use Rattle.deeds.proofs.Seven.{at_code, at_either, message_there, taken}
use Rattle.deeds.specs.Coded.{allowed_in}
use Rattle.deeds.proofs.is_allowed.Goals as goal

-- 3 and 38 take the same
paying : {k : ℕ} → (k ≡ 3) ⊎ (k ≡ 38) → (row_of k).takes ≡ (row_of 3).takes
paying e = ⊎_elim (λ z. taken z) (λ z. taken z) e

pub returns-in-2 : goal.returns-in-2
returns-in-2 c =
    let a = c.args in
    λ n ready.
    at_code (allowed_in n a.t.now) a.s.now 2 c.requires.known.seven c.in-2.is
    (c.may_invoice.ensures
    ∙ ap (λ (x : Message). all holds (invoice_claims (record { 0 = get_or a.s.now 1 0 }) x))
    (message_there ready 1 (taken c.in-2.is) (omega arith) refl c.named.ensures.0))

pub returns-in-3 : goal.returns-in-3
returns-in-3 c =
    let a = c.args in
    let high = c.requires.known.high in
    let pays_so : (code_of a.s.now ≡ 3) ⊎ (code_of a.s.now ≡ 38) = ⊎_elim (λ z. inl z) (λ z. inr (omega arith)) c.in-3.is in
    λ n ready.
    at_either (allowed_in n a.t.now) a.s.now 3 38 c.requires.known.seven pays_so refl
    (c.may_pay.ensures
    ∙ ap₂ (λ (x y : Message). all holds (pay_claims (record { 0 = get_or a.s.now 1 0 }) x y))
    (message_there ready 1 (paying pays_so) (omega arith) refl c.named-in-3.ensures.0)
    (message_there ready 2 (paying pays_so) (omega arith) refl c.named-in-3-2.ensures.0))

pub returns-in-4 : goal.returns-in-4
returns-in-4 c =
    let a = c.args in
    λ n ready.
    at_code (allowed_in n a.t.now) a.s.now 4 c.requires.known.seven c.in-4.is
    (c.may_ask.ensures
    ∙ ap₂ (λ (x y : Message). all holds (ask_claims (record { 0 = get_or a.s.now 1 0 }) x y))
    (message_there ready 1 (taken c.in-4.is) (omega arith) refl c.named-in-4.ensures.0)
    (message_there ready 2 (taken c.in-4.is) (omega arith) refl c.named-in-4-2.ensures.0))

pub returns-in-5 : goal.returns-in-5
returns-in-5 c =
    let a = c.args in
    λ n ready.
    at_code (allowed_in n a.t.now) a.s.now 5 c.requires.known.seven c.in-5.is
    (c.may_reply.ensures
    ∙ ap (λ (x : Message). all holds (reply_claims x))
    (message_there ready 0 (taken c.in-5.is) (omega arith) refl c.named-in-5.ensures.0))

pub returns-in_default : goal.returns-in_default
returns-in_default c =
    let a = c.args in
    let low = c.requires.known.low in
    let high = c.requires.known.high in
    λ n ready.
    unconditional n a.t.now a.s.now low high (λ e. omega arith) (λ e. ⊎_elim (λ z. grind arith) (λ z. grind arith) e) (λ e. omega arith)
    (λ e. omega arith)
