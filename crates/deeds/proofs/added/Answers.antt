-- `deeds::added` meets its promise.
use Rattle.std.proofs.Common.{ℕ, ◌+◌, ◌<◌, get_or, refl, sym, ap, ap₂, ◌∙◌, arith}
use Rattle.record.proofs.Cut.{length_cut}
use Rattle.messages.specs.Layout.{message_width}
use Rattle.messages.specs.declared.kind.Kind.TheVariants.{AuthRequest, AuthResponse, Initiate, Invoice, Payment}
use Rattle.rules.specs.Codes.{forges}
use Rattle.rules.specs.Honest.{asked, false_gateway, house, invoiced, paid, replied, started}
use Rattle.rules.specs.Step.{code_of}
use Rattle.arguments.proofs.Places.{for_table}
use Rattle.deeds.proofs.Deeds.{deed_of, forges_so, neighbours}
use Rattle.deeds.proofs.Seven.{at_code, message_there, taken}
use Rattle.deeds.specs.Coded.{added_in}
use Rattle.deeds.proofs.added.Goals as goal

pub forge_payment-requires : goal.forge_payment-requires
forge_payment-requires c = for_table c.requires.0

pub forge_request-requires : goal.forge_request-requires
forge_request-requires c = for_table c.requires.0

pub forge_response-requires : goal.forge_response-requires
forge_response-requires c = for_table c.requires.0

pub returns-in-1 : goal.returns-in-1
returns-in-1 c =
    let a = c.args in
    at_code (added_in a.answers a.n a.t.now) a.s.now 1 c.requires.0.known.seven c.in-1.is
    (c.started.ensures
    ∙ ap (λ (k : ℕ). started (record { 0 = get_or a.s.now 1 0 }) (record { 0 = get_or a.s.now 2 0 })
    (record { 0 = k + 1 })) (sym (length_cut message_width a.n a.t.now)))

pub returns-in-2 : goal.returns-in-2
returns-in-2 c =
    let a = c.args in
    at_code (added_in a.answers a.n a.t.now) a.s.now 2 c.requires.0.known.seven c.in-2.is
    (c.invoiced.ensures
    ∙ ap (invoiced (record { 0 = get_or a.s.now 1 0 }))
    (message_there c.requires.0 1 (taken c.in-2.is) (omega arith) refl c.named.ensures.0))

pub returns-in-3 : goal.returns-in-3
returns-in-3 c =
    let a = c.args in
    at_code (added_in a.answers a.n a.t.now) a.s.now 3 c.requires.0.known.seven c.in-3.is
    (c.paid.ensures
    ∙ ap (paid house (record { 0 = get_or a.s.now 1 0 }))
    (message_there c.requires.0 1 (taken c.in-3.is) (omega arith) refl c.named-in-3.ensures.0))

pub returns-in-4 : goal.returns-in-4
returns-in-4 c =
    let a = c.args in
    at_code (added_in a.answers a.n a.t.now) a.s.now 4 c.requires.0.known.seven c.in-4.is
    (c.asked.ensures
    ∙ ap₂ (asked (record { 0 = get_or a.s.now 1 0 }))
    (message_there c.requires.0 1 (taken c.in-4.is) (omega arith) refl c.named-in-4.ensures.0)
    (message_there c.requires.0 2 (taken c.in-4.is) (omega arith) refl c.named-in-4-2.ensures.0))

pub returns-in-5 : goal.returns-in-5
returns-in-5 c =
    let a = c.args in
    at_code (added_in a.answers a.n a.t.now) a.s.now 5 c.requires.0.known.seven c.in-5.is
    (c.replied.ensures
    ∙ ap (replied a.answers) (message_there c.requires.0 0 (taken c.in-5.is) (omega arith) refl c.named-in-5.ensures.0))

pub returns-in-38 : goal.returns-in-38
returns-in-38 c =
    let a = c.args in
    at_code (added_in a.answers a.n a.t.now) a.s.now 38 c.requires.0.known.seven c.in-38.is
    (c.paid-in-38.ensures
    ∙ ap (paid false_gateway (record { 0 = get_or a.s.now 1 0 }))
    (message_there c.requires.0 1 (taken c.in-38.is) (omega arith) refl c.named-in-38.ensures.0))

pub returns-in-6-to-7 : goal.returns-in-6-to-7
returns-in-6-to-7 c =
    let a = c.args in
    forges_so a.answers a.n a.t.now a.s.now Initiate
    (neighbours deed_of 5 2 (forges Initiate) refl (code_of a.s.now) (omega arith) (omega arith))
    (c.forge_initiate.ensures a.n c.requires.0)

pub returns-in-8-to-13 : goal.returns-in-8-to-13
returns-in-8-to-13 c =
    let a = c.args in
    forges_so a.answers a.n a.t.now a.s.now Invoice
    (neighbours deed_of 7 6 (forges Invoice) refl (code_of a.s.now) (omega arith) (omega arith))
    (c.forge_invoice.ensures a.n c.requires.0)

pub returns-in-14-to-21 : goal.returns-in-14-to-21
returns-in-14-to-21 c =
    let a = c.args in
    forges_so a.answers a.n a.t.now a.s.now Payment
    (neighbours deed_of 13 8 (forges Payment) refl (code_of a.s.now) (omega arith) (omega arith))
    (c.forge_payment.ensures a.n c.requires.0)

pub returns-in-22-to-33 : goal.returns-in-22-to-33
returns-in-22-to-33 c =
    let a = c.args in
    forges_so a.answers a.n a.t.now a.s.now AuthRequest
    (neighbours deed_of 21 12 (forges AuthRequest) refl (code_of a.s.now) (omega arith) (omega arith))
    (c.forge_request.ensures a.n c.requires.0)

pub returns-in_default : goal.returns-in_default
returns-in_default c =
    let a = c.args in
    let low = c.requires.0.known.low in
    let high = c.requires.0.known.high in
    let above : 33 < code_of a.s.now = grind arith in
    forges_so a.answers a.n a.t.now a.s.now AuthResponse
    (neighbours deed_of 33 4 (forges AuthResponse) refl (code_of a.s.now) above (omega arith))
    (c.forge_response.ensures a.n c.requires.0)
