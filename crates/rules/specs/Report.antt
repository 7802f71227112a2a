-- The report on a reply: whether the four messages of its payment stand earlier in the record.
use Rattle.std.specs.Prelude.{ℕ, ◌-◌, Bool, false, ◌&&◌, ◌||◌, cond, List, [], ◌∷◌, eqb, take}
use Rattle.messages.specs.Layout.{maker}
use Rattle.messages.specs.declared.kind.Kind.TheVariants.{AuthResponse}
use Rattle.messages.specs.Parts.{Message, gateway_at}
use Rattle.record.specs.Table.{Record, lawful_record, message_at, messages}
use Rattle.messages.specs.Tests.{between, every, same}
use Rattle.messages.specs.declared.parts.Mark.{Mark}
use Rattle.messages.specs.declared.parts.Place.{Place}
use Rattle.messages.specs.declared.parts.Slip.{Slip}
use Rattle.rules.specs.Gates.{Gate, ◌unless◌, through}
use Rattle.rules.specs.Honest.{house, initiate_by, invoice_by, payment_by, request_by, slip_under}
use Rattle.rules.specs.Items.{is_kind, reply_signed_in}

-- whether a message stands in a record
abbrev pub stands : Message → Record → Bool
stands x [] = false
stands x (y ∷ R) = same y x || stands x R

-- a reply made by the house gateway
abbrev pub house_reply : Message → Bool
house_reply x = is_kind AuthResponse x && eqb (gateway_at x maker).0 house.0

-- the mark that the gateway signed
abbrev pub reply_mark : Message → Mark
reply_mark x = (reply_signed_in x).mark

-- the four messages of a payment, by its mark
module _ (x : Mark) where
  -- the slip under key 1 for it
  abbrev pub its_slip : Slip
  its_slip = slip_under house x x.hashed.account x.hashed.drawn

  abbrev pub its_initiate : Message
  its_initiate = initiate_by x.buyer x.seller x.hashed

  abbrev pub its_invoice : Message
  its_invoice = invoice_by x.seller x.buyer x

  abbrev pub its_payment : Message
  its_payment = payment_by x.buyer x.seller its_slip x

  abbrev pub its_request : Message
  its_request = request_by x.seller x its_slip (record { signer = x.buyer; slip = its_slip; mark = x })

  -- buyer and seller are both the outsider
  abbrev pub outside : Bool
  outside = eqb x.buyer.0 0 && eqb x.seller.0 0

  -- the mark's account is its buyer's, and all four stand
  abbrev pub agreed : Record → Bool
  agreed R =
      every
      (eqb x.hashed.account.0 x.buyer.0
      ∷ stands its_initiate R
      ∷ stands its_invoice R
      ∷ stands its_payment R
      ∷ stands its_request R
      ∷ [])

-- of a reply, by what stands earlier than it
unfoldable pub report_on : Record → Mark → ℕ
report_on before x = cond (outside x) 21 (cond (agreed x before) 20 22)

-- at a place of a record: the payment that the reply there is for, known by its mark; what stands earlier; and the report on the reply
abbrev pub payment_at : Record → Place → Mark
payment_at R p = reply_mark (message_at R p)

abbrev pub earlier : Record → Place → Record
earlier R p = take (p.0 - 1) R

abbrev pub report_at : Record → Place → ℕ
report_at R p = report_on (earlier R p) (payment_at R p)

-- on a place of a table: refusals 1, 4 and 5 in their order, then the report on the reply there
abbrev pub report_gates : ℕ → List ℕ → Place → List Gate
report_gates n t p = 1 unless lawful_record n t ∷ 4 unless between 1 p.0 n ∷ 5 unless house_reply (message_at (messages n t) p) ∷ []

unfoldable pub report : ℕ → List ℕ → Place → ℕ
report n t p = through (report_gates n t p) (λ k. k) (report_at (messages n t) p)
