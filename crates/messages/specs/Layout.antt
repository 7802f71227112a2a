-- The five kinds of message: where each part stands (a position counts from 0), and the message that given parts make.
-- A position is the sum of the widths before it, so that a wider part moves all that follows.
use Rattle.std.specs.Prelude.{ℕ, ◌+◌, ◌-◌, List, [], ◌∷◌, ◌++◌, get_or, length, replicate}
use Rattle.messages.specs.Parts.{Message, drawn_width, hashed_numbers, mark_numbers, mark_width, slip_numbers, slip_width}
use Rattle.messages.specs.Signed.{
  buyer_signed_numbers,
  buyer_signed_width,
  invoice_signed_numbers,
  reply_signed_numbers,
  request_signed_numbers,
  request_signed_width,
}
use Rattle.messages.specs.declared.parts.Buyer.{Buyer}
use Rattle.messages.specs.declared.parts.Gateway.{Gateway}
use Rattle.messages.specs.declared.parts.Hashed.{Hashed}
use Rattle.messages.specs.declared.parts.Mark.{Mark}
use Rattle.messages.specs.declared.parts.Seller.{Seller}
use Rattle.messages.specs.declared.parts.Slip.{Slip}
use Rattle.messages.specs.declared.signed.BuyerSigned.{BuyerSigned}
use Rattle.messages.specs.declared.signed.InvoiceSigned.{InvoiceSigned}
use Rattle.messages.specs.declared.signed.ReplySigned.{ReplySigned}
use Rattle.messages.specs.declared.signed.RequestSigned.{RequestSigned}
use Rattle.messages.specs.declared.kind.Kind.{Kind}
use Rattle.messages.specs.declared.kind.Kind.TheVariants.{AuthRequest, AuthResponse, Initiate, Invoice, Payment}

abbrev pub kind_number : Kind → ℕ
kind_number Initiate = 1
kind_number Invoice = 2
kind_number Payment = 3
kind_number AuthRequest = 4
kind_number AuthResponse = 5

-- positions that every kind has
abbrev pub kind : ℕ
kind = 0

abbrev pub maker : ℕ
maker = 1

abbrev pub source : ℕ
source = 2

abbrev pub destination : ℕ
destination = 3

-- the first position after those: an Initiate's hashed account, an Invoice's or a request's mark, a Payment's slip, a reply's code
abbrev pub body : ℕ
body = 4

-- an Initiate's account, and the buyer of an Invoice's or a request's mark
abbrev pub initiate_account : ℕ
initiate_account = body + drawn_width

abbrev pub mark_buyer : ℕ
mark_buyer = body + 1

abbrev pub invoice_signed : ℕ
invoice_signed = body + mark_width

abbrev pub payment_signed : ℕ
payment_signed = body + slip_width

abbrev pub request_slip : ℕ
request_slip = body + mark_width

abbrev pub request_signed : ℕ
request_signed = request_slip + slip_width

abbrev pub request_buyer_signed : ℕ
request_buyer_signed = request_signed + request_signed_width

abbrev pub reply_signed : ℕ
reply_signed = body + 1

abbrev pub message_width : ℕ
message_width = request_buyer_signed + buyer_signed_width

abbrev pub kind_of : Message → ℕ
kind_of m = get_or m kind 0

-- a list filled up to a width
abbrev pub filled : {A : Type 0} → ℕ → A → List A → List A
filled width x xs = xs ++ replicate (width - length xs) x

-- pieces one after the other
abbrev pub flat : {A : Type 0} → List (List A) → List A
flat [] = []
flat (x ∷ xs) = x ++ flat xs

-- unused positions are 0
abbrev pub laid : Kind → ℕ → ℕ → ℕ → List ℕ → Message
laid k maker_no source_no destination_no parts = filled message_width 0 (kind_number k ∷ maker_no ∷ source_no ∷ destination_no ∷ parts)

-- each kind: maker, source, destination, parts
abbrev pub an_initiate : Buyer → Buyer → Seller → Hashed → Message
an_initiate by from to h = laid Initiate by.0 from.0 to.0 (hashed_numbers h)

abbrev pub an_invoice : Seller → Seller → Buyer → Mark → InvoiceSigned → Message
an_invoice by from to x v = laid Invoice by.0 from.0 to.0 (mark_numbers x ++ invoice_signed_numbers v)

abbrev pub a_payment : Buyer → Buyer → Seller → Slip → BuyerSigned → Message
a_payment by from to x p = laid Payment by.0 from.0 to.0 (slip_numbers x ++ buyer_signed_numbers p)

abbrev pub an_auth_request : Seller → Seller → Gateway → Mark → Slip → RequestSigned → BuyerSigned → Message
an_auth_request by from to x y q p =
    laid AuthRequest by.0 from.0 to.0 (mark_numbers x ++ slip_numbers y ++ request_signed_numbers q ++ buyer_signed_numbers p)

abbrev pub an_auth_response : Gateway → Gateway → Seller → ℕ → ReplySigned → Message
an_auth_response by from to c g = laid AuthResponse by.0 from.0 to.0 (c ∷ reply_signed_numbers g)
