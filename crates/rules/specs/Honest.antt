-- The honest steps: what each wants of the messages that it names, as a list of claims, and the message that it adds.
use Rattle.std.specs.Prelude.{ℕ, ◌+◌, ◌/◌, ◌%◌, ◌^◌, Bool, cond, List, [], ◌∷◌, eqb}
use Rattle.messages.specs.Layout.{an_auth_request, an_auth_response, an_initiate, an_invoice, a_payment, body, destination, initiate_account, invoice_signed, maker, mark_buyer, payment_signed, request_buyer_signed, request_signed, request_slip, source}
use Rattle.messages.specs.Parts.{
  Message,
  account_at,
  account_of,
  buyer_at,
  gateway_at,
  hashed_at,
  mark_at,
  mark_numbers,
  mark_width,
  owner_of,
  seller_at,
  slip_at,
  slip_numbers,
  slip_width,
}
use Rattle.messages.specs.Signed.{buyer_signed_at}
use Rattle.messages.specs.Tests.{same}
use Rattle.messages.specs.declared.parts.Account.{Account}
use Rattle.messages.specs.declared.parts.Buyer.{Buyer}
use Rattle.messages.specs.declared.parts.Drawn.{Drawn}
use Rattle.messages.specs.declared.parts.Gateway.{Gateway}
use Rattle.messages.specs.declared.parts.Hashed.{Hashed}
use Rattle.messages.specs.declared.parts.Mark.{Mark}
use Rattle.messages.specs.declared.parts.Place.{Place}
use Rattle.messages.specs.declared.parts.Seller.{Seller}
use Rattle.messages.specs.declared.parts.Slip.{Slip}
use Rattle.messages.specs.declared.signed.BuyerSigned.{BuyerSigned}

-- gateway 1 is the house, gateway 0 the outsider's false one
abbrev pub house : Gateway
house = record { 0 = 1 }

abbrev pub false_gateway : Gateway
false_gateway = record { 0 = 0 }

-- the messages that honest parties make, each made by its source
abbrev pub initiate_by : Buyer → Seller → Hashed → Message
initiate_by B S h = an_initiate B B S h

abbrev pub invoice_by : Seller → Buyer → Mark → Message
invoice_by S B x = an_invoice S S B x (record { signer = S; mark = x })

abbrev pub payment_by : Buyer → Seller → Slip → Mark → Message
payment_by B S y x = a_payment B B S y (record { signer = B; slip = y; mark = x })

abbrev pub request_by : Seller → Mark → Slip → BuyerSigned → Message
request_by S x y p = an_auth_request S S house x y (record { signer = S; mark = x; slip = y }) p

abbrev pub reply_by : Gateway → Seller → ℕ → Mark → Message
reply_by G S code x = an_auth_response G G S code (record { signer = G; code = code; mark = x })

-- a claim: the numbers found in a message at a position, and those wanted there
pub record Claim : Type 0 where
  pub found : List ℕ
  pub wanted : List ℕ

abbrev pub holds : Claim → Bool
holds x = same x.found x.wanted

abbrev pub buyer_is : Message → ℕ → Buyer → Claim
buyer_is x k B = record { found = (buyer_at x k).0 ∷ []; wanted = B.0 ∷ [] }

abbrev pub seller_is : Message → ℕ → Seller → Claim
seller_is x k S = record { found = (seller_at x k).0 ∷ []; wanted = S.0 ∷ [] }

abbrev pub gateway_is : Message → ℕ → Gateway → Claim
gateway_is x k G = record { found = (gateway_at x k).0 ∷ []; wanted = G.0 ∷ [] }

abbrev pub account_is : Message → ℕ → Account → Claim
account_is x k A = record { found = (account_at x k).0 ∷ []; wanted = A.0 ∷ [] }

abbrev pub mark_is : Message → ℕ → Mark → Claim
mark_is x k y = record { found = mark_numbers (mark_at x k); wanted = mark_numbers y }

abbrev pub slip_is : Message → ℕ → Slip → Claim
slip_is x k y = record { found = slip_numbers (slip_at x k); wanted = slip_numbers y }

-- 1: buyer B, seller S. The draw is the new message's place
abbrev pub started : Buyer → Seller → Place → Message
started B S new = initiate_by B S (record { drawn = record { drawer = B; draw = new.0 }; account = account_of B })

-- 2: S, Initiate
abbrev pub invoice_claims : Seller → Message → List Claim
invoice_claims S initiate = seller_is initiate destination S ∷ []

abbrev pub mark_for : Seller → Message → Mark
mark_for S initiate = record { seller = S; buyer = buyer_at initiate source; hashed = hashed_at initiate body }

abbrev pub invoiced : Seller → Message → Message
invoiced S initiate = invoice_by S (buyer_at initiate source) (mark_for S initiate)

-- 3 and 38: B, Initiate, Invoice
abbrev pub order_mark : Buyer → Message → Mark
order_mark B initiate = record { seller = seller_at initiate destination; buyer = B; hashed = hashed_at initiate body }

abbrev pub pay_claims : Buyer → Message → Message → List Claim
pay_claims B initiate invoice =
    buyer_is initiate maker B
    ∷ buyer_is initiate source B
    ∷ account_is initiate initiate_account (account_of B)
    ∷ seller_is invoice source (seller_at initiate destination)
    ∷ buyer_is invoice destination B
    ∷ mark_is invoice body (order_mark B initiate)
    ∷ seller_is invoice invoice_signed (seller_at initiate destination)
    ∷ mark_is invoice (invoice_signed + 1) (order_mark B initiate)
    ∷ []

abbrev pub slip_under : Gateway → Mark → Account → Drawn → Slip
slip_under key x A r = record { key = key; mark = x; account = A; drawn = r }

-- the slip is under key 1 in step 3, and under key 0 in step 38
abbrev pub paid : Gateway → Buyer → Message → Message
paid key B initiate =
    payment_by B (seller_at initiate destination)
    (slip_under key (order_mark B initiate) (account_of B) (hashed_at initiate body).drawn) (order_mark B initiate)

-- 4: S, Invoice, Payment
abbrev pub ask_claims : Seller → Message → Message → List Claim
ask_claims S invoice payment =
    seller_is invoice maker S
    ∷ seller_is invoice source S
    ∷ seller_is invoice body S
    ∷ buyer_is invoice mark_buyer (buyer_at invoice destination)
    ∷ buyer_is payment source (buyer_at invoice destination)
    ∷ seller_is payment destination S
    ∷ buyer_is payment payment_signed (buyer_at invoice destination)
    ∷ slip_is payment (payment_signed + 1) (slip_at payment body)
    ∷ mark_is payment (payment_signed + 1 + slip_width) (mark_at invoice body)
    ∷ []

abbrev pub asked : Seller → Message → Message → Message
asked S invoice payment = request_by S (mark_at invoice body) (slip_at payment body) (buyer_signed_at payment payment_signed)

-- 5: Auth-Request. The mark is rebuilt from the slip
abbrev pub rebuilt : Seller → Slip → Mark
rebuilt S y = record { seller = S; buyer = owner_of y.account; hashed = record { drawn = y.drawn; account = y.account } }

abbrev pub reply_claims : Message → List Claim
reply_claims request =
    let S = seller_at request source in
    let x = mark_at request body in
    let y = slip_at request request_slip in
    gateway_is request destination house
    ∷ gateway_is request request_slip house
    ∷ mark_is request (request_slip + 1) x
    ∷ mark_is request body (rebuilt S y)
    ∷ seller_is request request_signed S
    ∷ mark_is request (request_signed + 1) x
    ∷ slip_is request (request_signed + 1 + mark_width) y
    ∷ buyer_is request request_buyer_signed (owner_of y.account)
    ∷ slip_is request (request_buyer_signed + 1) y
    ∷ mark_is request (request_buyer_signed + 1 + slip_width) x
    ∷ []

-- bit b of the answers is set when account b is good; code 1 is yes, 2 is no
abbrev pub good : ℕ → Account → Bool
good answers A = eqb ((answers / 2 ^ A.0) % 2) 1

abbrev pub code_for : ℕ → Account → ℕ
code_for answers A = cond (good answers A) 1 2

abbrev pub replied : ℕ → Message → Message
replied answers request =
    reply_by house (seller_at request source) (code_for answers (slip_at request request_slip).account) (mark_at request body)
