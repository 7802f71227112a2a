-- The outsider's messages: from what a step gives, and document 01's defaults for what it does not. R is the record, ks what the code's
-- row calls the six arguments, xs the arguments.
use Rattle.std.specs.Prelude.{ℕ, Bool, false, ◌||◌, cond, List, [], ◌∷◌, eqb}
use Rattle.messages.specs.Layout.{an_auth_request, an_auth_response, an_initiate, an_invoice, a_payment}
use Rattle.messages.specs.declared.kind.Kind.{Kind}
use Rattle.messages.specs.declared.kind.Kind.TheVariants.{AuthRequest, AuthResponse, Initiate, Invoice, Payment}
use Rattle.messages.specs.Parts.{Message, owner_of}
use Rattle.record.specs.Table.{Record, message_at}
use Rattle.messages.specs.declared.parts.Account.{Account}
use Rattle.messages.specs.declared.parts.Buyer.{Buyer}
use Rattle.messages.specs.declared.parts.Drawn.{Drawn}
use Rattle.messages.specs.declared.parts.Hashed.{Hashed}
use Rattle.messages.specs.declared.parts.Mark.{Mark}
use Rattle.messages.specs.declared.parts.Seller.{Seller}
use Rattle.messages.specs.declared.parts.Slip.{Slip}
use Rattle.messages.specs.declared.signed.BuyerSigned.{BuyerSigned}
use Rattle.messages.specs.declared.signed.InvoiceSigned.{InvoiceSigned}
use Rattle.messages.specs.declared.signed.ReplySigned.{ReplySigned}
use Rattle.messages.specs.declared.signed.RequestSigned.{RequestSigned}
use Rattle.rules.specs.Codes.{letter}
use Rattle.rules.specs.declared.codes.Argument.{Argument}
use Rattle.rules.specs.declared.codes.Item.{Item}
use Rattle.rules.specs.Honest.{false_gateway, house, slip_under}
use Rattle.rules.specs.Items.{
  buyer_signed_in,
  drawn_in,
  hashed_in,
  invoice_signed_in,
  mark_in,
  reply_signed_in,
  request_signed_in,
  slip_in,
}

-- whether a row has an argument, and its number in the step (0 if the row has none)
abbrev pub gives : Argument → List Argument → Bool
gives k [] = false
gives k (j ∷ js) = eqb (letter j) (letter k) || gives k js

abbrev pub given : Argument → List Argument → List ℕ → ℕ
given k [] xs = 0
given k (j ∷ js) [] = 0
given k (j ∷ js) (x ∷ xs) = cond (eqb (letter j) (letter k)) x (given k js xs)

-- the outsider's names as a buyer and as a seller
abbrev pub no_buyer : Buyer
no_buyer = record { 0 = 0 }

abbrev pub no_seller : Seller
no_seller = record { 0 = 0 }

module _ (R : Record) (ks : List Argument) (xs : List ℕ) where
  -- the message at the place that the step gives
  abbrev pub copied : Item → Message
  copied i = message_at R (record { 0 = given (Argument.At i) ks xs })

  -- the item of the message that the step gives, or else what is built in its place
  abbrev pub item_or : {A : Type 0} → Item → (Message → A) → A → A
  item_or i read built = cond (gives (Argument.At i) ks) (read (copied i)) built

  abbrev pub seller : Seller
  seller = record { 0 = given Argument.S ks xs }

  -- a: 0 means his own
  abbrev pub account : Account
  account =
      cond (eqb (given Argument.A ks xs) 0) (record { 0 = 0 })
      (slip_in (message_at R (record { 0 = given Argument.A ks xs }))).account

  -- r: every row that builds a hashed account or a slip has one
  abbrev pub drawn : Drawn
  drawn = item_or Item.R drawn_in (record { drawer = no_buyer; draw = 0 })

  -- without B, the buyer is the owner of a
  abbrev pub buyer : Buyer
  buyer = cond (gives Argument.B ks) (record { 0 = given Argument.B ks xs }) (owner_of account)

  -- without h, the hashed account is r with a
  abbrev pub hashed : Hashed
  hashed = item_or Item.H hashed_in (record { drawn = drawn; account = account })

  -- without m, the mark is (S, buyer, hashed account)
  abbrev pub mark : Mark
  mark = item_or Item.M mark_in (record { seller = seller; buyer = buyer; hashed = hashed })

  -- without e, a slip is built under key 1 from that mark, a and r
  abbrev pub slip : Slip
  slip = item_or Item.E slip_in (slip_under house mark account drawn)

  -- a missing signature is made by 0 over the message's own mark, slip or code
  abbrev pub invoice_signature : InvoiceSigned
  invoice_signature = item_or Item.V invoice_signed_in (record { signer = no_seller; mark = mark })

  abbrev pub request_signature : RequestSigned
  request_signature = item_or Item.Q request_signed_in (record { signer = no_seller; mark = mark; slip = slip })

  abbrev pub buyer_signature : BuyerSigned
  buyer_signature = item_or Item.P buyer_signed_in (record { signer = no_buyer; slip = slip; mark = mark })

  abbrev pub code : ℕ
  code = given Argument.C ks xs

  abbrev pub reply_signature : ReplySigned
  reply_signature = item_or Item.G reply_signed_in (record { signer = false_gateway; code = code; mark = mark })

  -- the maker is 0; source and destination are as named, gateway 1 where none is
  abbrev pub forged : Kind → Message
  forged Initiate = an_initiate no_buyer buyer seller hashed
  forged Invoice = an_invoice no_seller seller buyer mark invoice_signature
  forged Payment = a_payment no_buyer buyer seller slip buyer_signature
  forged AuthRequest = an_auth_request no_seller seller house mark slip request_signature buyer_signature
  forged AuthResponse = an_auth_response false_gateway house seller code reply_signature
