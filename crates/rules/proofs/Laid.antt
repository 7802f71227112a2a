-- A message that steps make is what its own parts, read at their positions, make when they are laid out again; so a receiver that has
-- compared the parts has compared the message.
use mathlib.Core.Bool.{true}
use mathlib.Core.List.{[], ◌∷◌}
use mathlib.Core.Path.{◌≡◌, ◌∙◌, refl, sym, ap}
use Prim.Native.Nat.{ℕ, ◌-◌}
use borrow.Author.Tests.{eqb-true}
use lib.ListN.{get_or, length}
use Rattle.messages.specs.Layout.{a_payment, an_auth_request, an_auth_response, an_initiate, an_invoice, body, destination, invoice_signed, kind_number, kind_of, maker, message_width, payment_signed, reply_signed, request_buyer_signed, request_signed, request_slip, source}
use Rattle.messages.specs.declared.kind.Kind.{Kind}
use Rattle.messages.specs.declared.kind.Kind.TheVariants.{AuthRequest, AuthResponse, Initiate, Invoice, Payment}
use Rattle.messages.specs.Parts.{Message, buyer_at, gateway_at, hashed_at, mark_at, seller_at, slip_at}
use Rattle.messages.specs.Signed.{buyer_signed_at, invoice_signed_at, reply_signed_at, request_signed_at}
use Rattle.rules.specs.Items.{is_kind}

-- the message that the parts of x make as a message of a kind
abbrev pub relaid : Kind → Message → Message
relaid Initiate x = an_initiate (buyer_at x maker) (buyer_at x source) (seller_at x destination) (hashed_at x body)
relaid Invoice x =
    an_invoice (seller_at x maker) (seller_at x source) (buyer_at x destination) (mark_at x body) (invoice_signed_at x invoice_signed)
relaid Payment x =
    a_payment (buyer_at x maker) (buyer_at x source) (seller_at x destination) (slip_at x body) (buyer_signed_at x payment_signed)
relaid AuthRequest x =
    an_auth_request (seller_at x maker) (seller_at x source) (gateway_at x destination) (mark_at x body) (slip_at x request_slip)
    (request_signed_at x request_signed) (buyer_signed_at x request_buyer_signed)
relaid AuthResponse x =
    an_auth_response (gateway_at x maker) (gateway_at x source) (seller_at x destination) (get_or x body 0) (reply_signed_at x reply_signed)

-- a kind is known by its number
abbrev numbered : ℕ → Kind
numbered n = get_or (Initiate ∷ Invoice ∷ Payment ∷ AuthRequest ∷ AuthResponse ∷ []) (n - 1) Initiate

by_number : (k : Kind) → numbered (kind_number k) ≡ k
by_number Initiate = refl
by_number Invoice = refl
by_number Payment = refl
by_number AuthRequest = refl
by_number AuthResponse = refl

relaid_as : (k : Kind) (x : Message) → (kind_of (relaid k x) ≡ kind_number k) × (length (relaid k x) ≡ message_width)
relaid_as Initiate x = (refl, refl)
relaid_as Invoice x = (refl, refl)
relaid_as Payment x = (refl, refl)
relaid_as AuthRequest x = (refl, refl)
relaid_as AuthResponse x = (refl, refl)

-- a laid out message has one kind only, and the length of a message
pub one_kind : (j k : Kind) (x : Message) → x ≡ relaid j x → is_kind k x ≡ true → j ≡ k
one_kind j k x e h =
    sym (by_number j)
    ∙ ap numbered (sym (relaid_as j x).0 ∙ ap kind_of (sym e) ∙ eqb-true (kind_of x) (kind_number k) h)
    ∙ by_number k

pub full_length : (k : Kind) (x : Message) → x ≡ relaid k x → length x ≡ message_width
full_length k x e = ap length e ∙ (relaid_as k x).1
