-- What a step's arguments name: the range of each (refusal 3), the places (4), what the messages there hold (5), and the
-- value that is copied from such a message.
use Rattle.std.specs.Prelude.{ℕ, Bool, true, ◌&&◌, ◌||◌, cond, List, [], ◌∷◌, eqb, leb}
use Rattle.messages.specs.Tests.{between}
use Rattle.lawful.specs.Lawful.{buyers, codes, sellers, within}
use Rattle.messages.specs.Layout.{body, invoice_signed, kind_number, kind_of, payment_signed, reply_signed, request_buyer_signed, request_signed, request_slip}
use Rattle.messages.specs.declared.kind.Kind.{Kind}
use Rattle.messages.specs.declared.kind.Kind.TheVariants.{AuthRequest, AuthResponse, Initiate, Invoice, Payment}
use Rattle.messages.specs.Parts.{Message, drawn_at, hashed_at, mark_at, slip_at}
use Rattle.messages.specs.Signed.{buyer_signed_at, invoice_signed_at, reply_signed_at, request_signed_at}
use Rattle.record.specs.Table.{Record, message_at}
use Rattle.messages.specs.declared.parts.Drawn.{Drawn}
use Rattle.messages.specs.declared.parts.Hashed.{Hashed}
use Rattle.messages.specs.declared.parts.Mark.{Mark}
use Rattle.messages.specs.declared.parts.Slip.{Slip}
use Rattle.messages.specs.declared.signed.BuyerSigned.{BuyerSigned}
use Rattle.messages.specs.declared.signed.InvoiceSigned.{InvoiceSigned}
use Rattle.messages.specs.declared.signed.ReplySigned.{ReplySigned}
use Rattle.messages.specs.declared.signed.RequestSigned.{RequestSigned}
use Rattle.rules.specs.declared.codes.Argument.{Argument}
use Rattle.rules.specs.declared.codes.Item.{Item}
use Rattle.rules.specs.Honest.{false_gateway}

abbrev pub is_kind : Kind → Message → Bool
is_kind k x = eqb (kind_of x) (kind_number k)

-- a slip stands in a Payment or an Auth-Request, and one under key 0 can be read by the outsider
abbrev pub has_slip : Message → Bool
has_slip x = is_kind Payment x || is_kind AuthRequest x

abbrev pub slip_in : Message → Slip
slip_in x = cond (is_kind Payment x) (slip_at x body) (slip_at x request_slip)

abbrev pub readable : Message → Bool
readable x = has_slip x && eqb (slip_in x).key.0 false_gateway.0

-- which messages yield an item
abbrev pub yields : Item → Message → Bool
yields Item.H x = is_kind Initiate x
yields Item.M x = is_kind Invoice x || is_kind AuthRequest x
yields Item.E x = has_slip x
yields Item.R x = (is_kind Initiate x && eqb (drawn_at x body).drawer.0 0) || readable x
yields Item.V x = is_kind Invoice x
yields Item.Q x = is_kind AuthRequest x
yields Item.P x = has_slip x
yields Item.G x = is_kind AuthResponse x

-- the item (of e, `slip_in`)
abbrev pub hashed_in : Message → Hashed
hashed_in x = hashed_at x body

abbrev pub mark_in : Message → Mark
mark_in x = mark_at x body

abbrev pub drawn_in : Message → Drawn
drawn_in x = cond (is_kind Initiate x) (drawn_at x body) (slip_in x).drawn

abbrev pub invoice_signed_in : Message → InvoiceSigned
invoice_signed_in x = invoice_signed_at x invoice_signed

abbrev pub request_signed_in : Message → RequestSigned
request_signed_in x = request_signed_at x request_signed

abbrev pub buyer_signed_in : Message → BuyerSigned
buyer_signed_in x = buyer_signed_at x (cond (is_kind Payment x) payment_signed request_buyer_signed)

abbrev pub reply_signed_in : Message → ReplySigned
reply_signed_in x = reply_signed_at x reply_signed

-- refusal 3: a party or c out of range, or an unused argument not 0
abbrev pub in_range : Argument → ℕ → Bool
in_range Argument.Unused x = eqb x 0
in_range Argument.B x = within buyers x
in_range Argument.S x = within sellers x
in_range Argument.C x = within codes x
in_range Argument.A x = true
in_range (Argument.The k) x = true
in_range (Argument.At i) x = true

-- refusal 4: a place not in 1..n; 0 is good only for a
abbrev pub placed : ℕ → Argument → ℕ → Bool
placed n Argument.Unused x = true
placed n Argument.B x = true
placed n Argument.S x = true
placed n Argument.C x = true
placed n Argument.A x = leb x n
placed n (Argument.The k) x = between 1 x n
placed n (Argument.At i) x = between 1 x n

-- refusal 5: the message holds no such item, or has the wrong kind for an honest step
abbrev pub holding : Record → Argument → ℕ → Bool
holding R Argument.Unused x = true
holding R Argument.B x = true
holding R Argument.S x = true
holding R Argument.C x = true
holding R Argument.A x = eqb x 0 || readable (message_at R (record { 0 = x }))
holding R (Argument.The k) x = is_kind k (message_at R (record { 0 = x }))
holding R (Argument.At i) x = yields i (message_at R (record { 0 = x }))

-- a test of each argument that a row has; one that is left off is 0
abbrev pub each_argument : (Argument → ℕ → Bool) → List Argument → List ℕ → Bool
each_argument f [] xs = true
each_argument f (k ∷ ks) [] = f k 0 && each_argument f ks []
each_argument f (k ∷ ks) (x ∷ xs) = f k x && each_argument f ks xs
