-- One step against a record: its verdict, refusals 2 to 7 in order or the message added; and against a flat table with a count, where
-- refusal 1 comes first.
use Rattle.std.specs.Prelude.{ℕ, ◌+◌, Bool, cond, List, [], ◌∷◌, ◌++◌, ltb, drop, get_or, length}
use Rattle.messages.specs.declared.kind.Kind.TheVariants.{AuthRequest, Initiate, Invoice, Payment}
use Rattle.messages.specs.Parts.{Message}
use Rattle.record.specs.Table.{Record, lawful_record, message_at, messages, room_of, with_message}
use Rattle.messages.specs.Tests.{all}
use Rattle.messages.specs.declared.parts.Buyer.{Buyer}
use Rattle.messages.specs.declared.parts.Place.{Place}
use Rattle.messages.specs.declared.parts.Seller.{Seller}
use Rattle.rules.specs.Codes.{Deed, Row, asks, forges, invoices, known, pays, replies, row_of, starts}
use Rattle.rules.specs.declared.codes.Argument.{Argument}
use Rattle.rules.specs.Forged.{forged, given}
use Rattle.rules.specs.Gates.{Gate, ◌unless◌, through}
use Rattle.rules.specs.Honest.{
  Claim,
  ask_claims,
  asked,
  holds,
  invoice_claims,
  invoiced,
  paid,
  pay_claims,
  replied,
  reply_claims,
  started,
}
use Rattle.rules.specs.Items.{each_argument, holding, in_range, placed}

-- a step is seven numbers: a code and six arguments. Numbers that are left off count as 0, and those past the seventh are never read
abbrev pub Step : Type 0
Step = List ℕ

abbrev pub code_of : Step → ℕ
code_of s = get_or s 0 0

abbrev pub arguments_of : Step → List ℕ
arguments_of s = drop 1 s

-- what a step comes to
pub data Outcome : Type 0 where
  accepted : Message → Outcome
  refused : ℕ → Outcome

-- the new message's place
abbrev pub new_place : Record → Place
new_place R = record { 0 = length R + 1 }

-- the parties and messages that an honest step names
module _ (R : Record) (ks : List Argument) (xs : List ℕ) where
  abbrev pub the_buyer : Buyer
  the_buyer = record { 0 = given Argument.B ks xs }

  abbrev pub the_seller : Seller
  the_seller = record { 0 = given Argument.S ks xs }

  abbrev pub the_initiate : Message
  the_initiate = message_at R (record { 0 = given (Argument.The Initiate) ks xs })

  abbrev pub the_invoice : Message
  the_invoice = message_at R (record { 0 = given (Argument.The Invoice) ks xs })

  abbrev pub the_payment : Message
  the_payment = message_at R (record { 0 = given (Argument.The Payment) ks xs })

  abbrev pub the_request : Message
  the_request = message_at R (record { 0 = given (Argument.The AuthRequest) ks xs })

  -- refusal 6: an honest step's condition
  abbrev pub claims : Deed → List Claim
  claims starts = []
  claims invoices = invoice_claims the_seller the_initiate
  claims (pays key) = pay_claims the_buyer the_initiate the_invoice
  claims asks = ask_claims the_seller the_invoice the_payment
  claims replies = reply_claims the_request
  claims (forges k) = []

  abbrev pub added : ℕ → Deed → Message
  added answers starts = started the_buyer the_seller (new_place R)
  added answers invoices = invoiced the_seller the_initiate
  added answers (pays key) = paid key the_buyer the_initiate
  added answers asks = asked the_seller the_invoice the_payment
  added answers replies = replied answers the_request
  added answers (forges k) = forged R ks xs k

-- refusals 2 to 7 in their order, for a step by its row
abbrev pub gates : ℕ → Record → Bool → Row → List ℕ → List Gate
gates room R is_known x xs =
    2 unless is_known
    ∷ 3 unless each_argument in_range x.takes xs
    ∷ 4 unless each_argument (placed (length R)) x.takes xs
    ∷ 5 unless each_argument (holding R) x.takes xs
    ∷ 6 unless all holds (claims R x.takes xs x.deed)
    ∷ 7 unless ltb (length R) room
    ∷ []

unfoldable pub judge_row : ℕ → ℕ → Record → Bool → Row → List ℕ → Outcome
judge_row answers room R is_known x xs =
    through (gates room R is_known x xs) refused (accepted (added R x.takes xs answers x.deed))

-- with these account answers and room
unfoldable pub judge : ℕ → ℕ → Record → Step → Outcome
judge answers room R s = judge_row answers room R (known (code_of s)) (row_of (code_of s)) (arguments_of s)

-- with a table and a count
unfoldable pub judge_table : ℕ → ℕ → List ℕ → Step → Outcome
judge_table answers n t s =
    cond (lawful_record n t) (judge answers (room_of t) (messages n t) s) (refused 1)

-- the number and the place returned
abbrev pub number_of : Outcome → ℕ
number_of (accepted x) = 0
number_of (refused k) = k

abbrev pub place_of : ℕ → Outcome → ℕ
place_of n (accepted x) = n + 1
place_of n (refused k) = 0

-- the record, the count and the table afterwards: a message more at the end of the record, in the next place of the table; or as before
abbrev pub record_after : Record → Outcome → Record
record_after R (accepted x) = R ++ (x ∷ [])
record_after R (refused k) = R

abbrev pub count_after : ℕ → Outcome → ℕ
count_after n (accepted x) = n + 1
count_after n (refused k) = n

abbrev pub table_after : ℕ → List ℕ → Outcome → List ℕ
table_after n t (accepted x) = with_message n t x
table_after n t (refused k) = t
