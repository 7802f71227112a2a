-- Which messages are lawful: a row of ranges for each kind, written with the part names of the layout.
use Rattle.std.specs.Prelude.{ℕ, ◌-◌, Bool, true, false, ◌&&◌, List, [], ◌∷◌, ◌++◌, eqb, get_or, length}
use Rattle.messages.specs.Layout.{filled, kind_of, message_width}
use Rattle.messages.specs.Parts.{Message}
use Rattle.messages.specs.Tests.{between}
use Rattle.lawful.specs.declared.Span.{Span}

-- what a position may hold: nothing (it is unused), a kind, a buyer, a seller, a gateway, an account, a draw, a response code
pub data Range : Type 0 where
  unused kinds buyers sellers gateways accounts draws codes : Range

abbrev pub span : ℕ → ℕ → Span
span least most = record { 0 = least; 1 = most }

-- the least and the most number of a range
abbrev pub span_of : Range → Span
span_of unused = span 0 0
span_of kinds = span 1 5
span_of buyers = span 0 15
span_of sellers = span 0 15
span_of gateways = span 0 1
span_of accounts = span 0 15
span_of draws = span 1 512
span_of codes = span 1 2

abbrev pub within : Range → ℕ → Bool
within r x = between (span_of r).0 x (span_of r).1

-- the parts
abbrev pub hashed_ranges : List Range
hashed_ranges = buyers ∷ draws ∷ accounts ∷ []

abbrev pub mark_ranges : List Range
mark_ranges = sellers ∷ buyers ∷ hashed_ranges

abbrev pub slip_ranges : List Range
slip_ranges = gateways ∷ (mark_ranges ++ (accounts ∷ buyers ∷ draws ∷ []))

-- the signatures
abbrev pub invoice_signed_ranges : List Range
invoice_signed_ranges = sellers ∷ mark_ranges

abbrev pub buyer_signed_ranges : List Range
buyer_signed_ranges = buyers ∷ (slip_ranges ++ mark_ranges)

abbrev pub request_signed_ranges : List Range
request_signed_ranges = sellers ∷ (mark_ranges ++ slip_ranges)

abbrev pub reply_signed_ranges : List Range
reply_signed_ranges = gateways ∷ codes ∷ mark_ranges

-- the kinds, 1 to 5: kind, maker, source, destination, parts
abbrev pub kind_ranges : List (List Range)
kind_ranges =
    filled message_width unused (kinds ∷ buyers ∷ buyers ∷ sellers ∷ hashed_ranges)
    ∷ filled message_width unused (kinds ∷ sellers ∷ sellers ∷ buyers ∷ (mark_ranges ++ invoice_signed_ranges))
    ∷ filled message_width unused (kinds ∷ buyers ∷ buyers ∷ sellers ∷ (slip_ranges ++ buyer_signed_ranges))
    ∷ filled message_width unused (kinds ∷ sellers ∷ sellers ∷ gateways ∷ (mark_ranges ++ slip_ranges ++ request_signed_ranges ++ buyer_signed_ranges))
    ∷ filled message_width unused (kinds ∷ gateways ∷ gateways ∷ sellers ∷ codes ∷ reply_signed_ranges)
    ∷ []

-- each number in the range beside it, and as many numbers as ranges
abbrev pub fits : List Range → List ℕ → Bool
fits [] [] = true
fits [] (x ∷ xs) = false
fits (r ∷ rs) [] = false
fits (r ∷ rs) (x ∷ xs) = within r x && fits rs xs

-- kind 0 is not in the range of kinds, and past kind 5 there is no row
abbrev pub lawful : Message → Bool
lawful m = eqb (length m) message_width && fits (get_or kind_ranges (kind_of m - 1) []) m
