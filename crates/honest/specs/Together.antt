-- Claims that the code tests together. The condition of a step, as the rules list it, is some of these one after the other.
use Rattle.std.specs.Prelude.{ℕ, ◌+◌, List, [], ◌∷◌, get_or}
use Rattle.messages.specs.Layout.{body, destination, initiate_account, maker, mark_buyer, request_slip, source}
use Rattle.messages.specs.Parts.{Message, account_of, buyer_at, slip_width}
use Rattle.messages.specs.declared.parts.Buyer.{Buyer}
use Rattle.messages.specs.declared.parts.Mark.{Mark}
use Rattle.messages.specs.declared.parts.Seller.{Seller}
use Rattle.messages.specs.declared.parts.Slip.{Slip}
use Rattle.rules.specs.Honest.{Claim, account_is, buyer_is, gateway_is, house, mark_is, seller_is, slip_is}

-- source and destination, whatever sorts they are
abbrev pub goes : Message → ℕ → ℕ → List Claim
goes x from to =
    record { found = get_or x source 0 ∷ []; wanted = from ∷ [] } ∷ record { found = get_or x destination 0 ∷ []; wanted = to ∷ [] } ∷ []

-- a seller's signature at a position, so far as it is over a mark
abbrev pub seller_signed : Message → ℕ → Seller → Mark → List Claim
seller_signed x k S y = seller_is x k S ∷ mark_is x (k + 1) y ∷ []

-- a buyer's signature at a position
abbrev pub buyer_signed : Message → ℕ → Buyer → Slip → Mark → List Claim
buyer_signed x k B y z = buyer_is x k B ∷ slip_is x (k + 1) y ∷ mark_is x (k + 1 + slip_width) z ∷ []

-- steps 3 and 38: an Initiate of the buyer's own
abbrev pub own_initiate : Buyer → Message → List Claim
own_initiate B initiate = buyer_is initiate maker B ∷ buyer_is initiate source B ∷ account_is initiate initiate_account (account_of B) ∷ []

-- step 4: an Invoice of the seller's own
abbrev pub own_invoice : Seller → Message → List Claim
own_invoice S invoice =
    seller_is invoice maker S
    ∷ seller_is invoice source S
    ∷ seller_is invoice body S
    ∷ buyer_is invoice mark_buyer (buyer_at invoice destination)
    ∷ []

-- step 5: a request that the house can read
abbrev pub for_house : Message → List Claim
for_house request = gateway_is request destination house ∷ gateway_is request request_slip house ∷ []
