-- The parts of a message, as document 01 names them: how many numbers each has, how it is read at a position of a message
-- (`..At`), its numbers in the order in which they stand there (`..Numbers`), and the test that two are the same.
use Rattle.std.specs.Prelude.{ℕ, ◌+◌, Bool, List, [], ◌∷◌, ◌++◌, get_or}
use Rattle.messages.specs.Tests.{same}
use Rattle.messages.specs.declared.parts.Account.{Account}
use Rattle.messages.specs.declared.parts.Buyer.{Buyer}
use Rattle.messages.specs.declared.parts.Drawn.{Drawn}
use Rattle.messages.specs.declared.parts.Gateway.{Gateway}
use Rattle.messages.specs.declared.parts.Hashed.{Hashed}
use Rattle.messages.specs.declared.parts.Mark.{Mark}
use Rattle.messages.specs.declared.parts.Seller.{Seller}
use Rattle.messages.specs.declared.parts.Slip.{Slip}

-- a message is the list of its numbers
abbrev pub Message : Type 0
Message = List ℕ

abbrev pub drawn_width : ℕ
drawn_width = 2

abbrev pub hashed_width : ℕ
hashed_width = drawn_width + 1

abbrev pub mark_width : ℕ
mark_width = 2 + hashed_width

abbrev pub slip_width : ℕ
slip_width = 1 + mark_width + 1 + drawn_width

-- a party or an account is one number
abbrev pub buyer_at : Message → ℕ → Buyer
buyer_at m k = record { 0 = get_or m k 0 }

abbrev pub seller_at : Message → ℕ → Seller
seller_at m k = record { 0 = get_or m k 0 }

abbrev pub gateway_at : Message → ℕ → Gateway
gateway_at m k = record { 0 = get_or m k 0 }

abbrev pub account_at : Message → ℕ → Account
account_at m k = record { 0 = get_or m k 0 }

-- a buyer's account bears the buyer's number
abbrev pub owner_of : Account → Buyer
owner_of a = record { 0 = a.0 }

abbrev pub account_of : Buyer → Account
account_of b = record { 0 = b.0 }

-- drawer and draw
abbrev pub drawn_at : Message → ℕ → Drawn
drawn_at m k = record { drawer = buyer_at m k; draw = get_or m (k + 1) 0 }

abbrev pub drawn_numbers : Drawn → List ℕ
drawn_numbers r = r.drawer.0 ∷ r.draw ∷ []

-- a hashed account: drawer, draw, account
abbrev pub hashed_at : Message → ℕ → Hashed
hashed_at m k = record { drawn = drawn_at m k; account = account_at m (k + drawn_width) }

abbrev pub hashed_numbers : Hashed → List ℕ
hashed_numbers h = drawn_numbers h.drawn ++ (h.account.0 ∷ [])

-- a mark: seller, buyer, hashed account
abbrev pub mark_at : Message → ℕ → Mark
mark_at m k = record { seller = seller_at m k; buyer = buyer_at m (k + 1); hashed = hashed_at m (k + 2) }

abbrev pub mark_numbers : Mark → List ℕ
mark_numbers x = x.seller.0 ∷ x.buyer.0 ∷ hashed_numbers x.hashed

-- a slip: gateway key, mark, account, drawer, draw
abbrev pub slip_at : Message → ℕ → Slip
slip_at m k =
    record {
      key = gateway_at m k;
      mark = mark_at m (k + 1);
      account = account_at m (k + 1 + mark_width);
      drawn = drawn_at m (k + 1 + mark_width + 1);
    }

abbrev pub slip_numbers : Slip → List ℕ
slip_numbers x = x.key.0 ∷ (mark_numbers x.mark ++ (x.account.0 ∷ drawn_numbers x.drawn))

-- the same part
abbrev pub same_drawn : Drawn → Drawn → Bool
same_drawn a b = same (drawn_numbers a) (drawn_numbers b)

abbrev pub same_hashed : Hashed → Hashed → Bool
same_hashed a b = same (hashed_numbers a) (hashed_numbers b)

abbrev pub same_mark : Mark → Mark → Bool
same_mark a b = same (mark_numbers a) (mark_numbers b)

abbrev pub same_slip : Slip → Slip → Bool
same_slip a b = same (slip_numbers a) (slip_numbers b)
