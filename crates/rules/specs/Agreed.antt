-- Agreement in the words of the theorems: a house reply at a place of a record, the four messages that stand earlier than it, and what the
-- report says of it. A payment is known by its mark, and its four messages are those of the report.
use Rattle.std.specs.Prelude.{ℕ, true, ◌↔◌, ◌≡◌, length}
use mathlib.Core.List.{List, Memᴰ, [], ◌∷◌}
use Rattle.messages.specs.Tests.{between}
use Rattle.messages.specs.Parts.{Message}
use Rattle.record.specs.Table.{Record, message_at}
use Rattle.messages.specs.declared.parts.Mark.{Mark}
use Rattle.messages.specs.declared.parts.Place.{Place}
use Rattle.rules.specs.Report.{house_reply, its_initiate, its_invoice, its_payment, its_request}

-- a message stands in a record
infix 40 ◌∈◌
abbrev pub ◌∈◌ : Message → Record → Type 0
x ∈ R = Memᴰ x R

-- at place p of R stands a reply made by the house gateway
pub record HouseReplyAt (R : Record) (p : Place) : Type 0 where
  pub inside : between 1 p.0 (length R) ≡ true
  pub reply : house_reply (message_at R p) ≡ true

-- buyer and seller of the payment x are both the outsider
abbrev pub BothOutside : Mark → Type 0
BothOutside x = (x.buyer.0 ≡ 0) × (x.seller.0 ≡ 0)

-- of the payment x these stand in R: the Initiate and the Payment made by its buyer, the Invoice and the Auth-Request made by its seller,
-- each with this mark (or its hashed account), its slip under key 1 and the signatures of both over these; and the account is the buyer's
pub record Agreed (x : Mark) (R : Record) : Type 0 where
  pub account : x.hashed.account.0 ≡ x.buyer.0
  pub initiate : its_initiate x ∈ R
  pub invoice : its_invoice x ∈ R
  pub payment : its_payment x ∈ R
  pub request : its_request x ∈ R

-- the number that the report gives for the payment x: 20 exactly when buyer and seller are not both the outsider, 21 exactly when they are
pub record Reported (x : Mark) (number : ℕ) : Type 0 where
  pub agreed : (number ≡ 20) ↔ ¬ BothOutside x
  pub outsider : (number ≡ 21) ↔ BothOutside x

-- a row of a house reply: place, seller and buyer of a payment, and the number that the report gives for it
pub record RowReported (row : List ℕ) : Type 0 where
  pub place : ℕ
  pub payment : Mark
  pub number : ℕ
  pub says : row ≡ place ∷ payment.seller.0 ∷ payment.buyer.0 ∷ number ∷ []
  pub reported : Reported payment number
