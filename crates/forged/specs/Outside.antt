-- What the outsider's message is made from, by the step as its seven numbers: the definitions of document 01's forged steps at the row
-- and the arguments of a step.
use Rattle.std.specs.Prelude.{cond, false, List, MatchOption, Option, true, ◌≡◌, ℕ}
use Rattle.std.specs.Borrow.{Bor}
use Rattle.messages.specs.declared.kind.Kind.{Kind}
use Rattle.messages.specs.Parts.{Message, owner_of}
use Rattle.record.specs.Table.{Record}
use Rattle.messages.specs.declared.parts.Account.{Account}
use Rattle.messages.specs.declared.parts.Buyer.{Buyer}
use Rattle.messages.specs.declared.parts.Drawn.{Drawn}
use Rattle.messages.specs.declared.parts.Slip.{Slip}
use Rattle.messages.specs.declared.signed.BuyerSigned.{BuyerSigned}
use Rattle.rules.specs.Codes.{row_of}
use Rattle.rules.specs.declared.codes.Argument.{Argument}
use Rattle.rules.specs.declared.codes.Item.{Item}
use Rattle.rules.specs.Forged.{account, buyer, buyer_signature, copied, drawn, forged, given, gives, hashed, item_or, mark, seller, slip}
use Rattle.rules.specs.Step.{arguments_of, code_of}
use Rattle.forged.specs.declared.added.Gathered.{Gathered}

abbrev pub taken_by : List ℕ → List Argument
taken_by s = (row_of (code_of s)).takes

unfoldable pub number_in : Argument → List ℕ → ℕ
number_in k s = given k (taken_by s) (arguments_of s)

unfoldable pub account_in : Record → List ℕ → Account
account_in R s = account R (taken_by s) (arguments_of s)

unfoldable pub drawn_given : Record → List ℕ → Drawn
drawn_given R s = drawn R (taken_by s) (arguments_of s)

unfoldable pub buyer_in : Account → List ℕ → Buyer
buyer_in x s = cond (gives Argument.B (taken_by s)) (record { 0 = number_in Argument.B s }) (owner_of x)

unfoldable pub item_in : {A : Type 0} → Item → (Message → A) → A → Record → List ℕ → A
item_in i read built R s = item_or R (taken_by s) (arguments_of s) i read built

-- o is the message that the step gives for an item, or none where it gives none
abbrev pub Offers : Item → Record → List ℕ → Option (Bor (List ℕ)) → Type 0
Offers i R s o =
    MatchOption o (gives (Argument.At i) (taken_by s) ≡ false)
    (λ m. (gives (Argument.At i) (taken_by s) ≡ true) × (m.now ≡ copied R (taken_by s) (arguments_of s) i))

unfoldable pub gathered_in : Record → List ℕ → Gathered
gathered_in R s =
    record {
      seller = seller R (taken_by s) (arguments_of s);
      account = account R (taken_by s) (arguments_of s);
      drawn = drawn R (taken_by s) (arguments_of s);
      buyer = buyer R (taken_by s) (arguments_of s);
      hashed = hashed R (taken_by s) (arguments_of s);
      mark = mark R (taken_by s) (arguments_of s);
    }

unfoldable pub slip_given : Record → List ℕ → Slip
slip_given R s = slip R (taken_by s) (arguments_of s)

unfoldable pub buyer_signature_in : Record → List ℕ → BuyerSigned
buyer_signature_in R s = buyer_signature R (taken_by s) (arguments_of s)

unfoldable pub forged_in : Kind → Record → List ℕ → Message
forged_in k R s = forged R (taken_by s) (arguments_of s) k
