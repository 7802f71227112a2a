-- What one look through a record finds: which of the four messages of a payment stand in it, as the code's flags, if every message is
-- lawful.
use Rattle.std.specs.Prelude.{ℕ, Bool, ◌||◌, cond, List, Option, None, Some}
use Rattle.messages.specs.Parts.{Message}
use Rattle.messages.specs.Tests.{all}
use Rattle.messages.specs.declared.parts.Mark.{Mark}
use Rattle.lawful.specs.Lawful.{lawful}
use Rattle.record.specs.Table.{Record, messages}
use Rattle.look.specs.declared.look.Seen.{Seen}
use Rattle.look.specs.declared.payment.Wanted.{Wanted}
use Rattle.rules.specs.Report.{its_initiate, its_invoice, its_payment, its_request, stands}

abbrev pub wanted_by : Mark → Wanted
wanted_by x =
    record {
      initiate = its_initiate x;
      invoice = its_invoice x;
      payment = its_payment x;
      request = its_request x;
    }

abbrev pub seen_of : Wanted → Record → Seen
seen_of w R =
    record {
      initiated = stands w.initiate R;
      invoiced = stands w.invoice R;
      paid = stands w.payment R;
      asked = stands w.request R;
    }

abbrev pub seen_in : Mark → Record → Seen
seen_in x R = seen_of (wanted_by x) R

-- in a record that is trusted no message is tested
abbrev pub passed : Bool → Message → Bool
passed trusted m = trusted || lawful m

-- of messages 1 to n, with what stands among the first; nothing, if one of them is not lawful
abbrev pub looked : ℕ → ℕ → List ℕ → Bool → Mark → Option Seen
looked n earlier t trusted x = cond (all (passed trusted) (messages n t)) (Some (seen_in x (messages earlier t))) None
