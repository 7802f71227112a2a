-- An honest session: steps 1 to 5 for one buyer and one seller, each naming the messages that the session's earlier steps added, with any
-- lists of other calls between them; and what is proved of it. Each step has the account answers of its moment; only the fifth reads them.
use Rattle.std.specs.Prelude.{ℕ, ◌<◌, List, [], ◌∷◌, ◌++◌, ◌≡◌, length}
use Rattle.messages.specs.Layout.{filled}
use Rattle.messages.specs.Parts.{Message, account_of}
use Rattle.record.specs.Table.{Record, message_at}
use Rattle.messages.specs.declared.parts.Buyer.{Buyer}
use Rattle.messages.specs.declared.parts.Mark.{Mark}
use Rattle.messages.specs.declared.parts.Place.{Place}
use Rattle.messages.specs.declared.parts.Seller.{Seller}
use Rattle.rules.specs.Agreed.{Reported}
use Rattle.rules.specs.Honest.{code_for, house, reply_by}
use Rattle.rules.specs.Report.{its_initiate, its_invoice, its_payment, its_request, report_at}
use Rattle.rules.specs.Run.{Call, called, judge_call, step_width}
use Rattle.rules.specs.Step.{Outcome, Step, accepted, new_place}

-- a code and its arguments; unused ones are 0
abbrev pub step_of : ℕ → List ℕ → Step
step_of code xs = filled step_width 0 (code ∷ xs)

-- the account answers at each of the five by its code, the parties, the record from which they start, and the other calls after each of their
-- first four
pub record Setting : Type 0 where
  pub answers : ℕ → ℕ
  pub room : ℕ
  pub buyer : Buyer
  pub seller : Seller
  pub start : Record
  pub after1 : List Call
  pub after2 : List Call
  pub after3 : List Call
  pub after4 : List Call

module _ (c : Setting) where
  abbrev on : Record → List Call → Record
  on = called c.room

  abbrev own_step : ℕ → List ℕ → Call
  own_step code xs = record { answers = c.answers code; step = step_of code xs }

  -- Step 1 meets the record `start`, step k the record Rk; the message that it adds has the session's place k, by which later steps name it.
  -- 1: buyer, seller
  abbrev pub place1 : Place
  place1 = new_place c.start

  abbrev pub step1 : Call
  step1 = own_step 1 (c.buyer.0 ∷ c.seller.0 ∷ [])

  -- 2: seller, the Initiate of step 1
  abbrev pub R2 : Record
  R2 = on c.start (step1 ∷ c.after1)

  abbrev pub place2 : Place
  place2 = new_place R2

  abbrev pub step2 : Call
  step2 = own_step 2 (c.seller.0 ∷ place1.0 ∷ [])

  -- 3: buyer, the Initiate of step 1, the Invoice of step 2
  abbrev pub R3 : Record
  R3 = on R2 (step2 ∷ c.after2)

  abbrev pub place3 : Place
  place3 = new_place R3

  abbrev pub step3 : Call
  step3 = own_step 3 (c.buyer.0 ∷ place1.0 ∷ place2.0 ∷ [])

  -- 4: seller, the Invoice of step 2, the Payment of step 3
  abbrev pub R4 : Record
  R4 = on R3 (step3 ∷ c.after3)

  abbrev pub place4 : Place
  place4 = new_place R4

  abbrev pub step4 : Call
  step4 = own_step 4 (c.seller.0 ∷ place2.0 ∷ place3.0 ∷ [])

  -- 5: the Auth-Request of step 4
  abbrev pub R5 : Record
  R5 = on R4 (step4 ∷ c.after4)

  abbrev pub place5 : Place
  place5 = new_place R5

  abbrev pub step5 : Call
  step5 = own_step 5 (place4.0 ∷ [])

  -- the record when other calls come after the fifth
  abbrev pub R6 : List Call → Record
  R6 after5 = on R5 (step5 ∷ after5)

  -- the session and the calls between and after its own, as one list
  abbrev pub session_calls : List Call → List Call
  session_calls after5 =
      step1
      ∷ (c.after1 ++ (step2 ∷ (c.after2 ++ (step3 ∷ (c.after3 ++ (step4 ∷ (c.after4 ++ (step5 ∷ after5))))))))

  -- there is room at each of the five
  pub record RoomAtEach : Type 0 where
    pub at1 : length c.start < c.room
    pub at2 : length R2 < c.room
    pub at3 : length R3 < c.room
    pub at4 : length R4 < c.room
    pub at5 : length R5 < c.room

  -- the mark of the payment, and the reply to it
  abbrev pub session_mark : Mark
  session_mark =
      record {
        seller = c.seller;
        buyer = c.buyer;
        hashed = record { drawn = record { drawer = c.buyer; draw = place1.0 }; account = account_of c.buyer };
      }

  abbrev pub session_reply : Message
  session_reply = reply_by house c.seller (code_for (c.answers 5) (account_of c.buyer)) session_mark

  abbrev judged : Record → Call → Outcome
  judged = judge_call c.room

  -- each of the five is accepted and adds the session's message; and whatever is played afterwards, the reply stands where the fifth
  -- added it, and the report on it is 20, or 21 for the outsider with himself
  pub record Completed : Type 0 where
    pub starts : judged c.start step1 ≡ accepted (its_initiate session_mark)
    pub invoices : judged R2 step2 ≡ accepted (its_invoice session_mark)
    pub pays : judged R3 step3 ≡ accepted (its_payment session_mark)
    pub asks : judged R4 step4 ≡ accepted (its_request session_mark)
    pub replies : judged R5 step5 ≡ accepted session_reply
    pub reply : (after5 : List Call) → message_at (R6 after5) place5 ≡ session_reply
    pub reported : (after5 : List Call) → Reported session_mark (report_at (R6 after5) place5)
