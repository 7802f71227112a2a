-- What the promise of a run gives about the table and the verdict bytes that it leaves: so the theorems are about the program's record, and
-- nobody has to trust that the theorems' machine is the program's.
use Rattle.std.specs.Prelude.{ℕ, true, List, [], ◌∷◌, ◌++◌, ◌≡◌, get_or, length}
use Rattle.lawful.specs.Lawful.{buyers, sellers, within}
use Rattle.record.specs.Table.{Record, lawful_record, messages, room_of}
use Rattle.messages.specs.declared.parts.Buyer.{Buyer}
use Rattle.messages.specs.declared.parts.Place.{Place}
use Rattle.messages.specs.declared.parts.Seller.{Seller}
use Rattle.rules.specs.Agreed.{Agreed, BothOutside, HouseReplyAt, Reported}
use Rattle.rules.specs.Reached.{HoldsReached}
use Rattle.rules.specs.Report.{earlier, payment_at, report}
use Rattle.rules.specs.Run.{Call, Ran, called, calls_with, played, steps_of}
use Rattle.rules.specs.Session.{Completed, RoomAtEach, Setting, place5, session_calls, session_mark}
use Rattle.rules.specs.Step.{Step, judge, judge_table, number_of}

-- of a run with these answers over the table t and the numbers xs of its steps, and of what it returned and left
module _ (answers : ℕ) (t xs : List ℕ) (ran : Ran) where
  -- the messages left
  abbrev pub left : Record
  left = messages ran.n ran.table

  -- the record when a part ss of the steps has been played
  abbrev pub left_by : List Step → Record
  left_by ss = played answers (room_of t) [] ss

  -- a session after the steps l0, with other steps between its own
  abbrev pub session_after : List Call → Buyer → Seller → List Call → List Call → List Call → List Call → Setting
  session_after l0 B S l1 l2 l3 l4 =
      record {
        answers = λ code. answers;
        room = room_of t;
        buyer = B;
        seller = S;
        start = called (room_of t) [] l0;
        after1 = l1;
        after2 = l2;
        after3 = l3;
        after4 = l4;
      }

  pub record Kept : Type 0 where
    -- they are the record that the steps lead to; and the verdict byte of each step is its number against what the steps before it left
    pub messages_left : left ≡ left_by (steps_of xs)
    pub verdict : (ss : List Step) (s : Step) (ts : List Step) → steps_of xs ≡ ss ++ (s ∷ ts)
        → get_or ran.verdict_bytes (length ss) 0 ≡ number_of (judge answers (room_of t) (left_by ss) s)
    -- so the table holds a reached record, and what is said below can be said again of whatever steps and runs leave from it
    pub held : HoldsReached ran.n ran.table
    -- every message is lawful, so a step on the table is judged as the run would judge it
    pub lawful_left : lawful_record ran.n ran.table ≡ true
    pub judged : (s : Step) → judge_table answers ran.n ran.table s ≡ judge answers (room_of t) left s
    -- agreement at each house reply whose buyer and seller are not both the outsider
    pub agreed : (p : Place) → HouseReplyAt left p → ¬ BothOutside (payment_at left p) → Agreed (payment_at left p) (earlier left p)
    -- the report there is 20, or 21 for the outsider with himself; and at no place is it 22
    pub reported : (p : Place) → HouseReplyAt left p → Reported (payment_at left p) (report ran.n ran.table p)
    pub never_22 : (p : Place) → ¬ (report ran.n ran.table p ≡ 22)
    -- where the steps hold a session of any buyer and seller, with any steps before, between and after its own, and there was room at each
    -- of the five: they were accepted, and the reply is reported
    pub sessions : (l0 l1 l2 l3 l4 l5 : List Call) (B : Buyer) (S : Seller) → within buyers B.0 ≡ true → within sellers S.0 ≡ true
        → let c = session_after l0 B S l1 l2 l3 l4 in
        calls_with answers (steps_of xs) ≡ l0 ++ session_calls c l5 → RoomAtEach c
        → Completed c × Reported (session_mark c) (report ran.n ran.table (place5 c))
