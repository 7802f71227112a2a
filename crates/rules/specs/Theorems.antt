-- The theorems as statements, each over the definitions that the promises of the step, the run and the report cite. A reached record is what
-- any list of steps, forgeries and refused steps included, leaves when it is played from an empty one, with any room and with any account
-- answers at each step. Where each is proved is said beside it.
use Rattle.std.specs.Prelude.{ℕ, ◌≤◌, true, ◌≡◌, length, take}
use mathlib.Core.List.{List, Memᴰ, [], ◌++◌}
use Rattle.lawful.specs.Lawful.{buyers, lawful, sellers, within}
use Rattle.record.specs.Table.{Record, lawful_record, messages, most_room, room_of, whole}
use Rattle.messages.specs.Tests.{all}
use Rattle.messages.specs.declared.parts.Place.{Place}
use Rattle.rules.specs.Agreed.{Agreed, BothOutside, HouseReplyAt, Reported, RowReported}
use Rattle.rules.specs.Hosted.{Use, used}
use Rattle.rules.specs.Promised.{Kept}
use Rattle.rules.specs.Reached.{HoldsReached, Reached}
use Rattle.rules.specs.Report.{earlier, payment_at, report}
use Rattle.rules.specs.Run.{Call, judge_call, played, run}
use Rattle.rules.specs.Said.{reply_rows}
use Rattle.rules.specs.Session.{Completed, RoomAtEach, Setting}
use Rattle.rules.specs.Step.{Step, count_after, judge_table, record_after, table_after}

-- A house reply for a payment whose buyer and seller are not both the outsider has, earlier in the record, the Initiate and the Payment made
-- by that buyer and the Invoice and the Auth-Request made by that seller, all for that same payment. (proofs/Agreement)
abbrev pub Agreement : Type 0
Agreement =
    (room : ℕ) (R : Record) → Reached room R → (p : Place) → HouseReplyAt R p → ¬ BothOutside (payment_at R p)
    → Agreed (payment_at R p) (earlier R p)

-- From any record, for any buyer and seller (0 to 15, the outsider too), the five steps of an honest session are accepted, with any lists of
-- other calls between them, if there is room at each of the five; and the reply is reported 20, or 21 for the outsider with himself. The
-- demand asks this of reached records. (proofs/Session)
abbrev pub Sessions : Type 0
Sessions =
    (c : Setting) → within buyers c.buyer.0 ≡ true → within sellers c.seller.0 ≡ true → RoomAtEach c → Completed c

abbrev pub SessionsReached : Type 0
SessionsReached =
    (c : Setting) → Reached c.room c.start → within buyers c.buyer.0 ≡ true → within sellers c.seller.0 ≡ true
    → RoomAtEach c → Completed c

-- On a table that holds a reached record the report on a house reply is 20 exactly when buyer and seller of the payment are not both the
-- outsider, and 21 exactly when they are; and 22 is the report on no place at all. (proofs/Reports)
abbrev pub Reports : Type 0
Reports =
    (n : ℕ) (t : List ℕ) → HoldsReached n t → (p : Place) → HouseReplyAt (messages n t) p
    → Reported (payment_at (messages n t) p) (report n t p)

abbrev pub Never22 : Type 0
Never22 = (n : ℕ) (t : List ℕ) → HoldsReached n t → (p : Place) → ¬ (report n t p ≡ 22)

-- So of every house reply of a reached record the row that is printed ends in 20 or 21, and 21 exactly for the outsider with himself.
-- (proofs/Reports)
abbrev pub RowsReported : Type 0
RowsReported = (room : ℕ) (R : Record) → Reached room R → (row : List ℕ) → Memᴰ row (reply_rows R 0 R) → RowReported row

-- Every message of a reached record is lawful, for room up to 512; so a run never meets refusal 1, and a step on a table that holds a reached
-- record says what the run said. (proofs/LawfulReached)
abbrev pub ReachedLawful : Type 0
ReachedLawful = (room : ℕ) → room ≤ most_room → (R : Record) → Reached room R → all lawful R ≡ true

abbrev pub TableLawful : Type 0
TableLawful = (n : ℕ) (t : List ℕ) → HoldsReached n t → lawful_record n t ≡ true

abbrev pub StepAsRun : Type 0
StepAsRun =
    (n : ℕ) (t : List ℕ) → HoldsReached n t → (c : Call)
    → judge_table c.answers n t c.step ≡ judge_call (room_of t) (messages n t) c

-- A table of whole messages with n = 0, one of length 0 too, holds a reached record. What a step leaves from a table that holds one, accepted
-- or refused, holds one again, and its messages are those that the step leads to; and so does any other table with the same messages.
-- (proofs/Hosted)
abbrev pub EmptyReached : Type 0
EmptyReached = (t : List ℕ) → whole t ≡ true → HoldsReached 0 t

abbrev pub StepReaches : Type 0
StepReaches =
    (n : ℕ) (t : List ℕ) → HoldsReached n t → (c : Call)
    → let o = judge_table c.answers n t c.step in
    (messages (count_after n o) (table_after n t o) ≡ record_after (messages n t) (judge_call (room_of t) (messages n t) c))
    × HoldsReached (count_after n o) (table_after n t o)

abbrev pub CopyReached : Type 0
CopyReached =
    (n : ℕ) (t u : List ℕ) → HoldsReached n t → whole u ≡ true → n ≤ room_of u → messages n u ≡ messages n t → HoldsReached n u

-- So a host that begins with no message has a reached record, whatever single steps it takes and lists it runs. (proofs/Hosted)
abbrev pub HostReaches : Type 0
HostReaches =
    (t : List ℕ) → whole t ≡ true → (us : List Use)
    → let l = used (record { n = 0; table = t }) us in HoldsReached l.n l.table

-- With the same account answers and room, the messages left by a shorter list are the first messages of the record of any list that
-- continues it. (proofs/Reached)
abbrev pub Prefixes : Type 0
Prefixes =
    (answers room : ℕ) (ss ts : List Step)
    → let shorter = played answers room [] ss in take (length shorter) (played answers room [] (ss ++ ts)) ≡ shorter

-- All of this holds of whatever a run that was not refused leaves in the table that it was lent. (proofs/Runs)
abbrev pub RunKeeps : Type 0
RunKeeps =
    (answers : ℕ) (t xs bytes : List ℕ) → (run answers t xs bytes).number ≡ 0 → Kept answers t xs (run answers t xs bytes)

abbrev pub RunPrefixes : Type 0
RunPrefixes =
    (answers : ℕ) (t u xs ys bytes more : List ℕ) → room_of t ≡ room_of u
    → let shorter = run answers t xs bytes in
    let longer = run answers u (xs ++ ys) more in
    shorter.number ≡ 0 → longer.number ≡ 0
    → take shorter.n (messages longer.n longer.table) ≡ messages shorter.n shorter.table
