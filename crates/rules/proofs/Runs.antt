-- The theorems hold of whatever a run leaves in the table that it was lent: cut into messages, it is the record that the steps lead to.
use mathlib.Core.Bool.{false, true, true≢false}
use mathlib.Core.List.{List, [], ◌∷◌, ◌++◌}
use mathlib.Core.Path.{◌≡◌, ◌∙◌, refl, sym, ap, ap₂, subst}
use Prim.Native.Nat.{ℕ, suc, ◌+◌, ◌/◌, ◌%◌, ◌≤◌}
use borrow.Author.Tests.{eqb-true}
use lib.Dec.{eqb}
use lib.ListN.{get_or-append, drop, get_or, length, length-append, length-drop, take}
use native.Mathlib.Omega.{arith}
use Rattle.messages.proofs.Chain.{left_of}
use Rattle.record.proofs.Cut.{cut_append, length_cut}
use Rattle.record.proofs.Flat.{AllLong, cut_flat, flat_length}
use Rattle.messages.specs.Layout.{flat, message_width}
use Rattle.messages.specs.Parts.{Message}
use Rattle.record.specs.Table.{Record, cut, messages, room_of, whole}
use Rattle.rules.proofs.Gates.{Open, all_open, either_way, passes}
use Rattle.rules.proofs.LawfulReached.{holds_as, reached_room, step_as_run, table_lawful}
use Rattle.rules.proofs.Reached.{called_append, prefixes, reached_played}
use Rattle.rules.proofs.Reports.{never_22, reports}
use Rattle.rules.proofs.Agreement.{agreement}
use Rattle.rules.proofs.Session.{Placed, placed_new, sessions}
use Rattle.rules.proofs.Vouched.{reached_full}
use Rattle.rules.specs.Agreed.{HouseReplyAt, Reported}
use Rattle.rules.specs.Promised.{Kept, session_after}
use Rattle.rules.specs.Reached.{HoldsReached, Reached}
use Rattle.rules.specs.Report.{house_reply, reply_mark, report}
use Rattle.rules.specs.Run.{Call, Ran, called, calls_with, over, played, run, run_gates, run_played, run_refused, step_count, step_width, steps_of, verdicts, whole_steps}
use Rattle.rules.specs.Session.{R2, R3, R4, R5, R6, Setting, place5, session_calls, session_reply, step1, step2, step3, step4, step5}
use Rattle.rules.specs.Step.{Step, judge, number_of, record_after}
use Rattle.rules.specs.Theorems.{RunKeeps, RunPrefixes}

steps_append : (xs ys : List ℕ) → whole_steps xs ≡ true → steps_of (xs ++ ys) ≡ steps_of xs ++ steps_of ys
steps_append xs ys e =
    let even = eqb-true (length xs % step_width) 0 (left_of _ _ e) in
    let counted : step_count (xs ++ ys) ≡ step_count xs + step_count ys = omega (arith, length-append xs ys) in
    ap (λ (k : ℕ). cut step_width k (xs ++ ys)) counted ∙ cut_append step_width (step_count xs) (step_count ys) xs ys (omega arith)

-- the verdict of a step is its number against what the steps before it left
module _ (answers room : ℕ) where
  pub verdicts_length : (R : Record) (ss : List Step) → length (verdicts answers room R ss) ≡ length ss
  unfolding verdicts
  verdicts_length R [] = refl
  verdicts_length R (s ∷ ss) = ap suc (verdicts_length (record_after R (judge answers room R s)) ss)

  verdict_at : (R : Record) (ss : List Step) (s : Step) (ts : List Step)
      → get_or (verdicts answers room R (ss ++ (s ∷ ts))) (length ss) 0 ≡ number_of (judge answers room (played answers room R ss) s)
  unfolding verdicts played called
  verdict_at R [] s ts = refl
  verdict_at R (r ∷ ss) s ts = verdict_at (record_after R (judge answers room R r)) ss s ts

-- a session played as one list
session_played : (c : Setting) (after5 : List Call) → called c.room c.start (session_calls c after5) ≡ R6 c after5
session_played c after5 =
    let joined = called_append c.room in
    let l5 = step5 c ∷ after5 in
    let l4 = step4 c ∷ (c.after4 ++ l5) in
    let l3 = step3 c ∷ (c.after3 ++ l4) in
    let l2 = step2 c ∷ (c.after2 ++ l3) in
    joined c.start (step1 c ∷ c.after1) l2
    ∙ joined (R2 c) (step2 c ∷ c.after2) l3
    ∙ joined (R3 c) (step3 c ∷ c.after3) l4
    ∙ joined (R4 c) (step4 c ∷ c.after4) l5

module _ (answers : ℕ) (t xs bytes : List ℕ) where
  abbrev R : Record
  R = played answers (room_of t) [] (steps_of xs)

  abbrev done : Ran
  done = run_played answers t xs bytes

  -- a run that returns 0 has passed its three gates
  ran_through : (run answers t xs bytes).number ≡ 0 → Open (run_gates answers t xs bytes)
  unfolding run
  ran_through z =
      (all_open (run_refused answers t xs bytes) done (λ (r : Ran). r.number ≡ 0) (λ k l q. omega arith) (run_gates answers t xs bytes) refl z).0

  ran_done : (run answers t xs bytes).number ≡ 0 → run answers t xs bytes ≡ done
  unfolding run
  ran_done z = passes (run_refused answers t xs bytes) done (run_gates answers t xs bytes) (ran_through z)

  reached : Reached (room_of t) R
  reached = reached_played answers (room_of t) (steps_of xs)

  full : AllLong message_width R
  full = reached_full (room_of t) R reached

  flat_room : length (flat R) ≤ length t
  flat_room = omega (arith, flat_length message_width R full, reached_room (room_of t) R reached)

  pub left_is : messages (length R) (over (flat R) t) ≡ R
  left_is = cut_flat message_width R (drop (length (flat R)) t) full

  same_length : length (over (flat R) t) ≡ length t
  same_length = length-append (flat R) (drop (length (flat R)) t) ∙ omega (arith, flat_room, length-drop (length (flat R)) t)

  holds_reached : whole t ≡ true → HoldsReached (length R) (over (flat R) t)
  holds_reached e = holds_as (length R) t (over (flat R) t) same_length e (subst (Reached (room_of t)) (sym left_is) reached)

  done_verdict : (ss : List Step) (s : Step) (ts : List Step) → steps_of xs ≡ ss ++ (s ∷ ts)
      → get_or done.verdict_bytes (length ss) 0 ≡ number_of (judge answers (room_of t) (played answers (room_of t) [] ss) s)
  done_verdict ss s ts e =
      let vs = verdicts answers (room_of t) [] (steps_of xs) in
      get_or-append vs (drop (length vs) bytes) 0 (length ss)
      (omega (arith, verdicts_length answers (room_of t) [] (steps_of xs), ap length e, length-append ss (s ∷ ts)))
      ∙ ap (λ (zs : List Step). get_or (verdicts answers (room_of t) [] zs) (length ss) 0) e
      ∙ verdict_at answers (room_of t) [] ss s ts

  as_called : {cs : List Call} → calls_with answers (steps_of xs) ≡ cs → R ≡ called (room_of t) [] cs
  unfolding played
  as_called q = ap (called (room_of t) []) q

  done_kept : whole t ≡ true → Kept answers t xs done
  done_kept e =
      let h = holds_reached e in
      let n = length R in
      let after = over (flat R) t in
      record {
        messages_left = left_is;
        verdict = done_verdict;
        held = h;
        lawful_left = table_lawful n after h;
        judged = λ s. step_as_run n after h (record { answers = answers; step = s }) ∙ ap (λ (k : ℕ). judge answers (k / message_width) (messages n after) s) same_length;
        agreed = agreement (room_of after) (messages n after) h.reached;
        reported = reports n after h;
        never_22 = never_22 n after h;
        sessions =
            λ l0 l1 l2 l3 l4 l5 B S b✓ s✓ q roomy.
            let c = session_after answers t xs done l0 B S l1 l2 l3 l4 in
            let all_five = sessions c b✓ s✓ roomy in
            let p = place5 c in
            let left_so : messages n after ≡ R6 c l5 =
            left_is
            ∙ as_called q
            ∙ called_append (room_of t) [] l0 (session_calls c l5)
            ∙ session_played c l5
            in
            let placed_so : Placed (messages n after) p (session_reply c) =
            subst (λ (T : Record). Placed T p (session_reply c)) (sym left_so)
            (placed_new (room_of t) (R5 c) (step5 c) (session_reply c) l5 all_five.replies)
            in
            let at_p : HouseReplyAt (messages n after) p =
            record { inside = placed_so.inside; reply = ap house_reply placed_so.message }
            in (
              all_five,
              subst (λ (w : Message). Reported (reply_mark w) (report n after p)) placed_so.message (reports n after h p at_p),
            );
      }

-- a run that does not return 0 leaves the table as it was
pub run_refused_lem : (answers : ℕ) (t xs bytes : List ℕ) → eqb (run answers t xs bytes).number 0 ≡ false → (run answers t xs bytes).table ≡ t
unfolding run
run_refused_lem answers t xs bytes =
    either_way (run_refused answers t xs bytes) (run_played answers t xs bytes) (λ (r : Ran). eqb r.number 0 ≡ false → r.table ≡ t)
    (λ k e. refl) (λ e. absurd (true≢false e)) (run_gates answers t xs bytes)

-- whatever a run leaves, when it returns 0
pub run_keeps : RunKeeps
run_keeps answers t xs bytes z =
    subst (Kept answers t xs) (sym (ran_done answers t xs bytes z)) (done_kept answers t xs bytes (ran_through answers t xs bytes z).0)

-- with the same account answers and room, the messages left by a shorter list are the first messages of what a list that continues it leaves
pub run_prefixes : RunPrefixes
run_prefixes answers t u xs ys bytes more same_room y z =
    let shorter = run answers t xs bytes in
    let left_by = played answers (room_of t) [] in
    let short = (run_keeps answers t xs bytes y).messages_left in
    let long = (run_keeps answers u (xs ++ ys) more z).messages_left in
    let counted : shorter.n ≡ length (left_by (steps_of xs)) =
    sym (length_cut message_width shorter.n shorter.table) ∙ ap length short
    in
    ap₂ take counted
    (long
    ∙ ap (λ (room : ℕ). played answers room [] (steps_of (xs ++ ys))) (sym same_room)
    ∙ ap left_by (steps_append xs ys (ran_through answers t xs bytes y).1.0))
    ∙ prefixes answers (room_of t) (steps_of xs) (steps_of ys)
    ∙ sym short
