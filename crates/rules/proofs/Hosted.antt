-- Whatever a host leaves in a table by single steps and by runs, from no message on, is a reached record.
use mathlib.Core.Bool.{Bool, true, false, cond}
use mathlib.Core.List.Memᴰ
use mathlib.Core.List.{List, [], ◌++◌, ◌∷◌}
use mathlib.Core.Path.{◌≡◌, ◌∙◌, refl, sym, ap, subst}
use Prim.Native.Nat.{ℕ, ◌+◌, ◌≤◌, ◌<◌}
use native.Mathlib.Numerals.{add-one}
use native.Mathlib.Omega.{arith}
use borrow.Author.Tests.{eqb-true}
use lib.Dec.{eqb}
use lib.ListN.{length, length-append}
use Rattle.record.proofs.Cut.{length_cut, messages_with, with_length}
use Rattle.messages.specs.Layout.{message_width}
use Rattle.messages.specs.Parts.{Message}
use Rattle.record.specs.Table.{Record, messages, room_of, with_message}
use Rattle.rules.proofs.Accepted.{Passed, accepts, is_accepted}
use Rattle.rules.proofs.LawfulReached.{holds_as, step_as_run}
use Rattle.rules.proofs.Reached.{kept_reached, reached_more, reached_none}
use Rattle.rules.proofs.Runs.{run_keeps, run_refused_lem}
use Rattle.rules.proofs.Vouched.{reached_full}
use Rattle.rules.specs.Codes.{row_of}
use Rattle.rules.specs.Hosted.{Lent, Use, empties, runs, steps, used, used_once}
use Rattle.rules.specs.Reached.{HoldsReached, Reached}
use Rattle.rules.specs.Run.{Call, judge_call, run}
use Rattle.rules.specs.Step.{Outcome, accepted, arguments_of, code_of, count_after, record_after, refused, table_after}
use Rattle.rules.specs.Theorems.{CopyReached, EmptyReached, HostReaches, StepReaches}

pub empty_reached : EmptyReached
empty_reached t e = record { measured = e; reached = reached_none (room_of t) }

-- what a call leaves, by its outcome
module _ (n : ℕ) (t : List ℕ) (h : HoldsReached n t) (c : Call) where
  abbrev R : Record
  R = messages n t

  abbrev Leaves : Outcome → Type 0
  Leaves o = (messages (count_after n o) (table_after n t o) ≡ record_after R o) × HoldsReached (count_after n o) (table_after n t o)

  leaves : (o : Outcome) → judge_call (room_of t) R c ≡ o → Leaves o
  leaves (refused k) e = (refl, h)
  leaves (accepted x) e =
      let more = reached_more (room_of t) R c x h.reached e in
      let long : length x ≡ message_width = reached_full (room_of t) (R ++ (x ∷ [])) more x (Memᴰ.append_right R (Memᴰ.head refl)) in
      let roomy : n < room_of t = omega (arith, (is_accepted c.answers (room_of t) R c.step x e).passed.roomy, length_cut message_width n t) in
      let joined : messages (n + 1) (with_message n t x) ≡ R ++ (x ∷ []) =
      ap (λ (k : ℕ). messages k (with_message n t x)) (add-one n) ∙ messages_with n t x (omega arith) long
      in (
        joined,
        holds_as (n + 1) t (with_message n t x) (with_length n t x (omega arith) long) h.measured (subst (Reached (room_of t)) (sym joined) more),
      )

pub step_reaches : StepReaches
step_reaches n t h c =
    let o = judge_call (room_of t) (messages n t) c in
    subst (λ (q : Outcome). (messages (count_after n q) (table_after n t q) ≡ record_after (messages n t) o) × HoldsReached (count_after n q) (table_after n t q))
    (sym (step_as_run n t h c)) (leaves n t h c o refl)

-- what was reached with some room is reached with any other in which it fits: the calls that added its messages are accepted there too
roomier : (room other : ℕ) (R : Record) → Reached room R → length R ≤ other → Reached other R
roomier room other R r =
    kept_reached room (λ (T : Record). length T ≤ other → Reached other T) keep R r (λ z. reached_none other)
  where
    keep : (T : Record) (c : Call) (x : Message) → (length T ≤ other → Reached other T) → judge_call room T c ≡ accepted x
        → length (T ++ (x ∷ [])) ≤ other → Reached other (T ++ (x ∷ []))
    keep T c x p e fits =
        let long = length-append T (x ∷ []) in
        let a = is_accepted c.answers room T c.step x e in
        let q = a.passed in
        let passed : Passed other T (row_of (code_of c.step)).deed (row_of (code_of c.step)).takes (arguments_of c.step) =
        record { ranged = q.ranged; places = q.places; held = q.held; claimed = q.claimed; roomy = omega (arith, long) }
        in
        reached_more other T c x (p (omega (arith, long)))
        (accepts c.answers other T c.step x (record { coded = a.coded; passed = passed; message = a.message }))

pub copy_reached : CopyReached
copy_reached n t u h e fits same_messages =
    record {
      measured = e;
      reached =
          subst (Reached (room_of u)) (sym same_messages)
          (roomier (room_of t) (room_of u) (messages n t) h.reached (omega (arith, length_cut message_width n t)));
    }

-- a run leaves a reached record, or the table as it was
pub run_used : (answers : ℕ) (l : Lent) (xs bytes : List ℕ) → HoldsReached l.n l.table → (b : Bool) → eqb (run answers l.table xs bytes).number 0 ≡ b
    → HoldsReached (cond b (run answers l.table xs bytes).n l.n) (run answers l.table xs bytes).table
run_used answers l xs bytes h true e = (run_keeps answers l.table xs bytes (eqb-true _ _ e)).held
run_used answers l xs bytes h false e = subst (HoldsReached l.n) (sym (run_refused_lem answers l.table xs bytes e)) h

once : (l : Lent) → HoldsReached l.n l.table → (u : Use) → HoldsReached (used_once l u).n (used_once l u).table
once l h (steps c) = (step_reaches l.n l.table h c).1
once l h (runs answers xs bytes) = run_used answers l xs bytes h (eqb (run answers l.table xs bytes).number 0) refl
once l h empties = empty_reached l.table h.measured

used_reaches : (l : Lent) → HoldsReached l.n l.table → (us : List Use) → HoldsReached (used l us).n (used l us).table
unfolding used
used_reaches l h [] = h
used_reaches l h (u ∷ us) = used_reaches (used_once l u) (once l h u) us

pub host_reaches : HostReaches
host_reaches t e us = used_reaches (record { n = 0; table = t }) (empty_reached t e) us
