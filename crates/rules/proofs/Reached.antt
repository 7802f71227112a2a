-- Reached records: what every step keeps holds of them; the messages that a shorter list leaves are the first ones of a longer list's;
-- and each message was added by a step to the messages earlier than it, which are a reached record too.
use mathlib.Core.Bool.{Bool, true, false}
use mathlib.Core.List.{List, [], ◌∷◌, ◌++◌, append_assoc, append-nil}
use mathlib.Core.Path.{◌≡◌, ◌∙◌, refl, sym, ap, subst, subst₂}
use Prim.Native.Nat.{ℕ, ◌<◌}
use native.Mathlib.Nat.{not-suc-le-zero}
use native.Mathlib.Omega.{arith}
use borrow.Author.Tests.{ltb-false, ltb-true}
use lib.Dec.{ltb}
use lib.ListN.{get_or-append, get_or, length, length-append, take}
use lib.Seq.{get_or-append_seam, take-append-le, take-append_seam}
use Rattle.messages.specs.Parts.{Message}
use Rattle.record.specs.Table.{Record}
use Rattle.rules.specs.Reached.{Reached}
use Rattle.rules.specs.Run.{Call, called, calls_with, judge_call, played}
use Rattle.rules.specs.Step.{Outcome, Step, accepted, record_after, refused}
use Rattle.rules.specs.Theorems.{Prefixes}

module _ (room : ℕ) where
  -- what an accepted step keeps, a list of calls keeps
  module _ (P : Record → Type 0) (keep : (R : Record) (c : Call) (x : Message) → P R → judge_call room R c ≡ accepted x → P (R ++ (x ∷ []))) where
    kept_after : (R : Record) (c : Call) → P R → (o : Outcome) → judge_call room R c ≡ o → P (record_after R o)
    kept_after R c p (accepted x) e = keep R c x p e
    kept_after R c p (refused k) e = p

    kept : (cs : List Call) (R : Record) → P R → P (called room R cs)
    unfolding called
    kept [] R p = p
    kept (c ∷ cs) R p = kept cs (record_after R (judge_call room R c)) (kept_after R c p (judge_call room R c) refl)

    pub kept_reached : (R : Record) → Reached room R → P [] → P R
    kept_reached R r p = subst P (sym r.left) (kept r.calls [] p)

  -- a list that is played in two parts
  pub called_append : (R : Record) (cs ds : List Call) → called room R (cs ++ ds) ≡ called room (called room R cs) ds
  unfolding called
  called_append R [] ds = refl
  called_append R (c ∷ cs) ds = called_append (record_after R (judge_call room R c)) cs ds

  -- records only grow
  grown_after : (R : Record) (o : Outcome) → (rest : Record) × (record_after R o ≡ R ++ rest)
  grown_after R (accepted x) = (x ∷ [], refl)
  grown_after R (refused k) = ([], sym (append-nil R))

  pub grown : (R : Record) (cs : List Call) → (rest : Record) × (called room R cs ≡ R ++ rest)
  unfolding called
  grown R [] = ([], sym (append-nil R))
  grown R (c ∷ cs) =
      let here = grown_after R (judge_call room R c) in
      let more = grown (record_after R (judge_call room R c)) cs in
      (here.0 ++ more.0, more.1 ∙ ap (◌++ more.0) here.1 ∙ append_assoc R here.0 more.0)

  -- how a message came into a record: added by a call to a reached record
  pub record Entered (earlier : Record) (x : Message) : Type 0 where
    pub call : Call
    pub reached : Reached room earlier
    pub entered : judge_call room earlier call ≡ accepted x

  abbrev History : Record → Type 0
  History R = (i : ℕ) → i < length R → Entered (take i R) (get_or R i [])

  pub reached_none : Reached room []
  unfolding called
  reached_none = record { calls = []; left = refl }

  -- whatever one more call leaves
  pub reached_after : (R : Record) (c : Call) → Reached room R → Reached room (record_after R (judge_call room R c))
  unfolding called
  reached_after R c r =
      record {
        calls = r.calls ++ (c ∷ []);
        left = ap (λ (T : Record). called room T (c ∷ [])) r.left ∙ sym (called_append [] r.calls (c ∷ []));
      }

  pub reached_more : (R : Record) (c : Call) (x : Message) → Reached room R → judge_call room R c ≡ accepted x → Reached room (R ++ (x ∷ []))
  reached_more R c x r e = subst (λ (o : Outcome). Reached room (record_after R o)) e (reached_after R c r)

  history_more : (R : Record) (x : Message) → History R → Entered R x → History (R ++ (x ∷ []))
  history_more R x h n i l = go (ltb i (length R)) refl
    where
      go : (b : Bool) → ltb i (length R) ≡ b → Entered (take i (R ++ (x ∷ []))) (get_or (R ++ (x ∷ [])) i [])
      go true e =
          let below = ltb-true i (length R) e in
          subst₂ Entered (sym (take-append-le i R (x ∷ []) (omega arith))) (sym (get_or-append R (x ∷ []) [] i below)) (h i below)
      go false e =
          let at-end : length R ≡ i = omega (arith, ltb-false i (length R) e, length-append R (x ∷ [])) in
          subst (λ (j : ℕ). Entered (take j (R ++ (x ∷ []))) (get_or (R ++ (x ∷ [])) j [])) at-end
          (subst₂ Entered (sym (take-append_seam R (x ∷ []))) (sym (get_or-append_seam R x [] [])) n)

  pub history : (R : Record) → Reached room R → History R
  history R r = (kept_reached (λ (T : Record). Reached room T × History T) keep R r (reached_none, λ i h. absurd (not-suc-le-zero h))).1
    where
      keep : (T : Record) (c : Call) (x : Message) → Reached room T × History T → judge_call room T c ≡ accepted x
          → Reached room (T ++ (x ∷ [])) × History (T ++ (x ∷ []))
      keep T c x p e = (reached_more T c x p.0 e, history_more T x p.1 (record { call = c; reached = p.0; entered = e }))

-- a list of steps that is played in two parts, all with the same account answers
calls_append : (answers : ℕ) (ss ts : List Step) → calls_with answers (ss ++ ts) ≡ calls_with answers ss ++ calls_with answers ts
calls_append answers [] ts = refl
calls_append answers (s ∷ ss) ts = ap (λ (cs : List Call). record { answers = answers; step = s } ∷ cs) (calls_append answers ss ts)

pub played_append : (answers room : ℕ) (R : Record) (ss ts : List Step)
    → played answers room R (ss ++ ts) ≡ played answers room (played answers room R ss) ts
unfolding played
played_append answers room R ss ts =
    ap (called room R) (calls_append answers ss ts) ∙ called_append room R (calls_with answers ss) (calls_with answers ts)

-- what steps with the same account answers leave is reached
pub reached_played : (answers room : ℕ) (ss : List Step) → Reached room (played answers room [] ss)
unfolding played
reached_played answers room ss = record { calls = calls_with answers ss; left = refl }

-- the messages left by a shorter list are the first messages of the record of any list that continues it
pub prefixes : Prefixes
unfolding played
prefixes answers room ss ts =
    let R : Record = played answers room [] ss in
    let more = grown room R (calls_with answers ts) in
    ap (take (length R)) (played_append answers room [] ss ts ∙ more.1) ∙ take-append_seam R more.0
