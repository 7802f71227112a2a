-- What the entries return says how many messages there are after a call.
use Prim.Native.Nat.{ℕ}
use mathlib.Core.Bool.{cond}
use mathlib.Core.Path.{◌≡◌, ◌∙◌, ap, ap₂, refl, subst₂, sym}
use borrow.Author.Tests.{ne_eqb}
use lib.Dec.{eqb}
use Rattle.host.specs.Held.{KpRunReaches, KpStepReaches}
use Rattle.record.specs.Table.{messages, room_of}
use Rattle.rules.proofs.Accepted.{never_zero}
use Rattle.rules.proofs.Hosted.{run_used, step_reaches}
use Rattle.rules.proofs.LawfulReached.{step_as_run}
use Rattle.rules.specs.Reached.{HoldsReached}
use Rattle.rules.specs.Run.{run}
use Rattle.rules.specs.Step.{Outcome, accepted, count_after, judge_table, number_of, place_of, refused}

counted : (n r place : ℕ) (o : Outcome) → (o ≡ refused 0 → ⊥) → r ≡ number_of o → place ≡ place_of n o → count_after n o ≡ cond (eqb r 0) place n
counted n r place (accepted x) h e p = sym (ap (λ (k : ℕ). cond (eqb k 0) place n) e ∙ p)
counted n r place (refused k) h e p =
    sym
    (ap (λ (j : ℕ). cond (eqb j 0) place n) e
    ∙ ap (λ b. cond b place n) (ne_eqb k 0 (λ (z : k ≡ 0). h (ap refused z))))

pub kp_step_reaches : KpStepReaches
kp_step_reaches n t h c r place left w =
    let o = judge_table c.answers n t c.step in
    let never : o ≡ refused 0 → ⊥ = λ e. never_zero c.answers (room_of t) (messages n t) c.step (sym (step_as_run n t h c) ∙ e) in
    subst₂ HoldsReached (counted n r place o never w.number w.new_place) (sym w.table_left) (step_reaches n t h c).1

pub kp_run_reaches : KpRunReaches
kp_run_reaches m t h answers xs bytes r n left bytes_left w =
    let o = run answers t xs bytes in
    subst₂ HoldsReached (sym (ap₂ (λ (k j : ℕ). cond (eqb k 0) j m) w.number w.count)) (sym w.table_left)
    (run_used answers (record { n = m; table = t }) xs bytes h (eqb o.number 0) refl)
