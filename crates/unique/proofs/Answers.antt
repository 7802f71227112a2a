-- The answers that are enums: numbers and values fix the case.
use Prim.Native.Nat.{ℕ}
use mathlib.Core.Bool.{Bool, true, false, true≢false, false≢true}
use mathlib.Core.List.{List}
use mathlib.Core.Path.{◌≡◌, ◌∙◌, refl, sym, ap}
use native.Mathlib.Omega.{arith}
use Rattle.record.specs.Table.{lawful_record, messages, room_of}
use Rattle.rules.specs.Step.{Outcome, accepted, judge, judge_table, number_of, place_of, refused}
use Rattle.runs.specs.Ran.{is_refused, ran_count, ran_number}
use Rattle.rules.proofs.Accepted.{never_zero}
use Rattle.step.proofs.Outcomes.{lawful_judged, unlawful}
use Rattle.step.specs.Answer.{Answered, answer_number, answer_place}
use Rattle.steptext.specs.Told.{text_answers, text_count, text_line, text_number}
use Rattle.steptext.specs.declared.told.Said.{Said}
use Rattle.steptext.specs.declared.told.TextRefusal.{TextRefusal}
use Rattle.steptext.specs.declared.told.TextRefusal.TheVariants.{TooLong, Unreadable}
use Rattle.std.specs.Prelude.{Err, Ok, Result}
use Rattle.messages.specs.declared.parts.Place.{Place}
use Rattle.refusals.proofs.Numbers.{numbers_apart}
use Rattle.refusals.specs.declared.Refusal.{Refusal}
use Rattle.reports.proofs.Numbers.{reports_apart, verdicts_apart}
use Rattle.step.proofs.Outcomes.{not_fine}
use Rattle.unique.specs.Unique.{FaultUnique, JudgeUnique, PlayUnique, PlayedUnique, ReportOnUnique, ReportUnique, RunUnique, StepUnique, TextUnique}

-- a refused step is told from an accepted one by its place
not_both : (n : ℕ) (o : Outcome) → (o ≡ refused 0 → ⊥) → 0 ≡ number_of o → 0 ≡ place_of n o → ⊥
not_both n (accepted x) h e f = omega arith
not_both n (refused k) h e f = h (ap refused (sym e))

same_answer : (n : ℕ) (o : Outcome) → (o ≡ refused 0 → ⊥) → (r r' : Result Place Refusal) → answer_number r ≡ number_of o
    → answer_place r ≡ place_of n o → answer_number r' ≡ number_of o → answer_place r' ≡ place_of n o → r ≡ r'
same_answer n o h (Ok p) (Ok p') e f e' f' = λ i. Ok (record { 0 = (f ∙ sym f') i })
same_answer n o h (Ok p) (Err k) e f e' f' = absurd (not_both n o h e f')
same_answer n o h (Err k) (Ok p) e f e' f' = absurd (not_both n o h e' f)
same_answer n o h (Err k) (Err k') e f e' f' = ap Err (numbers_apart k k' (e ∙ sym e'))

-- of any outcome that is not refused with 0
module _ (n : ℕ) (t : List ℕ) (o : Outcome) (h : o ≡ refused 0 → ⊥) where
  answered_same : (r r' : Result Place Refusal) (left left' : List ℕ) → Answered n t o r left → Answered n t o r' left' → (r ≡ r') × (left ≡ left')
  answered_same r r' left left' w w' =
      (same_answer n o h r r' w.number w.place w'.number w'.place, w.table ∙ sym w'.table)

never_0 : (answers n : ℕ) (t s : List ℕ) (b : Bool) → lawful_record n t ≡ b → judge_table answers n t s ≡ refused 0 → ⊥
never_0 answers n t s true l e = never_zero answers (room_of t) (messages n t) s (lawful_judged answers n t s l ∙ e)
never_0 answers n t s false l e =
    let z : ◌≡◌ {A = ℕ} 1 0 = ap number_of (sym (unlawful answers n t s l) ∙ e) in
    omega arith

pub step_unique : StepUnique
step_unique answers n t s = answered_same n t (judge_table answers n t s) (never_0 answers n t s (lawful_record n t) refl)

pub judge_unique : JudgeUnique
judge_unique answers n t s = answered_same n t (judge answers (room_of t) (messages n t) s) (never_zero answers (room_of t) (messages n t) s)

same_ran : (r r' : Result ℕ Refusal) → ran_number r ≡ ran_number r' → ran_count r ≡ ran_count r' → is_refused r ≡ is_refused r' → r ≡ r'
same_ran (Ok n) (Ok n') e f g = ap Ok f
same_ran (Ok n) (Err k) e f g = absurd (false≢true g)
same_ran (Err k) (Ok n) e f g = absurd (true≢false g)
same_ran (Err k) (Err k') e f g = ap Err (numbers_apart k k' e)

same_read : (r r' : Result Said TextRefusal) → text_number r ≡ text_number r' → text_answers r ≡ text_answers r' → text_count r ≡ text_count r'
    → text_line r ≡ text_line r' → r ≡ r'
same_read (Ok s) (Ok s') e f g h = λ i. Ok (record { answers = f i; count = g i })
same_read (Ok s) (Err (Unreadable l)) e f g h = absurd (omega arith)
same_read (Ok s) (Err TooLong) e f g h = absurd (omega arith)
same_read (Err (Unreadable l)) (Ok s) e f g h = absurd (omega arith)
same_read (Err (Unreadable l)) (Err (Unreadable l')) e f g h = λ i. Err (Unreadable (h i))
same_read (Err (Unreadable l)) (Err TooLong) e f g h = absurd (omega arith)
same_read (Err TooLong) (Ok s) e f g h = absurd (omega arith)
same_read (Err TooLong) (Err (Unreadable l)) e f g h = absurd (omega arith)
same_read (Err TooLong) (Err TooLong) e f g h = refl

pub report_unique : ReportUnique
report_unique n t p r r' e e' = reports_apart r r' (e ∙ sym e')

pub report_on_unique : ReportOnUnique
report_on_unique R x r r' e e' = verdicts_apart r r' (e ∙ sym e')

pub fault_unique : FaultUnique
fault_unique k (Ok u) (Ok u') e e' = refl
fault_unique k (Ok u) (Err f) e e' = absurd (not_fine f (e' ∙ sym e))
fault_unique k (Err f) (Ok u) e e' = absurd (not_fine f (e ∙ sym e'))
fault_unique k (Err f) (Err f') e e' = ap Err (numbers_apart f f' (e ∙ sym e'))

pub run_unique : RunUnique
run_unique answers t xs bytes r r' table table' verdicts verdicts' w w' = (
  same_ran r r' (w.number ∙ sym w'.number) (w.n ∙ sym w'.n) (w.told_apart ∙ sym w'.told_apart),
  w.table_left
      ∙ sym w'.table_left,
  w.bytes_left ∙ sym w'.bytes_left,
)

pub played_unique : PlayedUnique
played_unique answers t xs bytes n n' table table' verdicts verdicts' w w' =
    (w.counted ∙ sym w'.counted, w.table_left ∙ sym w'.table_left, w.verdicts_left ∙ sym w'.verdicts_left)

pub text_unique : TextUnique
text_unique text t r r' left left' w w' =
    let a = w.tells in
    let b = w'.tells in (
      same_read r r' (a.number ∙ sym b.number) (a.answers ∙ sym b.answers) (a.count ∙ sym b.count) (a.line ∙ sym b.line),
      w.table ∙ sym w'.table,
    )

pub play_unique : PlayUnique
play_unique text t out r r' table table' left left' a b =
    (a.count ∙ sym b.count, a.table_left ∙ sym b.table_left, a.printed ∙ sym b.printed)
