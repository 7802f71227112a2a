-- What the code of a step found, put together to the step's outcome, gate by gate.
use mathlib.Core.Bool.{Bool, true, false, cond}
use mathlib.Core.List.{List}
use mathlib.Core.Path.{◌≡◌, ◌∙◌, refl, sym, ap, subst}
use Prim.Native.Nat.{ℕ, ◌*◌, ◌≤◌, zero-le}
use native.Mathlib.Omega.{arith}
use lib.Dec.{ltb}
use lib.ListN.{length}
use Rattle.record.proofs.Cut.{length_cut}
use Rattle.messages.specs.Layout.{message_width}
use Rattle.messages.specs.Parts.{Message}
use Rattle.record.specs.Table.{lawful_record, messages, room_of}
use Rattle.rules.specs.Codes.{known, row_of}
use Rattle.rules.specs.Items.{each_argument, holding, in_range, placed}
use Rattle.rules.specs.Step.{Outcome, accepted, arguments_of, code_of, judge, judge_row, judge_table, refused}
use Rattle.faults.proofs.Lowest.{three}
use Rattle.messages.proofs.Picks.{no, yes}
use Rattle.step.specs.Answer.{Answered}
use Rattle.step.specs.Decided.{decided}
use Rattle.deeds.specs.Coded.{added_in, allowed_in}
use Rattle.faults.specs.Faults.{faults, fine}
use Rattle.arguments.specs.Ready.{Known, Ready}
use Rattle.std.specs.Prelude.{Err}
use Rattle.refusals.specs.Numbers.{refusal_number}
use Rattle.refusals.specs.declared.Refusal.{Refusal}
use Rattle.rules.specs.declared.codes.Argument.{Argument}

-- the answer by the outcome
pub refuses : (n : ℕ) (t : List ℕ) {o : Outcome} (e : Refusal) → o ≡ refused (refusal_number e) → Answered n t o (Err e) t
refuses n t {o} e p =
    subst (λ (x : Outcome). Answered n t x (Err e) t) (sym p) (record { number = refl; place = refl; table = refl; small = zero-le })

-- no refusal has the number that stands for none
pub not_fine : (e : Refusal) → refusal_number e ≡ fine → ⊥
not_fine Refusal.Record p = absurd (omega arith)
not_fine Refusal.Code p = absurd (omega arith)
not_fine Refusal.Argument p = absurd (omega arith)
not_fine Refusal.Place p = absurd (omega arith)
not_fine Refusal.Item p = absurd (omega arith)
not_fine Refusal.Condition p = absurd (omega arith)
not_fine Refusal.Room p = absurd (omega arith)
not_fine Refusal.Steps p = absurd (omega arith)
not_fine Refusal.Verdicts p = absurd (omega arith)

-- three gates: a number is given by the first that is shut, and `fine` only where all stand open
shut : (a b c : Bool) (o : Outcome) → (three a b c ≡ fine → ⊥)
    → cond a (cond b (cond c o (refused 5)) (refused 4)) (refused 3) ≡ refused (three a b c)
unfolding three
shut false b c o h = refl
shut true false c o h = refl
shut true true false o h = refl
shut true true true o h = absurd (h refl)

all_open : (a b c : Bool) → three a b c ≡ fine → (a ≡ true) × (b ≡ true) × (c ≡ true)
unfolding three
all_open false b c e = absurd (omega arith)
all_open true false c e = absurd (omega arith)
all_open true true false e = absurd (omega arith)
all_open true true true e = (refl, refl, refl)

module _ (answers n : ℕ) (t s : List ℕ) where
  ranged : Bool
  ranged = each_argument in_range (row_of (code_of s)).takes (arguments_of s)

  placed_in : ℕ → Bool
  placed_in k = each_argument (placed k) (row_of (code_of s)).takes (arguments_of s)

  held : Bool
  held = each_argument (holding (messages n t)) (row_of (code_of s)).takes (arguments_of s)

  outcome : Outcome
  outcome = judge answers (room_of t) (messages n t) s

  unfolded : outcome ≡ cond (known (code_of s)) (cond ranged (cond (placed_in n) (cond held (decided answers n t s) (refused 5)) (refused 4)) (refused 3)) (refused 2)
  unfolding outcome judge judge_row ranged placed_in held decided
  unfolded =
      ap
      (λ (k : ℕ). cond (known (code_of s))
      (cond ranged
      (cond (placed_in k)
      (cond held
      (cond (allowed_in n t s) (cond (ltb k (room_of t)) (accepted (added_in answers n t s)) (refused 7)) (refused 6))
      (refused 5))
      (refused 4))
      (refused 3))
      (refused 2))
      (length_cut message_width n t)

  pub unknown : known (code_of s) ≡ false → judge answers (room_of t) (messages n t) s ≡ refused 2
  unfolding outcome
  unknown e = unfolded ∙ sym (no _ e refl)

  module _ (k : known (code_of s) ≡ true) where
    pub faulty : (f : ℕ) → f ≡ faults n (messages n t) (row_of (code_of s)).takes (arguments_of s) → (f ≡ fine → ⊥)
        → judge answers (room_of t) (messages n t) s ≡ refused f
    unfolding outcome ranged placed_in held three
    faulty f e h =
        unfolded ∙ sym (yes _ k refl)
        ∙ shut ranged (placed_in n) held (decided answers n t s) (λ (z : three ranged (placed_in n) held ≡ fine). h (e ∙ z))
        ∙ ap refused (sym e)

    module _ (passed : fine ≡ faults n (messages n t) (row_of (code_of s)).takes (arguments_of s)) where
      opened : (ranged ≡ true) × (placed_in n ≡ true) × (held ≡ true)
      unfolding ranged placed_in held three
      opened = all_open ranged (placed_in n) held (sym passed)

      pub ready : {row : List Argument} → Known row s → n * message_width ≤ length t → Ready n t row s
      unfolding placed_in
      ready w h = record { known = w; room = h; places = opened.1 }

      pub past_arguments : judge answers (room_of t) (messages n t) s ≡ decided answers n t s
      unfolding outcome
      past_arguments =
          unfolded ∙ sym (yes _ k refl) ∙ sym (yes _ opened.0 refl) ∙ sym (yes _ opened.1 refl) ∙ sym (yes _ opened.2 refl)

  -- what is left when the arguments are good
  pub not_allowed : allowed_in n t s ≡ false → decided answers n t s ≡ refused 6
  unfolding decided
  not_allowed e = sym (no _ e refl)

  module _ (allowed : allowed_in n t s ≡ true) where
    pub full : ltb n (room_of t) ≡ false → decided answers n t s ≡ refused 7
    unfolding decided
    full h = sym (yes _ allowed refl) ∙ sym (no _ h refl)

    pub taken : {m : Message} → ltb n (room_of t) ≡ true → m ≡ added_in answers n t s → decided answers n t s ≡ accepted m
    unfolding decided
    taken h e = sym (yes _ allowed refl) ∙ sym (yes _ h refl) ∙ ap accepted (sym e)

-- with refusal 1 in front
pub unlawful : (answers n : ℕ) (t s : List ℕ) → lawful_record n t ≡ false → judge_table answers n t s ≡ refused 1
unfolding judge_table
unlawful answers n t s e = sym (no _ e refl)

pub lawful_judged : (answers n : ℕ) (t s : List ℕ) → lawful_record n t ≡ true → judge answers (room_of t) (messages n t) s ≡ judge_table answers n t s
unfolding judge_table
lawful_judged answers n t s e = yes _ e refl
