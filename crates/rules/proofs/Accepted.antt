-- A step is accepted when every gate stands open, and then only: what an accepted step passed, gate by gate, and the message that it adds.
use mathlib.Core.Bool.{Bool, true}
use mathlib.Core.List.{List}
use mathlib.Core.Path.{◌≡◌, ◌∙◌, refl, sym, ap}
use Prim.Native.Nat.{ℕ, ◌<◌}
use native.Mathlib.Omega.{arith}
use borrow.Author.Tests.{lt-ltb, ltb-true}
use lib.ListN.{length}
use Rattle.messages.specs.Parts.{Message}
use Rattle.record.specs.Table.{Record}
use Rattle.messages.specs.Tests.{all}
use Rattle.rules.proofs.Gates.{Open, all_open, passes}
use Rattle.rules.specs.Codes.{Deed, Row, known, row_of}
use Rattle.rules.specs.declared.codes.Argument.{Argument}
use Rattle.rules.specs.Honest.{holds}
use Rattle.rules.specs.Items.{each_argument, holding, in_range, placed}
use Rattle.rules.specs.Step.{Outcome, Step, accepted, added, arguments_of, claims, code_of, gates, judge, judge_row, refused}

-- what an accepted step passed: R is the record, d what the code does, ks what its row calls the arguments xs
pub record Passed (room : ℕ) (R : Record) (d : Deed) (ks : List Argument) (xs : List ℕ) : Type 0 where
  pub ranged : each_argument in_range ks xs ≡ true
  pub places : each_argument (placed (length R)) ks xs ≡ true
  pub held : each_argument (holding R) ks xs ≡ true
  pub claimed : all holds (claims R ks xs d) ≡ true
  pub roomy : length R < room

pub record Accepted (answers room : ℕ) (R : Record) (s : Step) (x : Message) : Type 0 where
  pub coded : known (code_of s) ≡ true
  pub passed : Passed room R (row_of (code_of s)).deed (row_of (code_of s)).takes (arguments_of s)
  pub message : x ≡ added R (row_of (code_of s)).takes (arguments_of s) answers (row_of (code_of s)).deed

module _ (answers room : ℕ) (R : Record) where
  row_passed : (coded : Bool) (y : Row) (xs : List ℕ) (x : Message) → judge_row answers room R coded y xs ≡ accepted x
      → Open (gates room R coded y xs) × (accepted (added R y.takes xs answers y.deed) ≡ accepted x)
  unfolding judge_row
  row_passed coded y xs x e =
      all_open refused (accepted (added R y.takes xs answers y.deed)) (λ (o : Outcome). o ≡ accepted x)
      (λ k l q. let z : ◌≡◌ {A = ℕ} 0 1 = cc in omega arith) (gates room R coded y xs) refl e

  row_passes : (coded : Bool) (y : Row) (xs : List ℕ) → Open (gates room R coded y xs)
      → judge_row answers room R coded y xs ≡ accepted (added R y.takes xs answers y.deed)
  unfolding judge_row
  row_passes coded y xs o = passes refused (accepted (added R y.takes xs answers y.deed)) (gates room R coded y xs) o

  -- no step is refused with 0
  pub never_zero : (s : Step) → judge answers room R s ≡ refused 0 → ⊥
  unfolding judge judge_row
  never_zero s e =
      let y = row_of (code_of s) in
      let xs = arguments_of s in
      let h =
      all_open refused (accepted (added R y.takes xs answers y.deed)) (λ (o : Outcome). o ≡ refused 0)
      (λ k l q. let z : k ≡ 0 = cc in omega (arith, l.0)) (gates room R (known (code_of s)) y xs) refl e in
      let w = h.1 in
      let z : ◌≡◌ {A = ℕ} 0 1 = cc in
      omega arith

  module _ (s : Step) (x : Message) where
    pub is_accepted : judge answers room R s ≡ accepted x → Accepted answers room R s x
    unfolding judge
    is_accepted e =
        let h = row_passed (known (code_of s)) (row_of (code_of s)) (arguments_of s) x e in
        record {
          coded = h.0.0;
          passed =
              record {
                ranged = h.0.1.0;
                places = h.0.1.1.0;
                held = h.0.1.1.1.0;
                claimed = h.0.1.1.1.1.0;
                roomy = ltb-true (length R) room h.0.1.1.1.1.1.0;
              };
          message = cc;
        }

    pub accepts : Accepted answers room R s x → judge answers room R s ≡ accepted x
    unfolding judge
    accepts a =
        let p = a.passed in
        row_passes (known (code_of s)) (row_of (code_of s)) (arguments_of s)
        (a.coded, (p.ranged, (p.places, (p.held, (p.claimed, (lt-ltb (length R) room p.roomy, tt))))))
        ∙ ap accepted (sym a.message)
