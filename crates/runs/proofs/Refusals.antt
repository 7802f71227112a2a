-- The refusals of a run, in their order, and a run that is not refused.
use mathlib.Core.Bool.{true, false, not}
use mathlib.Core.List.{List}
use mathlib.Core.Path.{◌≡◌, refl, sym, subst}
use Prim.Native.Nat.{ℕ, zero-le}
use native.Mathlib.Omega.{arith}
use lib.Dec.{eqb, leb}
use lib.ListN.{length}
use Rattle.record.specs.Table.{whole}
use Rattle.rules.specs.Run.{Ran as RanOf, run, step_count, whole_steps}
use Rattle.runs.specs.Ran.{Leaves, Plays}
use Rattle.refusals.specs.Numbers.{refusal_number}
use Rattle.refusals.specs.declared.Refusal.{Refusal}
use Rattle.refusals.specs.declared.Refusal.TheVariants.{Record, Steps, Verdicts}
use Rattle.std.proofs.Common.{Err, Ok}
use Rattle.record.proofs.Whole.{most}
use Rattle.messages.proofs.Picks.{no, yes}

module _ (answers : ℕ) (t xs bytes : List ℕ) where
  nothing : ℕ → RanOf
  nothing k = record { number = k; n = 0; table = t; verdict_bytes = bytes }

  refuses : (r : Refusal) → true ≡ not (eqb (refusal_number r) 0) → run answers t xs bytes ≡ nothing (refusal_number r)
      → Leaves (run answers t xs bytes) (Err r) t bytes
  unfolding nothing
  refuses r h e =
      subst (λ (o : RanOf). Leaves o (Err r) t bytes) (sym e)
      (record { number = refl; n = refl; told_apart = h; table_left = refl; bytes_left = refl; small = zero-le })

  pub not_whole : whole t ≡ false → Leaves (run answers t xs bytes) (Err Record) t bytes
  unfolding run nothing
  not_whole e = refuses Record refl (sym (no _ e refl))

  module _ (a : whole t ≡ true) where
    pub no_steps : whole_steps xs ≡ false → Leaves (run answers t xs bytes) (Err Steps) t bytes
    unfolding run nothing
    no_steps e = refuses Steps refl (sym (yes _ a (no _ e refl)))

    module _ (b : whole_steps xs ≡ true) where
      pub few_bytes : leb (step_count xs) (length bytes) ≡ false → Leaves (run answers t xs bytes) (Err Verdicts) t bytes
      unfolding run nothing
      few_bytes e = refuses Verdicts refl (sym (yes _ a (yes _ b (no _ e refl))))

      pub plays : (n : ℕ) (table left : List ℕ) → leb (step_count xs) (length bytes) ≡ true → Plays answers t xs bytes n table left
          → Leaves (run answers t xs bytes) (Ok n) table left
      unfolding run
      plays n table left e w =
          subst (λ (o : RanOf). Leaves o (Ok n) table left) (yes _ a (yes _ b (yes _ e refl)))
          (record {
            number = refl;
            n = w.counted;
            told_apart = refl;
            table_left = w.table_left;
            bytes_left = w.verdicts_left;
            small = omega (arith, w.within, most t a);
          })
