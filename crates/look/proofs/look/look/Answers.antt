-- `look::look::look` meets its promise.
use Rattle.std.proofs.Common.{Bool, ℕ, ◌≡◌, ◌∙◌, Some, true, ap, refl, sym, arith, rules}
use Rattle.messages.proofs.Chain.{goes_on, leaves}
use Rattle.messages.proofs.Picks.{no, yes}
use Rattle.record.proofs.Cut.{test_next, test_over}
use Rattle.record.specs.Table.{messages}
use Rattle.look.proofs.Standing.{one_counted}
use Rattle.look.specs.Looked.{passed, seen_of}
use Rattle.look.specs.declared.payment.Wanted.{Wanted}
use Rattle.look.proofs.look.look.Goals.{
  else-counts,
  else-not-trusted-via-else-not-trusted,
  else-not-trusted-via-then-not-trusted+else-not-is_lawful,
  then-counts,
}
use Rattle.look.proofs.look.look.Goals as goal

pub returns-then-not-is_lawful : goal.returns-then-not-is_lawful
returns-then-not-is_lawful c =
    let test : Bool = passed c.args.trusted c.message-m.result.now in
    let here = test_next (passed c.args.trusted) c.args.n c.args.t.now c.loop-i.i test c.loop-i-test.true c.message-m.ensures.0 refl in
    no _ (sym (leaves test _ here (search rules) ∙ c.loop-i.invariant.rest)) refl

pub loop-i-preserved : goal.loop-i-preserved
loop-i-preserved c =
    let test : Bool = passed c.args.trusted c.message-m.result.now in
    let here = test_next (passed c.args.trusted) c.args.n c.args.t.now c.loop-i.i test c.loop-i-test.true c.message-m.ensures.0 refl in
    let held : test ≡ true =
    elim c.else-not-trusted.branch [
      | else-not-trusted-via-then-not-trusted+else-not-is_lawful w ↦ search rules
      | else-not-trusted-via-else-not-trusted w ↦ search rules
    ] in
    record {
      rest = goes_on test _ here held ∙ c.loop-i.invariant.rest;
      -- that a message counts if its place is earlier is found by arithmetic, however the code tests it
      seen = elim c.if-counts.branch [
        | then-counts w ↦ w.seen-is ∙ w.note.ensures _ c.loop-i.invariant.seen
            ∙ ap (seen_of c.new-wanted.result) (one_counted c.args.t.now c.loop-i.i c.args.earlier c.message-m.ensures.0 (grind arith))
        | else-counts w ↦ w.seen-is ∙ c.loop-i.invariant.seen
            ∙ ap (λ (k : ℕ). seen_of c.new-wanted.result (messages k c.args.t.now)) (grind arith)
      ];
    }

pub returns : goal.returns
returns c =
    yes _ (sym (sym (test_over (passed c.args.trusted) c.args.n c.args.t.now c.loop-i.i (omega arith)) ∙ c.loop-i.invariant.rest))
    (ap Some
    (c.loop-i.invariant.seen
    ∙ ap (λ (k : ℕ). seen_of c.new-wanted.result (messages k c.args.t.now)) (omega (arith, c.requires))
    ∙ ap (λ (w : Wanted). seen_of w (messages c.args.earlier c.args.t.now)) c.new-wanted.ensures))
