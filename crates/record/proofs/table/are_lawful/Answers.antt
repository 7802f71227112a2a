-- `record::table::are_lawful` meets its promise.
use Rattle.std.proofs.Common.{ℕ, ◌+◌, ◌∙◌, arith, refl, rules, tests}
use Rattle.std.proofs.lemmas.Iterator.{YieldsList-from_range}
use Rattle.std.proofs.lemmas.Iterator.Search.{all_from_yields_List}
use Rattle.lawful.specs.Lawful.{lawful}
use Rattle.record.proofs.Cut.{test_each}
use Rattle.record.specs.Table.{message_in}
use Rattle.record.proofs.table.are_lawful.Goals as goal

pub returns : goal.returns
returns c =
    all_from_yields_List (λ (p : ℕ). lawful (message_in c.args.t.now (record { 0 = p + 1 }))) _ _ _ c.all.ensures.ran
    (YieldsList-from_range 0 c.args.n c.args.n refl (omega arith)) (λ x b q k. search (rules, tests))
    ∙ test_each lawful c.args.n c.args.t.now
