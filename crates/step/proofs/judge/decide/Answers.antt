-- `step::judge::decide` meets its promise. That the condition holds where there is no room is found among the facts there, not by its name.
use borrow.Author.Tests.{le-ltb, lt-ltb}
use mathlib.Core.Bool.{true}
use mathlib.Core.Path.{◌≡◌, ap, sym}
use native.Mathlib.Omega.{arith}
use Rattle.arguments.proofs.Places.{for_table, without_row}
use Rattle.messages.proofs.Chain.{failed, held}
use Rattle.record.proofs.Whole.{under_most}
use Rattle.record.specs.Table.{room_of}
use Rattle.refusals.specs.declared.Refusal.{Refusal}
use Rattle.rules.specs.Step.{number_of, place_of, table_after}
use Rattle.step.proofs.Outcomes.{full, not_allowed, refuses, taken}
use Rattle.step.proofs.judge.decide.Goals as goal

pub is_allowed-barred-requires : goal.is_allowed-barred-requires
is_allowed-barred-requires c = for_table (without_row c.requires.1)

pub returns-then-barred : goal.returns-then-barred
returns-then-barred c =
    let told = c.is_allowed-barred.ensures c.args.n (without_row c.requires.1) in
    refuses c.args.n c.args.t.now Refusal.Condition
    (not_allowed c.args.answers c.args.n c.args.t.now c.args.s.now (failed told c.if-barred.true))

pub returns-then-full : goal.returns-then-full
returns-then-full c =
    let told = c.is_allowed-barred.ensures c.args.n (without_row c.requires.1) in
    let met : c.is_allowed-barred.result ≡ true = cc in
    let none = le-ltb c.args.n (room_of c.args.t.now) (omega (arith, c.if-full.true, c.room.ensures)) in
    refuses c.args.n c.args.t.now Refusal.Room
    (full c.args.answers c.args.n c.args.t.now c.args.s.now (held told met) none)

pub returns : goal.returns
returns c =
    let allowed = c.is_allowed-barred.ensures c.args.n (without_row c.requires.1) in
    let some = lt-ltb c.args.n (room_of c.args.t.now) (omega (arith, c.if-full.false, c.room.ensures)) in
    let came = taken c.args.answers c.args.n c.args.t.now c.args.s.now (held allowed c.if-barred.false) some c.added-m.ensures in
    record {
      number = sym (ap number_of came);
      place = sym (ap (place_of c.args.n) came);
      table = cc (ap (table_after c.args.n c.args.t.now) came);
      small = omega (arith, under_most c.args.n c.args.t.now c.requires.0 (omega (arith, c.if-full.false, c.room.ensures)));
    }
