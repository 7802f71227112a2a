-- What `numbers::read_number` says at each of its returns.
use Rattle.std.proofs.Common.{arith, ℕ, ◌≡◌, ◌∙◌, ◌<◌, ◌≤◌, false, length, rules, subst, sym}
use Rattle.std.specs.Result.{OkIff}
use Rattle.messages.specs.Tests.{between}
use Rattle.messages.proofs.Chain.{inside}
use Rattle.numbers.proofs.Values.{narrowed, no_digit, unreadable}
use Rattle.numbers.specs.Digits.{most_digits}
use Rattle.numbers.proofs.read_number.Goals as goal

pub returns-then-not-contains : goal.returns-then-not-contains
returns-then-not-contains c =
    let e : between 1 (length c.args.xs.now) most_digits ≡ false = search rules in
    unreadable c.args.xs.now 0 e

pub returns-then-not-no_needless_0 : goal.returns-then-not-no_needless_0
returns-then-not-no_needless_0 c = unreadable c.args.xs.now 1 (sym c.no_needless_0.ensures ∙ c.if-not-no_needless_0.true)

pub returns-then-not-is_ascii_digit : goal.returns-then-not-is_ascii_digit
returns-then-not-is_ascii_digit c =
    no_digit c.args.xs.now c.loop-digit.sum c.loop-digit.digit-index c.loop-digit.invariant.reading c.loop-digit-test.true
    (sym c.is_ascii_digit.ensures.value ∙ c.if-not-is_ascii_digit.true)

-- That what is made a number of 16 bits is the sum is found by arithmetic, however the code says it.
pub returns : goal.returns
returns c =
    let h : 1 ≤ length c.args.xs.now = search rules in
    c.ok.ensures.value
    ∙ narrowed c.args.xs.now c.loop-digit.sum c.loop-digit.digit-index c.loop-digit.invariant.reading c.try_from.result c.loop-digit-test.false
    (inside h c.loop-digit.invariant.few) (sym c.no_needless_0.ensures ∙ c.if-not-no_needless_0.false)
    (subst (λ (sum : ℕ). OkIff c.try_from.result (sum < 65536) sum) (omega arith) c.try_from.ensures)
