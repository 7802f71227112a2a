-- The lists come out as documents 01 and 02 say, by computation over the definitions. This stands behind the session, so that a rule under which
-- nothing is accepted is refused there first.
use mathlib.Core.Bool.{true}
use mathlib.Core.Path.{◌≡◌, refl}
use Rattle.rules.specs.Lists.{lists_right, right, trials, written}
use Rattle.rules.specs.Report.{report_on}
use Rattle.rules.specs.Run.{called, played}
use Rattle.rules.specs.Said.{reply_rows, step_rows}
use Rattle.rules.specs.Step.{judge, judge_row}

pub lists_right_lem : lists_right ≡ true
unfolding lists_right right trials written step_rows reply_rows report_on played called judge judge_row
lists_right_lem = refl
