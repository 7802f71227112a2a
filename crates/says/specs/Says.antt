-- What a line says, if it is readable.
use Rattle.std.specs.Prelude.{ℕ, true, false, cond, [], ◌∷◌, ◌≡◌, MatchOption, None, Option, Some, map, leb, length}
use Rattle.std.specs.Borrow.{Bor}
use Rattle.messages.specs.Layout.{filled}
use Rattle.messages.specs.Tests.{all, every}
use Rattle.rules.specs.Run.{step_width}
use Rattle.rules.specs.Step.{Step}
use Rattle.lines.specs.Lines.{Text}
use Rattle.numbers.specs.Digits.{is_number, value_of}
use Rattle.says.specs.Text.{answers_in, body, is_answers_line, is_ended, is_step_line, parts, step_in}

-- what stands before a line's line feed
abbrev pub IsBody : Text → Option (Bor Text) → Type 0
IsBody l r = MatchOption r (is_ended l ≡ false) (λ b. (is_ended l ≡ true) × (b.now ≡ body l))

abbrev pub answers_said : Text → Option ℕ
answers_said l = cond (is_answers_line l) (Some (answers_in l)) None

abbrev pub step_said : Text → Option Step
step_said l = cond (is_step_line l) (Some (step_in l)) None

-- of a line without its line feed
abbrev pub numbers_said : Text → Option Step
numbers_said xs =
    cond (every (all is_number (parts xs) ∷ leb (length (parts xs)) step_width ∷ [])) (Some (filled step_width 0 (map value_of (parts xs)))) None
