-- A text parted into lines: its first line and those after it, and the line at a position.
use Rattle.std.proofs.Common.{Bool, true, false, cond, List, [], ◌∷◌, ◌≡◌, ◌∙◌, refl, sym, ap, ap₂, ℕ, zero, suc, ◌+◌, ◌-◌, ◌≤◌, ◌<◌, arith, eqb, drop, get_or, length, length-drop, take, drop-drop, min}
use Rattle.std.proofs.lemmas.List.{take_min}
use Rattle.lines.specs.Lines.{Text, before, line_at, line_feed, lines, onto}

-- each law goes by whether the first byte is of the kind

only_by : (b : Bool) (x : ℕ) → let k : ℕ = cond b 0 1 in
    cond b ((x ∷ []) ∷ []) (onto x []) ≡ take (suc k) (x ∷ []) ∷ lines (drop (suc k) (x ∷ []))
only_by true x = refl
only_by false x = refl

first_by : (b : Bool) (x : ℕ) (xs : Text) → let n = before line_feed xs in let k = cond b 0 (suc n) in
    lines xs ≡ take (suc n) xs ∷ lines (drop (suc n) xs)
    → cond b ((x ∷ []) ∷ lines xs) (onto x (lines xs)) ≡ take (suc k) (x ∷ xs) ∷ lines (drop (suc k) (x ∷ xs))
first_by true x xs e = refl
first_by false x xs e = ap (onto x) e

-- a text that is not empty has a first line
pub first_line : (t : Text) → 1 ≤ length t → lines t ≡ take (suc (before line_feed t)) t ∷ lines (drop (suc (before line_feed t)) t)
first_line [] h = absurd (omega arith)
first_line (x ∷ []) h = only_by (eqb x line_feed) x
first_line (x ∷ y ∷ ys) h = first_by (eqb x line_feed) x (y ∷ ys) (first_line (y ∷ ys) (omega arith))

-- the line at a position, and the lines after it

pub line_here : (t : Text) (at : ℕ) → at < length t → line_at t at ≡ take (suc (before line_feed (drop at t))) (drop at t)
unfolding line_at
line_here t at h = ap (λ (z : List Text). get_or z 0 []) (first_line (drop at t) (omega (arith, length-drop at t)))

drop_taken : (k : ℕ) (t : Text) → drop (length (take k t)) t ≡ drop k t
drop_taken zero t = refl
drop_taken (suc k) [] = refl
drop_taken (suc k) (x ∷ t) = drop_taken k t

pub lines_from : (t : Text) (at : ℕ) → at < length t → lines (drop at t) ≡ line_at t at ∷ lines (drop (at + length (line_at t at)) t)
lines_from t at h =
    let k = suc (before line_feed (drop at t)) in
    first_line (drop at t) (omega (arith, length-drop at t))
    ∙ ap₂ (λ (x : Text) (z : Text). x ∷ lines z) (sym (line_here t at h))
    (sym (drop_taken k (drop at t)) ∙ drop-drop (length (take k (drop at t))) at t
    ∙ ap (λ (z : Text). drop (at + length z) t) (sym (line_here t at h)))

-- a line that is handed over is the first of those left, and the others are left behind it
pub lines_split : (t : Text) (at : ℕ) (line : Text) → at < length t → line ≡ line_at t at
    → lines (drop at t) ≡ line ∷ lines (drop (at + length line) t)
lines_split t at line h e =
    lines_from t at h ∙ ap (λ (l : Text). l ∷ lines (drop (at + length l) t)) (sym e)

-- as a part of the text: up to its line feed, or to the end
pub line_cut : (t : Text) (at end past : ℕ) → at < length t → end ≡ at + before line_feed (drop at t) → past ≡ min (length t) (end + 1)
    → take (past - at) (drop at t) ≡ line_at t at
line_cut t at end past h e f =
    let k = suc (before line_feed (drop at t)) in
    let d = length-drop at t in
    let g : past - at ≡ min k (length (drop at t)) = omega arith in
    ap (λ (j : ℕ). take j (drop at t)) g ∙ take_min k (drop at t) ∙ sym (line_here t at h)
