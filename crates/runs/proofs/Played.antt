-- A run from within: one step's answer as what it leaves, and the state after some steps, of which finishing gives what the whole run gives.
use mathlib.Core.Bool.{true, ◌&&◌}
use mathlib.Core.List.{List, [], ◌∷◌, ◌++◌}
use mathlib.Core.Path.{◌≡◌, ◌∙◌, refl, sym, ap, ap₂, subst}
use Prim.Native.Nat.{ℕ, zero, suc, ◌+◌, ◌*◌, ◌-◌, ◌/◌, ◌%◌, ◌≤◌, ◌<◌}
use native.Mathlib.Nat.{add_comm, add-zero, le_of_eq, suc-mul, zero-add}
use native.Mathlib.Numerals.{add-one}
use native.Mathlib.Omega.{arith}
use lib.ListN.{drop, drop_of_length-le, get_or, length, length-append, length-drop, length-set, set, take, take-append-drop}
use lib.Seq.{drop_at, take_at, drop-cons, drop-drop, get_or-drop, length-take-le, paste, paste-suc, paste-zero, take-add, take_all}
use Rattle.record.proofs.Cut.{cut_at, length_cut, messages_with}
use Rattle.messages.specs.Layout.{flat, message_width}
use Rattle.messages.specs.Parts.{Message}
use lib.Dec.{eqb, leb}
use Rattle.record.specs.Table.{Record, messages, most_room, room_of, whole, with_message}
use Rattle.rules.proofs.Accepted.{is_accepted}
use Rattle.rules.proofs.Runs.{verdicts_length}
use Rattle.rules.specs.Run.{called, over, played, step_count, step_width, steps_of, verdicts}
use Rattle.rules.specs.Step.{Outcome, Step, accepted, count_after, judge, number_of, record_after, refused, table_after}
use Rattle.runs.specs.Ran.{Plays}
use Rattle.step.specs.Answer.{Answered, answer_number}
use Rattle.refusals.specs.declared.Refusal.{Refusal}
use Rattle.std.proofs.Common.{Err, MatchResult, Ok, Result}
use Rattle.messages.specs.declared.parts.Place.{Place}

-- what one step leaves, by its outcome: its number, how many messages then stand, and the table
pub record OnePlayed (n : ℕ) (t : List ℕ) (o : Outcome) (number count : ℕ) (left : List ℕ) : Type 0 where
  pub judged : number ≡ number_of o
  pub counted : count ≡ count_after n o
  pub table : left ≡ table_after n t o

pub one_played : (n : ℕ) (t : List ℕ) (o : Outcome) (r : Result Place Refusal) (k count : ℕ) (left : List ℕ) → (o ≡ refused 0 → ⊥)
    → Answered n t o r left → k ≡ answer_number r → MatchResult r (λ p. count ≡ p.0) (λ e. count ≡ n) → OnePlayed n t o k count left
one_played n t (accepted x) (Ok p) k count left h w a b = record { judged = a ∙ w.number; counted = b ∙ w.place; table = w.table }
one_played n t (refused zero) r k count left h w a b = absurd (h refl)
one_played n t (refused (suc j)) (Ok p) k count left h w a b = let z = w.number in absurd (omega arith)
one_played n t (accepted x) (Err e) k count left h w a b = let z = w.place in absurd (omega arith)
one_played n t (refused (suc j)) (Err e) k count left h w a b = record { judged = a ∙ w.number; counted = b; table = w.table }

-- an accepted step had room
had_room : (answers n : ℕ) (t s : List ℕ) (x : Message) → judge answers (room_of t) (messages n t) s ≡ accepted x → n < room_of t
had_room answers n t s x e =
    subst (λ (k : ℕ). k < room_of t) (length_cut message_width n t) (is_accepted answers (room_of t) (messages n t) s x e).passed.roomy

-- the record and the table after one step
record Next (n : ℕ) (t : List ℕ) (o : Outcome) (count : ℕ) (left : List ℕ) : Type 0 where
  messages_left : messages count left ≡ record_after (messages n t) o
  beyond : drop (count * message_width) left ≡ drop (count * message_width) t
  grows : n ≤ count
  room : count ≤ room_of t

message_long : (n : ℕ) (t : List ℕ) (m : Message) → n * message_width + message_width ≤ length t → length (with_message n t m) ≡ length t
    → length m ≡ message_width
message_long n t m h e =
    let a = length-append (take (n * message_width) t ++ m) (drop (n * message_width + message_width) t) in
    let b = length-append (take (n * message_width) t) m in
    let c = length-take-le (n * message_width) t (omega arith) in
    let d = length-drop (n * message_width + message_width) t in
    omega arith

after : (n : ℕ) (t : List ℕ) (o : Outcome) (k count : ℕ) (left : List ℕ) → ((x : Message) → o ≡ accepted x → n < room_of t) → n ≤ room_of t
    → length left ≡ length t → OnePlayed n t o k count left → Next n t o count left
after n t (refused j) k count left h r l w =
    record {
      messages_left = ap₂ messages w.counted w.table;
      beyond = ap (drop (count * message_width)) w.table;
      grows = le_of_eq (sym w.counted);
      room = subst (λ (c : ℕ). c ≤ room_of t) (sym w.counted) r;
    }
after n t (accepted x) k count left h r l w =
    let more : n < room_of t = h x refl in
    let within : n * message_width + message_width ≤ length t = omega arith in
    let long : length x ≡ message_width = message_long n t x within (ap length (sym w.table) ∙ l) in
    let next : count * message_width ≡ n * message_width + message_width = omega (arith, w.counted) in
    let front : length (take (n * message_width) t ++ x) ≡ n * message_width + message_width =
    length-append (take (n * message_width) t) x ∙ ap₂ ◌+◌ (length-take-le (n * message_width) t (omega arith)) long in
    record {
      messages_left =
          ap₂ messages (w.counted ∙ add-one n) w.table ∙ messages_with n t x (omega arith) long;
      beyond =
          ap₂ (λ (c : ℕ) (z : List ℕ). drop c z) next w.table
          ∙ drop_at (take (n * message_width) t ++ x) (drop (n * message_width + message_width) t) (n * message_width + message_width) front
          ∙ ap (λ (c : ℕ). drop c t) (sym next);
      grows = omega (arith, w.counted);
      room = omega (arith, w.counted);
    }

-- after i steps: t and bytes as they are, n messages; t₀ and bytes₀ as they were lent
pub record Going (answers : ℕ) (t₀ xs bytes₀ t bytes : List ℕ) (n i : ℕ) : Type 0 where
  pub long : length t ≡ length t₀
  pub as_many : length bytes ≡ length bytes₀
  pub upto : i ≤ step_count xs
  pub room : n ≤ room_of t₀
  pub beyond : drop (n * message_width) t ≡ drop (n * message_width) t₀
  pub finish : played answers (room_of t₀) (messages n t) (drop i (steps_of xs)) ≡ played answers (room_of t₀) [] (steps_of xs)
  pub to_come : verdicts answers (room_of t₀) (messages n t) (drop i (steps_of xs)) ≡ drop i (verdicts answers (room_of t₀) [] (steps_of xs))
  pub so_far : bytes ≡ paste bytes₀ 0 (verdicts answers (room_of t₀) [] (steps_of xs)) i

pub begin : (answers : ℕ) (t xs bytes : List ℕ) → Going answers t xs bytes t bytes 0 0
begin answers t xs bytes =
    record {
      long = refl;
      as_many = refl;
      upto = omega arith;
      room = omega arith;
      beyond = refl;
      finish = refl;
      to_come = refl;
      so_far = paste-zero bytes 0 (verdicts answers (room_of t) [] (steps_of xs));
    }

-- the chunk that comes next is the step at i
pub is_step : (xs s rest : List ℕ) (i : ℕ) → i < step_count xs → drop (i * step_width) xs ≡ s ++ rest → length s ≡ step_width
    → s ≡ get_or (steps_of xs) i []
is_step xs s rest i h e l =
    sym (take_at s rest step_width l) ∙ ap (take step_width) (sym e) ∙ sym (cut_at step_width (step_count xs) xs i h)

pub rest_after : (xs s rest : List ℕ) (i : ℕ) → drop (i * step_width) xs ≡ s ++ rest → length s ≡ step_width → rest ≡ drop ((i + 1) * step_width) xs
rest_after xs s rest i e l =
    sym (drop_at s rest step_width l) ∙ ap (drop step_width) (sym e) ∙ drop-drop step_width (i * step_width) xs
    ∙ ap (λ (k : ℕ). drop k xs) (omega arith)

-- one comes while a whole step is left
pub comes : (xs s rest : List ℕ) (i : ℕ) → drop (i * step_width) xs ≡ s ++ rest → length s ≡ step_width → i < step_count xs
comes xs s rest i e l = omega (arith, length-drop (i * step_width) xs, ap length e, length-append s rest)

pub ends : (xs : List ℕ) (i : ℕ) → i ≤ step_count xs → length (drop (i * step_width) xs) < step_width → i ≡ step_count xs
ends xs i h l = omega (arith, length-drop (i * step_width) xs)

module _ (answers : ℕ) (t₀ xs bytes₀ t bytes : List ℕ) (n i : ℕ) (going : Going answers t₀ xs bytes₀ t bytes n i) (more : i < step_count xs)
    (fits : step_count xs ≤ length bytes₀) (s : Step) (named : s ≡ get_or (steps_of xs) i []) where
  room_kept : room_of t ≡ room_of t₀
  room_kept = ap (λ (l : ℕ). l / message_width) going.long

  said : List ℕ
  said = verdicts answers (room_of t₀) [] (steps_of xs)

  rest : List Step
  rest = drop (i + 1) (steps_of xs)

  split : drop i (steps_of xs) ≡ s ∷ rest
  unfolding rest
  split =
      drop-cons (steps_of xs) i [] (subst (λ (k : ℕ). i < k) (sym (length_cut step_width (step_count xs) xs)) more)
      ∙ ap₂ (λ (x : Step) (k : ℕ). x ∷ drop k (steps_of xs)) (sym named) (sym (add-one i))

  outcome : Outcome
  outcome = judge answers (room_of t₀) (messages n t) s

  -- this step's number, and those to come
  all_said : number_of outcome ∷ verdicts answers (room_of t₀) (record_after (messages n t) outcome) rest ≡ drop i said
  unfolding verdicts outcome said
  all_said = sym (ap (verdicts answers (room_of t₀) (messages n t)) split) ∙ going.to_come

  pub turn : (k count : ℕ) (left : List ℕ) → length left ≡ length t
      → OnePlayed n t (judge answers (room_of t) (messages n t) s) k count left → Going answers t₀ xs bytes₀ left (set bytes i k) count (i + 1)
  unfolding played called outcome said rest
  turn k count left l w =
      let o = judge answers (room_of t₀) (messages n t) s in
      let w' : OnePlayed n t o k count left = subst (λ (r : ℕ). OnePlayed n t (judge answers r (messages n t) s) k count left) room_kept w in
      let next : Next n t o count left =
      after n t o k count left
      (λ (x : Message) (e : o ≡ accepted x). had_room answers n t s x (ap (λ (r : ℕ). judge answers r (messages n t) s) room_kept ∙ e))
      (subst (λ (r : ℕ). n ≤ r) (sym room_kept) going.room) l w' in
      let number : k ≡ get_or said i 0 =
      w'.judged ∙ ap (λ (z : List ℕ). get_or z 0 0) all_said ∙ get_or-drop i said 0 0 ∙ ap (λ (j : ℕ). get_or said j 0) (add-zero i) in
      let many : length said ≡ step_count xs = verdicts_length answers (room_of t₀) [] (steps_of xs) ∙ length_cut step_width (step_count xs) xs in
      record {
        long = l ∙ going.long;
        as_many = length-set bytes i k ∙ going.as_many;
        upto = omega arith;
        room = subst (λ (r : ℕ). count ≤ r) room_kept next.room;
        beyond = next.beyond ∙ further n count t t₀ next.grows going.beyond;
        finish =
            ap (λ (R : Record). played answers (room_of t₀) R rest) next.messages_left
            ∙ sym (ap (played answers (room_of t₀) (messages n t)) split) ∙ going.finish;
        to_come =
            ap (λ (R : Record). verdicts answers (room_of t₀) R rest) next.messages_left
            ∙ ap (drop 1) all_said ∙ drop-drop 1 i said;
        so_far =
            ap₂ (λ (z : List ℕ) (j : ℕ). set z i j) going.so_far number
            ∙ ap (λ (j : ℕ). set (paste bytes₀ 0 said i) j (get_or said i 0)) (sym (zero-add i))
            ∙ paste-suc bytes₀ 0 said i 0 (omega (arith, zero-add i)) (omega arith)
            ∙ ap (paste bytes₀ 0 said) (sym (add-one i));
      }
    where
      further : (n c : ℕ) (x y : List ℕ) → n ≤ c → drop (n * message_width) x ≡ drop (n * message_width) y
          → drop (c * message_width) x ≡ drop (c * message_width) y
      further n c x y h e =
          let d : n * message_width + (c * message_width - n * message_width) ≡ c * message_width = omega arith in
          ap (λ (j : ℕ). drop j x) (sym d)
          ∙ sym (drop-drop (c * message_width - n * message_width) (n * message_width) x)
          ∙ ap (drop (c * message_width - n * message_width)) e
          ∙ drop-drop (c * message_width - n * message_width) (n * message_width) y
          ∙ ap (λ (j : ℕ). drop j y) d

-- the messages of a table, laid out again
flat_cut : (n : ℕ) (t : List ℕ) → flat (messages n t) ≡ take (n * message_width) t
flat_cut zero t = refl
flat_cut (suc n) t =
    ap (λ (z : List ℕ). take message_width t ++ z) (flat_cut n (drop message_width t))
    ∙ sym (take-add message_width (n * message_width) t)
    ∙ ap (λ (k : ℕ). take k t) (add_comm message_width (n * message_width) ∙ sym (suc-mul n message_width))

-- all steps are played
pub over_and_done : (answers : ℕ) (t₀ xs bytes₀ t bytes : List ℕ) (n i : ℕ) → Going answers t₀ xs bytes₀ t bytes n i → i ≡ step_count xs
    → Plays answers t₀ xs bytes₀ n t bytes
unfolding played called
over_and_done answers t₀ xs bytes₀ t bytes n i going e =
    let said = verdicts answers (room_of t₀) [] (steps_of xs) in
    let many : length said ≡ i = verdicts_length answers (room_of t₀) [] (steps_of xs) ∙ length_cut step_width (step_count xs) xs ∙ sym e in
    let none : drop i (steps_of xs) ≡ [] =
    drop_of_length-le (steps_of xs) {i = i} (le_of_eq (length_cut step_width (step_count xs) xs ∙ sym e)) in
    let record_is : messages n t ≡ played answers (room_of t₀) [] (steps_of xs) =
    sym (ap (played answers (room_of t₀) (messages n t)) none) ∙ going.finish in
    let long : length (flat (messages n t)) ≡ n * message_width =
    ap length (flat_cut n t) ∙ length-take-le (n * message_width) t (omega (arith, going.room, going.long)) in
    record {
      counted = sym (length_cut message_width n t) ∙ ap length record_is;
      table_left =
          sym (take-append-drop (n * message_width) t)
          ∙ ap₂ ◌++◌ (sym (flat_cut n t)) (going.beyond ∙ ap (λ (k : ℕ). drop k t₀) (sym long))
          ∙ ap (λ (R : Record). over (flat R) t₀) record_is;
      verdicts_left =
          going.so_far
          ∙ ap₂ (λ (z : List ℕ) (k : ℕ). z ++ drop k bytes₀) (take_all i said (le_of_eq many)) (zero-add i ∙ sym many);
      within = going.room;
    }

-- a table stays whole while its length does
pub whole_kept : (t u : List ℕ) → length u ≡ length t → whole t ≡ true → whole u ≡ true
whole_kept t u e h = ap (λ (l : ℕ). eqb (l % message_width) 0 && leb l (most_room * message_width)) e ∙ h
