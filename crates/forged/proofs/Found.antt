-- What the search of a step's row found: the item is given, its place is in 1..n, and what is read from the message there is what the
-- definitions name; or it is not given, and what was built stands.
use mathlib.Core.Bool.{Bool, true, false, cond}
use mathlib.Core.List.{List}
use mathlib.Core.Path.{◌≡◌, ◌∙◌, refl, sym, ap, subst}
use Prim.Native.Nat.{ℕ, ◌*◌, ◌≤◌}
use native.Mathlib.Omega.{arith}
use borrow.Author.Tests.{eq-eqb, leb-true, ne_eqb}
use lib.Dec.{leb}
use lib.ListN.{length}
use Rattle.messages.proofs.Chain.{bounds}
use Rattle.record.proofs.Cut.{message_at_lem}
use Rattle.messages.specs.Layout.{message_width}
use Rattle.messages.specs.Parts.{Message}
use Rattle.record.specs.Table.{Record, message_at, message_in, messages}
use Rattle.messages.specs.declared.parts.Account.{Account}
use Rattle.rules.proofs.Arguments.{not_given, passed_given}
use Rattle.rules.specs.declared.codes.Argument.{Argument}
use Rattle.rules.specs.declared.codes.Item.{Item}
use Rattle.rules.specs.Forged.{given, gives}
use Rattle.rules.specs.Items.{placed, slip_in}
use Rattle.rules.specs.Step.{arguments_of}
use Rattle.arguments.proofs.Places.{in_table}
use Rattle.messages.proofs.Picks.{no, yes}
use Rattle.arguments.specs.Given.{found_in}
use Rattle.forged.specs.Outside.{Offers, account_in, item_in, number_in, taken_by}
use Rattle.arguments.specs.Ready.{Ready}
use Rattle.std.proofs.Common.{is_some, MatchOption, None, Option, Some}
use Rattle.std.specs.Borrow.{Bor}
use Rattle.std.specs.Option.{unwrap_or}

-- what the search of a step's row gives tells whether the row has the argument, and its number
by_test : (b : Bool) (x : ℕ) → is_some (cond b (Some x) None) ≡ b
by_test true x = refl
by_test false x = refl

pub found : (k : Argument) (ks : List Argument) (xs : List ℕ) (p : ℕ) → Some p ≡ found_in k ks xs → gives k ks ≡ true
found k ks xs p e = sym (ap is_some e ∙ by_test (gives k ks) (given k ks xs))

pub found_number : (k : Argument) (ks : List Argument) (xs : List ℕ) (p : ℕ) → Some p ≡ found_in k ks xs → p ≡ given k ks xs
found_number k ks xs p e = ap (λ o. unwrap_or o 0) (e ∙ sym (yes None (found k ks xs p e) refl))

pub lost : (k : Argument) (ks : List Argument) (xs : List ℕ) → None ≡ found_in k ks xs → gives k ks ≡ false
lost k ks xs e = sym (ap is_some e ∙ by_test (gives k ks) (given k ks xs))

pub found_or_0 : (k : Argument) (ks : List Argument) (xs : List ℕ) → unwrap_or (found_in k ks xs) 0 ≡ given k ks xs
found_or_0 k ks xs = by (gives k ks) refl
  where
    by : (b : Bool) → gives k ks ≡ b → unwrap_or (cond b (Some (given k ks xs)) None) 0 ≡ given k ks xs
    by true e = refl
    by false e = sym (not_given k ks xs e)

-- the item of the message that the step gives, or else what is built in its place
pub item_given : {A : Type 0} (i : Item) (R : Record) (s : List ℕ) (read : Message → A) (built : A) (o : Option (Bor (List ℕ))) {r : A}
    → Offers i R s o → MatchOption o (r ≡ built) (λ m. r ≡ read m.now) → r ≡ item_in i read built R s
unfolding item_in
item_given i R s read built None e p = no _ e p
item_given i R s read built (Some m) e p = yes _ e.0 (p ∙ ap read e.1)

module _ {n : ℕ} {t : List ℕ} {row : List Argument} {s : List ℕ} (ready : Ready n t row s) where
  pub place_passed : (k : Argument) → gives k (taken_by s) ≡ true → placed n k (given k (taken_by s) (arguments_of s)) ≡ true
  place_passed k e = passed_given k (placed n) (taken_by s) (arguments_of s) ready.places e

  module _ (i : Item) (p : ℕ) (e : Some p ≡ found_in (Argument.At i) (taken_by s) (arguments_of s)) where
    given_place : placed n (Argument.At i) p ≡ true
    given_place =
        subst (λ (x : ℕ). placed n (Argument.At i) x ≡ true) (sym (found_number (Argument.At i) (taken_by s) (arguments_of s) p e))
        (place_passed (Argument.At i) (found (Argument.At i) (taken_by s) (arguments_of s) p e))

    first_place : 1 ≤ p
    first_place = (bounds 1 p n given_place).0

    last_place : p ≤ n
    last_place = (bounds 1 p n given_place).1

    pub safe : (1 ≤ p) × (p * message_width ≤ length t)
    safe = (first_place, in_table ready last_place)

    pub found_message : message_at (messages n t) (record { 0 = p }) ≡ message_in t (record { 0 = p })
    found_message = message_at_lem n t (record { 0 = p }) first_place last_place

  -- a, where it is not his own
  module _ (p : ℕ) (e : p ≡ number_in Argument.A s) (h : p ≡ 0 → ⊥) where
    given_account : p ≤ n
    unfolding number_in
    given_account = by (gives Argument.A (taken_by s)) refl
      where
        by : (b : Bool) → gives Argument.A (taken_by s) ≡ b → p ≤ n
        by true w = leb-true _ _ (subst (λ (x : ℕ). leb x n ≡ true) (sym e) (place_passed Argument.A w))
        by false w = absurd (h (e ∙ not_given Argument.A (taken_by s) (arguments_of s) w))

    pub account_safe : (1 ≤ p) × (p * message_width ≤ length t)
    account_safe = (positive p h, in_table ready given_account)
      where
        positive : (x : ℕ) → (x ≡ 0 → ⊥) → 1 ≤ x
        positive x f = omega arith

    pub account_copied : (slip_in (message_in t (record { 0 = p }))).account ≡ account_in (messages n t) s
    unfolding account_in number_in
    account_copied =
        no _ (ne_eqb _ 0 (λ (z : given Argument.A (taken_by s) (arguments_of s) ≡ 0). h (e ∙ z)))
        (ap (λ (x : Message). (slip_in x).account)
        (sym (message_at_lem n t (record { 0 = p }) account_safe.0 given_account)
        ∙ ap (λ (x : ℕ). message_at (messages n t) (record { 0 = x })) e))

pub account_own : (R : Record) (s : List ℕ) (p : ℕ) → p ≡ number_in Argument.A s → p ≡ 0 → ◌≡◌ {A = Account} (record { 0 = 0 }) (account_in R s)
unfolding account_in number_in
account_own R s p e z = yes _ (eq-eqb _ 0 (sym e ∙ z)) refl
