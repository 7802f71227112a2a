-- An accepted step by what its code does, never by its number: what it names stands in the record and has the kind or the item that is
-- wanted. One computed test of all rows says that each row has what its deed reads.
use mathlib.Core.Bool.{Bool, true, false, ◌&&◌, ◌||◌}
use mathlib.Core.List.{List, []}
use mathlib.Core.Path.{◌≡◌, ◌∙◌, refl, sym, subst}
use Prim.Native.Nat.{ℕ, ◌-◌}
use lib.ListN.{length}
use native.Mathlib.Omega.{arith}
use Rattle.lawful.specs.Lawful.{gateways, within}
use Rattle.messages.proofs.Chain.{bounds, left_of, right_of}
use Rattle.messages.specs.declared.kind.Kind.{Kind}
use Rattle.messages.specs.declared.kind.Kind.TheVariants.{AuthRequest, AuthResponse, Initiate, Invoice, Payment}
use Rattle.messages.specs.Parts.{Message}
use Rattle.messages.specs.declared.parts.Gateway.{Gateway}
use Rattle.record.specs.Table.{Record, message_at}
use Rattle.messages.specs.Tests.{all, between}
use Rattle.rules.proofs.Accepted.{Passed, is_accepted}
use Rattle.rules.proofs.Arguments.{passed_given}
use Rattle.rules.proofs.Tests.{all_member, member_at, picked}
use Rattle.rules.specs.Agreed.{◌∈◌}
use Rattle.rules.specs.Codes.{Deed, Row, asks, forges, invoices, known, pays, replies, row_of, row, rows, starts}
use Rattle.rules.specs.declared.codes.Argument.{Argument}
use Rattle.rules.specs.declared.codes.Item.{Item}
use Rattle.rules.specs.Forged.{copied, given, gives, item_or}
use Rattle.rules.specs.Items.{holding, in_range, is_kind, placed, yields}
use Rattle.rules.specs.Step.{Step, accepted, added, arguments_of, code_of, judge}

-- what a row must have so that a message can be built: the messages that an honest step names, and a key that there is; of a forged
-- message a response code, the signatures that are not built, and whatever its parts are built from
module _ (ks : List Argument) where
  abbrev has : Item → Bool
  has i = gives (Argument.At i) ks

  abbrev pub hashed_built : Bool
  hashed_built = has Item.H || has Item.R

  abbrev pub mark_built : Bool
  mark_built = has Item.M || hashed_built

  abbrev pub slip_built : Bool
  slip_built = has Item.E || (mark_built && has Item.R)

  abbrev pub complete : Deed → Bool
  complete starts = true
  complete invoices = gives (Argument.The Initiate) ks
  complete (pays key) = within gateways key.0 && (gives (Argument.The Initiate) ks && gives (Argument.The Invoice) ks)
  complete asks = gives (Argument.The Invoice) ks && gives (Argument.The Payment) ks
  complete replies = gives (Argument.The AuthRequest) ks
  complete (forges Initiate) = hashed_built
  complete (forges Invoice) = mark_built
  complete (forges Payment) = slip_built && (has Item.P || mark_built)
  complete (forges AuthRequest) = slip_built && mark_built
  complete (forges AuthResponse) = gives Argument.C ks && (has Item.G || mark_built)

pub two_named : (ks : List Argument) (a b : Kind) → (gives (Argument.The a) ks && gives (Argument.The b) ks) ≡ true
    → (gives (Argument.The a) ks ≡ true) × (gives (Argument.The b) ks ≡ true)
two_named ks a b e = (left_of _ _ e, right_of (gives (Argument.The a) ks) _ e)

pub paying : (key : Gateway) (ks : List Argument) → complete ks (pays key) ≡ true
    → (gives (Argument.The Initiate) ks ≡ true) × (gives (Argument.The Invoice) ks ≡ true)
paying key ks e = two_named ks Initiate Invoice (right_of (within gateways key.0) _ e)

abbrev complete_row : Row → Bool
complete_row x = complete x.takes x.deed

complete_rows : all complete_row rows ≡ true
complete_rows = refl

row_complete : (code : ℕ) → known code ≡ true → complete_row (row_of code) ≡ true
row_complete code e =
    all_member complete_row rows (row_of code) complete_rows
    (member_at rows (row starts []) (code - 1) (omega (arith, bounds 1 code (length rows) e)))

-- what is known of an accepted step
pub record Taken (room : ℕ) (R : Record) (d : Deed) (ks : List Argument) (xs : List ℕ) : Type 0 where
  pub passed : Passed room R d ks xs
  pub row_is_complete : complete ks d ≡ true

-- what holds of the message of every deed holds of the message that an accepted step adds
pub by_deed : (answers room : ℕ) (R : Record) (s : Step) (x : Message) (Q : Message → Type 0) → judge answers room R s ≡ accepted x
    → ((d : Deed) (ks : List Argument) (xs : List ℕ) → Taken room R d ks xs → Q (added R ks xs answers d)) → Q x
by_deed answers room R s x Q e each_deed =
    let a = is_accepted answers room R s x e in
    let y = row_of (code_of s) in
    subst Q (sym a.message)
    (each_deed y.deed y.takes (arguments_of s) (record { passed = a.passed; row_is_complete = row_complete (code_of s) a.coded }))

pub member_place : (R : Record) (k : ℕ) → between 1 k (length R) ≡ true → message_at R (record { 0 = k }) ∈ R
member_place R k e = member_at R [] (k - 1) (omega (arith, bounds 1 k (length R) e))

module _ {room : ℕ} {R : Record} {d : Deed} {ks : List Argument} {xs : List ℕ} (t : Taken room R d ks xs) where
  -- an argument that the row has, in its range
  pub ranged : (k : Argument) → gives k ks ≡ true → in_range k (given k ks xs) ≡ true
  ranged k g = passed_given k in_range ks xs t.passed.ranged g

  -- the message at a place that the step gives stands in the record, and holds what is wanted there
  at_place : (k : Argument) → ((n x : ℕ) → placed n k x ≡ between 1 x n) → gives k ks ≡ true
      → (message_at R (record { 0 = given k ks xs }) ∈ R) × (holding R k (given k ks xs) ≡ true)
  at_place k p g = (
    member_place R (given k ks xs)
        (sym (p (length R) (given k ks xs)) ∙ passed_given k (placed (length R)) ks xs t.passed.places g),
    passed_given k (holding R) ks xs t.passed.held g,
  )

  -- an honest step names a message of the kind that its row says
  pub named : (k : Kind) → gives (Argument.The k) ks ≡ true
      → (message_at R (record { 0 = given (Argument.The k) ks xs }) ∈ R)
      × (is_kind k (message_at R (record { 0 = given (Argument.The k) ks xs })) ≡ true)
  named k = at_place (Argument.The k) (λ n x. refl)

  -- the outsider copies an item from a message that yields it
  copied_from : (i : Item) → gives (Argument.At i) ks ≡ true → (copied R ks xs i ∈ R) × (yields i (copied R ks xs i) ≡ true)
  copied_from i = at_place (Argument.At i) (λ n x. refl)

  -- what holds of the item in every message that yields it, and of what is built in its place, holds of the item
  pub item_of : {A : Type 0} (P : A → Type 0) (i : Item) (read : Message → A) (built : A)
      → ((w : Message) → w ∈ R → yields i w ≡ true → P (read w)) → (gives (Argument.At i) ks ≡ false → P built)
      → P (item_or R ks xs i read built)
  item_of P i read built reads builds =
      let w = copied R ks xs i in
      picked P (gives (Argument.At i) ks) (read w) built (λ g. let c = copied_from i g in reads w c.0 c.1) builds
