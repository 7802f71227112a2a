-- Reached records are lawful, with room for at most 512 messages, and never outgrow their room. So a run never meets refusal 1, and a
-- step on a table that holds a reached record says what the run said.
use mathlib.Core.Bool.{Bool, true, false, cond, ◌&&◌, ◌||◌, or-true, true≢false}
use mathlib.Core.List.{List, [], ◌∷◌, ◌++◌}
use mathlib.Core.Logic.{⊎_elim}
use mathlib.Core.Path.{◌≡◌, ◌∙◌, refl, sym, ap, subst}
use Prim.Native.Nat.{ℕ, ◌%◌, ◌*◌, ◌+◌, ◌/◌, ◌≤◌}
use borrow.Author.Tests.{eqb-false, le-leb, leb-true}
use lib.Dec.{eqb, leb}
use lib.ListN.{length, length-append}
use native.Mathlib.Omega.{arith}
use Rattle.messages.proofs.Chain.{inside, left_of, right_of}
use Rattle.record.proofs.Cut.{length_cut}
use Rattle.lawful.specs.Lawful.{Range, accounts, buyers, codes, draws, fits, gateways, lawful, mark_ranges, sellers, slip_ranges, within}
use Rattle.messages.specs.Layout.{body, destination, invoice_signed, message_width, payment_signed, reply_signed, request_buyer_signed, request_signed, request_slip, source}
use Rattle.messages.specs.declared.kind.Kind.{Kind}
use Rattle.messages.specs.declared.kind.Kind.TheVariants.{AuthRequest, AuthResponse, Initiate, Invoice, Payment}
use Rattle.messages.specs.Parts.{Message, account_of, buyer_at, drawn_at, drawn_numbers, drawn_width, hashed_at, hashed_width, mark_at, mark_numbers, mark_width, seller_at, slip_at, slip_numbers, slip_width}
use Rattle.messages.specs.Signed.{buyer_signed_at, buyer_signed_width, invoice_signed_width, reply_signed_width, request_signed_width}
use Rattle.record.specs.Table.{Record, message_at, messages, most_room, room_of, whole}
use Rattle.messages.specs.Tests.{all}
use Rattle.messages.specs.declared.parts.Account.{Account}
use Rattle.messages.specs.declared.parts.Buyer.{Buyer}
use Rattle.messages.specs.declared.parts.Drawn.{Drawn}
use Rattle.messages.specs.declared.parts.Gateway.{Gateway}
use Rattle.messages.specs.declared.parts.Mark.{Mark}
use Rattle.messages.specs.declared.parts.Seller.{Seller}
use Rattle.messages.specs.declared.parts.Slip.{Slip}
use Rattle.rules.proofs.Accepted.{is_accepted}
use Rattle.rules.proofs.Arguments.{not_given, passed_given}
use Rattle.rules.proofs.Deeds.{Taken, by_deed, hashed_built, item_of, mark_built, member_place, named, paying, ranged, slip_built, two_named}
use Rattle.rules.proofs.Ranges.{BuyerSigned✓, Hashed✓, InvoiceSigned✓, Mark✓, ReplySigned✓, RequestSigned✓, Slip✓, fits_append, fits_at, fits_part, lawful_initiate, lawful_invoice, lawful_number, lawful_part, lawful_payment, lawful_reply, lawful_request}
use Rattle.rules.proofs.Reached.{kept_reached}
use Rattle.rules.proofs.Tests.{all_append, all_member, both, either, other, picked}
use Rattle.rules.specs.Agreed.{◌∈◌}
use Rattle.rules.specs.Codes.{Deed, asks, forges, invoices, pays, replies, starts}
use Rattle.rules.specs.declared.codes.Argument.{Argument}
use Rattle.rules.specs.declared.codes.Item.{Item}
use Rattle.rules.specs.Forged.{account, buyer, buyer_signature, code, drawn, given, gives, hashed, invoice_signature, item_or, mark, no_buyer, no_seller, reply_signature, request_signature, seller, slip}
use Rattle.rules.specs.Honest.{code_for, false_gateway, good, house, mark_for, order_mark, slip_under}
use Rattle.rules.specs.Items.{buyer_signed_in, drawn_in, has_slip, hashed_in, holding, in_range, invoice_signed_in, is_kind, mark_in, placed, readable, reply_signed_in, request_signed_in, slip_in, yields}
use Rattle.rules.specs.Reached.{HoldsReached, Reached}
use Rattle.rules.specs.Run.{Call, judge_call}
use Rattle.rules.specs.Step.{accepted, added, judge_table, refused, the_buyer, the_initiate, the_invoice, the_payment, the_request, the_seller}
use Rattle.rules.specs.Theorems.{ReachedLawful, StepAsRun, TableLawful}

abbrev Account✓ : Account → Type 0
Account✓ a = within accounts a.0 ≡ true

abbrev Drawn✓ : Drawn → Type 0
Drawn✓ r = fits (buyers ∷ draws ∷ []) (drawn_numbers r) ≡ true

-- the account and the drawer and draw of a slip
slip_account : (y : Slip) → Slip✓ y → Account✓ y.account
slip_account y e = fits_at slip_ranges (slip_numbers y) e (1 + mark_width)

slip_drawn : (y : Slip) → Slip✓ y → Drawn✓ y.drawn
slip_drawn y e = fits_part slip_ranges (slip_numbers y) e (1 + mark_width + 1) drawn_width

-- parts made of parts
hashed_of : (r : Drawn) (a : Account) → Drawn✓ r → Account✓ a → Hashed✓ (record { drawn = r; account = a })
hashed_of r a e f = fits_append (buyers ∷ draws ∷ []) (accounts ∷ []) (drawn_numbers r) (a.0 ∷ []) e (both f refl)

slip_of : (key : Gateway) (x : Mark) (a : Account) (r : Drawn) → within gateways key.0 ≡ true → Mark✓ x → Account✓ a → Drawn✓ r
    → Slip✓ (slip_under key x a r)
slip_of key x a r k e f g =
    both k (fits_append mark_ranges (accounts ∷ buyers ∷ draws ∷ []) (mark_numbers x) (a.0 ∷ drawn_numbers r) e (both f g))

buyer_signed_of : (b : Buyer) (y : Slip) (x : Mark) → within buyers b.0 ≡ true → Slip✓ y → Mark✓ x
    → BuyerSigned✓ (record { signer = b; slip = y; mark = x })
buyer_signed_of b y x e f g = both e (fits_append slip_ranges mark_ranges (slip_numbers y) (mark_numbers x) f g)

request_signed_of : (s : Seller) (x : Mark) (y : Slip) → within sellers s.0 ≡ true → Mark✓ x → Slip✓ y
    → RequestSigned✓ (record { signer = s; mark = x; slip = y })
request_signed_of s x y e f g = both e (fits_append mark_ranges slip_ranges (mark_numbers x) (slip_numbers y) f g)

-- items of lawful messages
module _ (w : Message) (l : lawful w ≡ true) where
  mark_in_lem : (is_kind Invoice w || is_kind AuthRequest w) ≡ true → Mark✓ (mark_in w)
  mark_in_lem e =
      ⊎_elim (λ h. lawful_part Invoice w l h body mark_width) (λ h. lawful_part AuthRequest w l h body mark_width)
      (either (is_kind Invoice w) (is_kind AuthRequest w) e)

  slip_in_lem : has_slip w ≡ true → Slip✓ (slip_in w)
  slip_in_lem e =
      picked Slip✓ (is_kind Payment w) (slip_at w body) (slip_at w request_slip) (λ h. lawful_part Payment w l h body slip_width)
      (λ n. lawful_part AuthRequest w l (other (is_kind Payment w) (is_kind AuthRequest w) e n) request_slip slip_width)

  buyer_signed_in_lem : has_slip w ≡ true → BuyerSigned✓ (buyer_signed_in w)
  buyer_signed_in_lem e =
      picked (λ (k : ℕ). BuyerSigned✓ (buyer_signed_at w k)) (is_kind Payment w) payment_signed request_buyer_signed
      (λ h. lawful_part Payment w l h payment_signed buyer_signed_width)
      (λ n. lawful_part AuthRequest w l (other (is_kind Payment w) (is_kind AuthRequest w) e n) request_buyer_signed buyer_signed_width)

  readable_slip : readable w ≡ true → Slip✓ (slip_in w)
  readable_slip e = slip_in_lem (left_of _ _ e)

  drawn_in_lem : yields Item.R w ≡ true → Drawn✓ (drawn_in w)
  drawn_in_lem e =
      picked Drawn✓ (is_kind Initiate w) (drawn_at w body) (slip_in w).drawn (λ h. lawful_part Initiate w l h body drawn_width)
      (λ n. let r : readable w ≡ true = rw n at e in slip_drawn (slip_in w) (readable_slip r))

-- what an accepted step builds from a lawful record
module _ {room : ℕ} {R : Record} {d : Deed} {ks : List Argument} {xs : List ℕ} (all_lawful : all lawful R ≡ true) (t : Taken room R d ks xs) where
  lawful_at : (w : Message) → w ∈ R → lawful w ≡ true
  lawful_at w m = all_member lawful R w all_lawful m

  -- an item is copied from a lawful message that yields it, or built
  item✓ : {A : Type 0} (P : A → Type 0) (i : Item) (read : Message → A) (built : A)
      → ((w : Message) → lawful w ≡ true → yields i w ≡ true → P (read w)) → (gives (Argument.At i) ks ≡ false → P built)
      → P (item_or R ks xs i read built)
  item✓ P i read built reads builds = item_of t P i read built (λ w m y. reads w (lawful_at w m) y) builds

  -- a party that the row does not give is 0
  given_party : (k : Argument) (r : Range) → ((x : ℕ) → in_range k x ≡ within r x) → within r 0 ≡ true → within r (given k ks xs) ≡ true
  given_party k r e none = by_cases (gives k ks) refl
    where
      by_cases : (b : Bool) → gives k ks ≡ b → within r (given k ks xs) ≡ true
      by_cases true g = sym (e (given k ks xs)) ∙ ranged t k g
      by_cases false g = ap (within r) (not_given k ks xs g) ∙ none

  seller✓ : within sellers (seller R ks xs).0 ≡ true
  seller✓ = given_party Argument.S sellers (λ x. refl) refl

  named_buyer✓ : within buyers (given Argument.B ks xs) ≡ true
  named_buyer✓ = given_party Argument.B buyers (λ x. refl) refl

  -- a: his own, or from a slip under key 0
  account✓ : Account✓ (account R ks xs)
  account✓ =
      picked Account✓ (eqb n 0) (record { 0 = 0 }) (slip_in w).account (λ e. refl)
      (λ e. slip_account (slip_in w) (by_cases e (gives Argument.A ks) refl))
    where
      n : ℕ
      n = given Argument.A ks xs

      w : Message
      w = message_at R (record { 0 = n })

      by_cases : eqb n 0 ≡ false → (b : Bool) → gives Argument.A ks ≡ b → Slip✓ (slip_in w)
      by_cases e false g = absurd (eqb-false n 0 e (not_given Argument.A ks xs g))
      by_cases e true g =
          let most : n ≤ length R = leb-true n (length R) (passed_given Argument.A (placed (length R)) ks xs t.passed.places g) in
          let held = passed_given Argument.A (holding R) ks xs t.passed.held g in
          let least : 1 ≤ n = omega (arith, eqb-false n 0 e) in
          readable_slip w (lawful_at w (member_place R n (inside least most)))
          (other (eqb n 0) (readable w) held e)

  buyer✓ : within buyers (buyer R ks xs).0 ≡ true
  buyer✓ =
      picked (λ (b : Buyer). within buyers b.0 ≡ true) (gives Argument.B ks) (record { 0 = given Argument.B ks xs })
      (record { 0 = (account R ks xs).0 }) (λ g. named_buyer✓) (λ g. account✓)

  drawn✓ : gives (Argument.At Item.R) ks ≡ true → Drawn✓ (drawn R ks xs)
  drawn✓ g = item✓ Drawn✓ Item.R drawn_in (record { drawer = no_buyer; draw = 0 }) drawn_in_lem (λ n. absurd (true≢false (sym g ∙ n)))

  hashed✓ : hashed_built ks ≡ true → Hashed✓ (hashed R ks xs)
  hashed✓ e =
      item✓ Hashed✓ Item.H hashed_in (record { drawn = drawn R ks xs; account = account R ks xs })
      (λ w l y. lawful_part Initiate w l y body hashed_width)
      (λ n.
      hashed_of (drawn R ks xs) (account R ks xs) (drawn✓ (other (gives (Argument.At Item.H) ks) (gives (Argument.At Item.R) ks) e n))
      account✓)

  mark✓ : mark_built ks ≡ true → Mark✓ (mark R ks xs)
  mark✓ e =
      item✓ Mark✓ Item.M mark_in (record { seller = seller R ks xs; buyer = buyer R ks xs; hashed = hashed R ks xs }) mark_in_lem
      (λ n. both seller✓ (both buyer✓ (hashed✓ (other (gives (Argument.At Item.M) ks) (hashed_built ks) e n))))

  slip✓ : slip_built ks ≡ true → Slip✓ (slip R ks xs)
  slip✓ e =
      let has_r = gives (Argument.At Item.R) ks in
      item✓ Slip✓ Item.E slip_in (slip_under house (mark R ks xs) (account R ks xs) (drawn R ks xs)) slip_in_lem
      (λ n.
      let built = other (gives (Argument.At Item.E) ks) (mark_built ks && has_r) e n in
      slip_of house (mark R ks xs) (account R ks xs) (drawn R ks xs) refl (mark✓ (left_of _ _ built)) account✓
      (drawn✓ (right_of (mark_built ks) _ built)))

  invoice_signed✓ : mark_built ks ≡ true → InvoiceSigned✓ (invoice_signature R ks xs)
  invoice_signed✓ e =
      item✓ InvoiceSigned✓ Item.V invoice_signed_in (record { signer = no_seller; mark = mark R ks xs })
      (λ w l y. lawful_part Invoice w l y invoice_signed invoice_signed_width) (λ n. mark✓ e)

  buyer_signed✓ : slip_built ks ≡ true → (gives (Argument.At Item.P) ks || mark_built ks) ≡ true → BuyerSigned✓ (buyer_signature R ks xs)
  buyer_signed✓ e f =
      item✓ BuyerSigned✓ Item.P buyer_signed_in (record { signer = no_buyer; slip = slip R ks xs; mark = mark R ks xs }) buyer_signed_in_lem
      (λ n.
      buyer_signed_of no_buyer (slip R ks xs) (mark R ks xs) refl (slip✓ e) (mark✓ (other (gives (Argument.At Item.P) ks) (mark_built ks) f n)))

  request_signed✓ : slip_built ks ≡ true → mark_built ks ≡ true → RequestSigned✓ (request_signature R ks xs)
  request_signed✓ e f =
      item✓ RequestSigned✓ Item.Q request_signed_in (record { signer = no_seller; mark = mark R ks xs; slip = slip R ks xs })
      (λ w l y. lawful_part AuthRequest w l y request_signed request_signed_width)
      (λ n. request_signed_of no_seller (mark R ks xs) (slip R ks xs) refl (mark✓ f) (slip✓ e))

  reply_signed✓ : within codes (code R ks xs) ≡ true → (gives (Argument.At Item.G) ks || mark_built ks) ≡ true
      → ReplySigned✓ (reply_signature R ks xs)
  reply_signed✓ e f =
      item✓ ReplySigned✓ Item.G reply_signed_in (record { signer = false_gateway; code = code R ks xs; mark = mark R ks xs })
      (λ w l y. lawful_part AuthResponse w l y reply_signed reply_signed_width)
      (λ n. both e (mark✓ (other (gives (Argument.At Item.G) ks) (mark_built ks) f n)))

  -- a message that an honest step names
  lawful_named : (k : Kind) → gives (Argument.The k) ks ≡ true
      → let w = message_at R (record { 0 = given (Argument.The k) ks xs }) in (lawful w ≡ true) × (is_kind k w ≡ true)
  lawful_named k g = let n = named t k g in (lawful_at (message_at R (record { 0 = given (Argument.The k) ks xs })) n.0, n.1)

module _ (answers room : ℕ) (small : room ≤ most_room) (R : Record) (ks : List Argument) (xs : List ℕ) (all_lawful : all lawful R ≡ true) where
  lawful_added : (d : Deed) → Taken room R d ks xs → lawful (added R ks xs answers d) ≡ true
  lawful_added starts t =
      let B = the_buyer R ks xs in
      let b = named_buyer✓ all_lawful t in
      let n = length R + 1 in
      let roomy = t.passed.roomy in
      lawful_initiate B B (the_seller R ks xs) (record { drawn = record { drawer = B; draw = n }; account = account_of B }) b b
      (seller✓ all_lawful t)
      (both b (both (inside {l = 1} {x = n} {u = most_room} (omega arith) (omega arith)) (both b refl)))
  lawful_added invoices t =
      let S = the_seller R ks xs in
      let I = the_initiate R ks xs in
      let i = lawful_named all_lawful t Initiate t.row_is_complete in
      let s = seller✓ all_lawful t in
      let b = lawful_number Initiate I i.0 i.1 source in
      let x : Mark✓ (mark_for S I) = both s (both b (lawful_part Initiate I i.0 i.1 body hashed_width)) in
      lawful_invoice S S (buyer_at I source) (mark_for S I) (record { signer = S; mark = mark_for S I }) s s b x (both s x)
  lawful_added (pays key) t =
      let B = the_buyer R ks xs in
      let I = the_initiate R ks xs in
      let S = seller_at I destination in
      let x = order_mark B I in
      let y = slip_under key x (account_of B) (hashed_at I body).drawn in
      let i = lawful_named all_lawful t Initiate (paying key ks t.row_is_complete).0 in
      let b = named_buyer✓ all_lawful t in
      let s = lawful_number Initiate I i.0 i.1 destination in
      let x✓ : Mark✓ x = both s (both b (lawful_part Initiate I i.0 i.1 body hashed_width)) in
      let y✓ : Slip✓ y =
      slip_of key x (account_of B) (hashed_at I body).drawn (left_of _ _ t.row_is_complete) x✓ b
      (lawful_part Initiate I i.0 i.1 body drawn_width)
      in
      lawful_payment B B S y (record { signer = B; slip = y; mark = x }) b b s y✓ (buyer_signed_of B y x b y✓ x✓)
  lawful_added asks t =
      let S = the_seller R ks xs in
      let J = the_invoice R ks xs in
      let P = the_payment R ks xs in
      let x = mark_at J body in
      let y = slip_at P body in
      let j = lawful_named all_lawful t Invoice (two_named ks Invoice Payment t.row_is_complete).0 in
      let p = lawful_named all_lawful t Payment (two_named ks Invoice Payment t.row_is_complete).1 in
      let s = seller✓ all_lawful t in
      let x✓ : Mark✓ x = lawful_part Invoice J j.0 j.1 body mark_width in
      let y✓ : Slip✓ y = lawful_part Payment P p.0 p.1 body slip_width in
      lawful_request S S house x y (record { signer = S; mark = x; slip = y }) (buyer_signed_at P payment_signed) s s refl x✓ y✓
      (request_signed_of S x y s x✓ y✓) (lawful_part Payment P p.0 p.1 payment_signed buyer_signed_width)
  lawful_added replies t =
      let Q = the_request R ks xs in
      let S = seller_at Q source in
      let x = mark_at Q body in
      let n = code_for answers (slip_at Q request_slip).account in
      let q = lawful_named all_lawful t AuthRequest t.row_is_complete in
      let n✓ : within codes n ≡ true =
      picked (λ (c : ℕ). within codes c ≡ true) (good answers (slip_at Q request_slip).account) 1 2 (λ e. refl) (λ e. refl)
      in
      lawful_reply house house S n (record { signer = house; code = n; mark = x }) refl refl
      (lawful_number AuthRequest Q q.0 q.1 source) n✓ (both n✓ (lawful_part AuthRequest Q q.0 q.1 body mark_width))
  lawful_added (forges Initiate) t =
      lawful_initiate no_buyer (buyer R ks xs) (seller R ks xs) (hashed R ks xs) refl (buyer✓ all_lawful t) (seller✓ all_lawful t)
      (hashed✓ all_lawful t t.row_is_complete)
  lawful_added (forges Invoice) t =
      lawful_invoice no_seller (seller R ks xs) (buyer R ks xs) (mark R ks xs) (invoice_signature R ks xs) refl (seller✓ all_lawful t)
      (buyer✓ all_lawful t) (mark✓ all_lawful t t.row_is_complete) (invoice_signed✓ all_lawful t t.row_is_complete)
  lawful_added (forges Payment) t =
      let e = left_of (slip_built ks) (gives (Argument.At Item.P) ks || mark_built ks) t.row_is_complete in
      lawful_payment no_buyer (buyer R ks xs) (seller R ks xs) (slip R ks xs) (buyer_signature R ks xs) refl (buyer✓ all_lawful t)
      (seller✓ all_lawful t) (slip✓ all_lawful t e) (buyer_signed✓ all_lawful t e (right_of (slip_built ks) _ t.row_is_complete))
  lawful_added (forges AuthRequest) t =
      let e = left_of (slip_built ks) (mark_built ks) t.row_is_complete in
      let f = right_of (slip_built ks) (mark_built ks) t.row_is_complete in
      lawful_request no_seller (seller R ks xs) house (mark R ks xs) (slip R ks xs) (request_signature R ks xs) (buyer_signature R ks xs) refl
      (seller✓ all_lawful t) refl (mark✓ all_lawful t f) (slip✓ all_lawful t e) (request_signed✓ all_lawful t e f)
      (buyer_signed✓ all_lawful t e (ap (λ (b : Bool). gives (Argument.At Item.P) ks || b) f ∙ or-true (gives (Argument.At Item.P) ks)))
  lawful_added (forges AuthResponse) t =
      let c = ranged t Argument.C (left_of _ _ t.row_is_complete) in
      lawful_reply false_gateway house (seller R ks xs) (code R ks xs) (reply_signature R ks xs) refl refl (seller✓ all_lawful t) c
      (reply_signed✓ all_lawful t c (right_of (gives Argument.C ks) _ t.row_is_complete))

-- every message of a reached record is lawful
pub reached_lawful : ReachedLawful
reached_lawful room small R r = kept_reached room (λ (T : Record). all lawful T ≡ true) keep R r refl
  where
    keep : (T : Record) (c : Call) (x : Message) → all lawful T ≡ true → judge_call room T c ≡ accepted x → all lawful (T ++ (x ∷ [])) ≡ true
    keep T c x p e =
        let answers = c.answers in
        all_append lawful T (x ∷ []) p
        (both (by_deed answers room T c.step x (λ (y : Message). lawful y ≡ true) e (λ d ks xs. lawful_added answers room small T ks xs p d)) refl)

-- a reached record has no more messages than room
pub reached_room : (room : ℕ) (R : Record) → Reached room R → length R ≤ room
reached_room room R r = kept_reached room (λ (T : Record). length T ≤ room) keep R r (omega arith)
  where
    keep : (T : Record) (c : Call) (x : Message) → length T ≤ room → judge_call room T c ≡ accepted x → length (T ++ (x ∷ [])) ≤ room
    keep T c x p e = omega (arith, (is_accepted c.answers room T c.step x e).passed.roomy, length-append T (x ∷ []))

-- a table as long as one of whole messages, with the record that was reached in that one's room
pub holds_as : (n : ℕ) (t u : List ℕ) → length u ≡ length t → whole t ≡ true → Reached (room_of t) (messages n u) → HoldsReached n u
holds_as n t u l e r =
    record {
      measured = ap (λ (k : ℕ). eqb (k % message_width) 0 && leb k (most_room * message_width)) l ∙ e;
      reached = subst (λ (k : ℕ). Reached k (messages n u)) (ap (λ (k : ℕ). k / message_width) (sym l)) r;
    }

-- refusal 1 is not met
pub table_lawful : TableLawful
table_lawful n t h =
    let R = messages n t in
    let most = leb-true (length t) (most_room * message_width) (right_of (eqb (length t % message_width) 0) _ h.measured) in
    both h.measured
    (both (le-leb n (room_of t) (omega (arith, reached_room (room_of t) R h.reached, length_cut message_width n t)))
    (reached_lawful (room_of t) (omega arith) R h.reached))

-- so a step says of the table what it says of the record
pub step_as_run : StepAsRun
unfolding judge_table
step_as_run n t h c =
    ap (λ (b : Bool). cond b (judge_call (room_of t) (messages n t) c) (refused 1)) (table_lawful n t h)
