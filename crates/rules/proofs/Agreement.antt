-- Agreement: when the house has replied, buyer and seller of that payment have said the same, unless both are the outsider. Either's
-- signature on the Auth-Request vouches for his own messages and for those that the other sent; what the outsider sent he made himself.
use mathlib.Core.Bool.{Bool, true, false, false≢true}
use mathlib.Core.List.Memᴰ
use mathlib.Core.List.{List, ◌++◌}
use mathlib.Core.Path.{◌≡◌, ◌∙◌, refl, sym, ap, subst}
use Prim.Native.Nat.{ℕ, ◌+◌, ◌-◌}
use native.Mathlib.Omega.{arith}
use borrow.Author.Tests.{eqb-false, eqb-true}
use lib.Dec.{eqb}
use lib.ListN.{length}
use Rattle.messages.proofs.Chain.{bounds}
use Rattle.messages.specs.Layout.{an_auth_request, body, destination, laid, request_buyer_signed, request_signed, request_slip, source}
use Rattle.messages.specs.declared.kind.Kind.{Kind}
use Rattle.messages.specs.declared.kind.Kind.TheVariants.{AuthRequest, AuthResponse, Initiate, Invoice, Payment}
use Rattle.messages.specs.Parts.{Message, buyer_at, gateway_at, hashed_numbers, mark_at, mark_numbers, mark_width, owner_of, seller_at, slip_at, slip_numbers, slip_width}
use Rattle.messages.specs.Signed.{buyer_signed_at, buyer_signed_numbers, invoice_signed_numbers, request_signed_at, request_signed_numbers}
use Rattle.record.specs.Table.{Record, message_at}
use Rattle.messages.specs.Tests.{all}
use Rattle.messages.specs.declared.parts.Buyer.{Buyer}
use Rattle.messages.specs.declared.parts.Mark.{Mark}
use Rattle.messages.specs.declared.parts.Seller.{Seller}
use Rattle.messages.specs.declared.signed.BuyerSigned.{BuyerSigned}
use Rattle.messages.specs.declared.signed.RequestSigned.{RequestSigned}
use Rattle.rules.proofs.Claims.{as_part, facts}
use Rattle.rules.proofs.Deeds.{Taken, by_deed, named}
use Rattle.rules.proofs.Laid.{relaid}
use Rattle.rules.proofs.Reached.{history}
use Rattle.rules.proofs.Vouched.{AllSound, BuyerVouched, SellerVouched, reached_sound, sound_as}
use Rattle.rules.specs.Agreed.{Agreed, BothOutside, ◌∈◌}
use Rattle.rules.specs.Codes.{Deed, asks, forges, invoices, pays, replies, starts}
use Rattle.rules.specs.declared.codes.Argument.{Argument}
use Rattle.rules.specs.Honest.{holds, house, rebuilt, reply_claims}
use Rattle.rules.specs.Items.{is_kind}
use Rattle.rules.specs.Report.{earlier, house_reply, its_request, its_slip, reply_mark}
use Rattle.rules.specs.Step.{added, the_request}
use Rattle.rules.specs.Theorems.{Agreement}

-- the signatures of a payment with the mark x
abbrev its_buyer_signed : Mark → BuyerSigned
its_buyer_signed x = record { signer = x.buyer; slip = its_slip x; mark = x }

abbrev its_seller_signed : Mark → RequestSigned
its_seller_signed x = record { signer = x.seller; mark = x; slip = its_slip x }

-- what step 5 has made sure of for a request Q with the mark x: one payment, its slip, and the signatures of both over these
record Checked (x : Mark) (Q : Message) : Type 0 where
  account : x.hashed.account.0 ≡ x.buyer.0
  seller : x.seller ≡ seller_at Q source
  to_house : house ≡ gateway_at Q destination
  slip : its_slip x ≡ slip_at Q request_slip
  seller_signed : its_seller_signed x ≡ request_signed_at Q request_signed
  buyer_signed : its_buyer_signed x ≡ buyer_signed_at Q request_buyer_signed

checked : (Q : Message) → all holds (reply_claims Q) ≡ true → Checked (mark_at Q body) Q
checked Q e =
    let S = seller_at Q source in
    let x = mark_at Q body in
    let y = slip_at Q request_slip in
    let f = facts (reply_claims Q) e in
    let to_house : gateway_at Q destination ≡ house = as_part gateway_at f.0 in
    let key : house ≡ y.key = sym (as_part gateway_at f.1.0) in
    let slip_mark : x ≡ y.mark = sym (as_part mark_at f.1.1.0) in
    let from_slip : x ≡ rebuilt S y = as_part mark_at f.1.1.1.0 in
    let slip : its_slip x ≡ y =
    λ k. record { key = key k; mark = slip_mark k; account = (from_slip k).hashed.account; drawn = (from_slip k).hashed.drawn }
    in
    let seller_signer : S ≡ seller_at Q request_signed = sym (as_part seller_at f.1.1.1.1.0) in
    let seller_mark : x ≡ mark_at Q (request_signed + 1) = sym (as_part mark_at f.1.1.1.1.1.0) in
    let seller_slip : y ≡ slip_at Q (request_signed + 1 + mark_width) = sym (as_part slip_at f.1.1.1.1.1.1.0) in
    let buyer_signer : owner_of y.account ≡ buyer_at Q request_buyer_signed = sym (as_part buyer_at f.1.1.1.1.1.1.1.0) in
    let buyer_slip : y ≡ slip_at Q (request_buyer_signed + 1) = sym (as_part slip_at f.1.1.1.1.1.1.1.1.0) in
    let buyer_mark : x ≡ mark_at Q (request_buyer_signed + 1 + slip_width) = sym (as_part mark_at f.1.1.1.1.1.1.1.1.1.0) in
    let seller : x.seller ≡ S = ap (λ (z : Mark). z.seller) from_slip in
    let buyer : x.buyer ≡ owner_of y.account = ap (λ (z : Mark). z.buyer) from_slip in
    record {
      account = ap (λ (z : Mark). z.hashed.account.0) from_slip ∙ ap (λ (b : Buyer). b.0) (sym buyer);
      seller = seller;
      to_house = sym to_house;
      slip = slip;
      seller_signed =
          λ k. record { signer = (seller ∙ seller_signer) k; mark = seller_mark k; slip = (slip ∙ seller_slip) k };
      buyer_signed =
          λ k. record { signer = (buyer ∙ buyer_signer) k; slip = (slip ∙ buyer_slip) k; mark = buyer_mark k };
    }

module _ (R : Record) (sound : AllSound R) where
  -- what 0 sent, 0 made: it is the sender's own
  own : (k : Kind) (parts : List ℕ) (by from to : ℕ) → from ≡ 0 → laid k by from to parts ∈ R → laid k from from to parts ∈ R
  own k parts by from to z m = Memᴰ.cast (λ i. laid k ((z ∙ sym ((sound _ m).sent z)) i) from to parts) m

  own_request : (Q : Message) → Checked (mark_at Q body) Q → (mark_at Q body).seller.0 ≡ 0 → Q ∈ R → Q ≡ relaid AuthRequest Q
      → its_request (mark_at Q body) ∈ R
  own_request Q c z m as_laid =
      Memᴰ.cast
      (λ k.
      an_auth_request (c.seller k) (c.seller k) (c.to_house k) (mark_at Q body) (c.slip k) (c.seller_signed k) (c.buyer_signed k))
      (own AuthRequest
      (mark_numbers (mark_at Q body)
      ++ slip_numbers (slip_at Q request_slip)
      ++ request_signed_numbers (request_signed_at Q request_signed)
      ++ buyer_signed_numbers (buyer_signed_at Q request_buyer_signed))
      _ _ _ (ap (λ (s : Seller). s.0) (sym c.seller) ∙ z) (Memᴰ.cast (sym as_laid) m))

  -- the four cases: both are the outsider, which is not asked about; the buyer is; the seller is; neither is
  four : (x : Mark) → ¬ BothOutside x → x.hashed.account.0 ≡ x.buyer.0 → BuyerVouched R (its_buyer_signed x)
      → SellerVouched R (its_seller_signed x) → (x.seller.0 ≡ 0 → its_request x ∈ R) → (b s : Bool) → eqb x.buyer.0 0 ≡ b
      → eqb x.seller.0 0 ≡ s → Agreed x R
  four x n a buyer seller request true true eb es = absurd (n (eqb-true x.buyer.0 0 eb, eqb-true x.seller.0 0 es))
  four x n a buyer seller request true false eb es =
      let no_b = eqb-true x.buyer.0 0 eb in
      let s = seller (eqb-false x.seller.0 0 es) in
      record {
        account = a;
        initiate = own Initiate (hashed_numbers x.hashed) _ _ _ no_b s.initiate.1;
        invoice = s.invoice;
        payment = own Payment (slip_numbers (its_slip x) ++ buyer_signed_numbers (its_buyer_signed x)) _ _ _ no_b s.payment.1;
        request = s.request;
      }
  four x n a buyer seller request false true eb es =
      let no_s = eqb-true x.seller.0 0 es in
      let b = buyer (eqb-false x.buyer.0 0 eb) in
      record {
        account = a;
        initiate = b.initiate;
        invoice = own Invoice (mark_numbers x ++ invoice_signed_numbers (record { signer = x.seller; mark = x })) _ _ _ no_s b.invoice.1;
        payment = b.payment;
        request = request no_s;
      }
  four x n a buyer seller request false false eb es =
      let b = buyer (eqb-false x.buyer.0 0 eb) in
      let s = seller (eqb-false x.seller.0 0 es) in
      record { account = a; initiate = b.initiate; invoice = s.invoice; payment = b.payment; request = s.request }

  request_agreed : (Q : Message) → Q ∈ R → is_kind AuthRequest Q ≡ true → all holds (reply_claims Q) ≡ true → ¬ BothOutside (mark_at Q body)
      → Agreed (mark_at Q body) R
  request_agreed Q m kind claims n =
      let x = mark_at Q body in
      let c = checked Q claims in
      let v = sound_as R AuthRequest Q (sound Q m) kind in
      four x n c.account (subst (BuyerVouched R) (sym c.buyer_signed) v.1.0)
      (subst (SellerVouched R) (sym c.seller_signed) v.1.1) (λ z. own_request Q c z m v.0) (eqb x.buyer.0 0)
      (eqb x.seller.0 0) refl refl

-- of a message that a step adds to a reached record: it is a house reply only if step 5 made it
abbrev AgreedOn : Record → Message → Type 0
AgreedOn R x = house_reply x ≡ true → ¬ BothOutside (reply_mark x) → Agreed (reply_mark x) R

module _ (answers room : ℕ) (R : Record) (ks : List Argument) (xs : List ℕ) (sound : AllSound R) where
  deed_agreed : (d : Deed) → Taken room R d ks xs → AgreedOn R (added R ks xs answers d)
  deed_agreed starts t h n = absurd (false≢true h)
  deed_agreed invoices t h n = absurd (false≢true h)
  deed_agreed (pays key) t h n = absurd (false≢true h)
  deed_agreed asks t h n = absurd (false≢true h)
  deed_agreed replies t h n =
      let q = named t AuthRequest t.row_is_complete in
      request_agreed R sound (the_request R ks xs) q.0 q.1 t.passed.claimed n
  deed_agreed (forges Initiate) t h n = absurd (false≢true h)
  deed_agreed (forges Invoice) t h n = absurd (false≢true h)
  deed_agreed (forges Payment) t h n = absurd (false≢true h)
  deed_agreed (forges AuthRequest) t h n = absurd (false≢true h)
  deed_agreed (forges AuthResponse) t h n = absurd (false≢true h)

-- a reply entered the record by a step, on the messages earlier than it, which are a reached record too
pub agreement : Agreement
agreement room R r p h =
    let e = history room R r (p.0 - 1) (omega (arith, bounds 1 p.0 (length R) h.inside)) in
    let answers = e.call.answers in
    by_deed answers room (earlier R p) e.call.step (message_at R p) (AgreedOn (earlier R p)) e.entered
    (λ d ks xs. deed_agreed answers room (earlier R p) ks xs (reached_sound room (earlier R p) e.reached) d) h.reply
