-- What every reached record keeps, as things that stand in it, so that a longer record keeps them: a message sent by 0 is made by 0; an
-- Invoice that an honest seller made answers an Initiate; and a signature by an honest party vouches for the messages that its owner
-- made and for those that were sent to him. Nothing here is about keys, accounts or draws that the outsider does not know.
use mathlib.Core.Bool.{true}
use mathlib.Core.List.Memᴰ
use mathlib.Core.List.{List, [], ◌++◌, ◌∷◌}
use mathlib.Core.Logic.{⊎_elim}
use mathlib.Core.Path.{◌≡◌, ◌∙◌, refl, sym, ap, subst}
use Prim.Native.Nat.{ℕ, ◌+◌}
use lib.ListN.{get_or}
use Rattle.record.proofs.Flat.{AllLong}
use Rattle.messages.specs.Layout.{a_payment, an_initiate, an_invoice, body, destination, invoice_signed, maker, message_width, payment_signed, request_buyer_signed, request_signed, source}
use Rattle.messages.specs.declared.kind.Kind.{Kind}
use Rattle.messages.specs.declared.kind.Kind.TheVariants.{AuthRequest, AuthResponse, Initiate, Invoice, Payment}
use Rattle.messages.specs.Parts.{Message, buyer_at, hashed_at, mark_at, seller_at, slip_at, slip_width}
use Rattle.messages.specs.Signed.{buyer_signed_at, request_signed_at}
use Rattle.record.specs.Table.{Record, message_at}
use Rattle.messages.specs.declared.parts.Buyer.{Buyer}
use Rattle.messages.specs.declared.parts.Gateway.{Gateway}
use Rattle.messages.specs.declared.parts.Mark.{Mark}
use Rattle.messages.specs.declared.parts.Seller.{Seller}
use Rattle.messages.specs.declared.signed.BuyerSigned.{BuyerSigned}
use Rattle.messages.specs.declared.signed.RequestSigned.{RequestSigned}
use Rattle.rules.proofs.Claims.{as_part, facts}
use Rattle.rules.proofs.Deeds.{Taken, by_deed, item_of, named, paying, two_named}
use Rattle.rules.proofs.Laid.{full_length, one_kind, relaid}
use Rattle.rules.proofs.Reached.{kept_reached}
use Rattle.rules.proofs.Tests.{other, picked}
use Rattle.rules.specs.Agreed.{◌∈◌}
use Rattle.rules.specs.Codes.{Deed, asks, forges, invoices, pays, replies, starts}
use Rattle.rules.specs.declared.codes.Argument.{Argument}
use Rattle.rules.specs.declared.codes.Item.{Item}
use Rattle.rules.specs.Forged.{buyer_signature, given, gives, mark, no_buyer, no_seller, request_signature, slip}
use Rattle.rules.specs.Honest.{ask_claims, invoice_claims, order_mark, pay_claims, payment_by, request_by}
use Rattle.rules.specs.Items.{buyer_signed_in, has_slip, is_kind, request_signed_in}
use Rattle.rules.specs.Reached.{Reached}
use Rattle.rules.specs.Report.{its_initiate, its_invoice}
use Rattle.rules.specs.Run.{Call, judge_call}
use Rattle.rules.specs.Step.{accepted, added, the_buyer, the_initiate, the_invoice, the_payment, the_seller}

module _ (R : Record) where
  -- messages for a mark x that were sent, whoever made them
  abbrev pub InitiateSent : Mark → Type 0
  InitiateSent x = (by : Buyer) × (an_initiate by x.buyer x.seller x.hashed ∈ R)

  abbrev pub InvoiceSent : Mark → Type 0
  InvoiceSent x = (by : Seller) × (an_invoice by x.seller x.buyer x (record { signer = x.seller; mark = x }) ∈ R)

  abbrev pub PaymentSent : RequestSigned → Type 0
  PaymentSent q =
      (by : Buyer)
      × (a_payment by q.mark.buyer q.mark.seller q.slip (record { signer = q.mark.buyer; slip = q.slip; mark = q.mark }) ∈ R)

  -- an Invoice that its seller made says what step 2 writes
  pub record OwnInvoice (x : Mark) (w : Message) : Type 0 where
    pub says : w ≡ its_invoice x
    pub initiate : InitiateSent x

  -- a buyer's signature: his Initiate and Payment, and an Invoice sent by the seller
  pub record BuyerVouches (p : BuyerSigned) : Type 0 where
    pub initiate : its_initiate p.mark ∈ R
    pub payment : payment_by p.mark.buyer p.mark.seller p.slip p.mark ∈ R
    pub invoice : InvoiceSent p.mark

  -- a seller's signature on a request: his Invoice and Auth-Request, and an Initiate and a Payment sent by the buyer
  pub record SellerVouches (q : RequestSigned) : Type 0 where
    pub invoice : its_invoice q.mark ∈ R
    pub request :
        request_by q.mark.seller q.mark q.slip (record { signer = q.mark.buyer; slip = q.slip; mark = q.mark }) ∈ R
    pub initiate : InitiateSent q.mark
    pub payment : PaymentSent q

  -- only the outsider's signature vouches for nothing
  abbrev pub BuyerVouched : BuyerSigned → Type 0
  BuyerVouched p = ¬ (p.signer.0 ≡ 0) → BuyerVouches p

  abbrev pub SellerVouched : RequestSigned → Type 0
  SellerVouched q = ¬ (q.signer.0 ≡ 0) → SellerVouches q

  abbrev pub Vouched : Kind → Message → Type 0
  Vouched Initiate w = Unit {0}
  Vouched Invoice w = ¬ (get_or w maker 0 ≡ 0) → OwnInvoice (mark_at w body) w
  Vouched Payment w = BuyerVouched (buyer_signed_at w payment_signed)
  Vouched AuthRequest w = BuyerVouched (buyer_signed_at w request_buyer_signed) × SellerVouched (request_signed_at w request_signed)
  Vouched AuthResponse w = Unit {0}

  -- what is kept of a message: it is laid out as its kind, sent by 0 only if made by 0, and its signatures vouch
  pub record Sound (w : Message) : Type 0 where
    pub kind : Kind
    pub laid : w ≡ relaid kind w
    pub sent : get_or w source 0 ≡ 0 → get_or w maker 0 ≡ 0
    pub vouched : Vouched kind w

abbrev pub AllSound : Record → Type 0
AllSound R = (w : Message) → w ∈ R → Sound R w

-- a longer record keeps it
module _ {R T : Record} (grows : (w : Message) → w ∈ R → w ∈ T) where
  own_grows : {x : Mark} {w : Message} → OwnInvoice R x w → OwnInvoice T x w
  own_grows o = record { says = o.says; initiate = (o.initiate.0, grows _ o.initiate.1) }

  pub buyer_grows : {p : BuyerSigned} → BuyerVouches R p → BuyerVouches T p
  buyer_grows b =
      record {
        initiate = grows _ b.initiate;
        payment = grows _ b.payment;
        invoice = (b.invoice.0, grows _ b.invoice.1);
      }

  pub seller_grows : {q : RequestSigned} → SellerVouches R q → SellerVouches T q
  seller_grows s =
      record {
        invoice = grows _ s.invoice;
        request = grows _ s.request;
        initiate = (s.initiate.0, grows _ s.initiate.1);
        payment = (s.payment.0, grows _ s.payment.1);
      }

  vouched_grows : (k : Kind) (w : Message) → Vouched R k w → Vouched T k w
  vouched_grows Initiate w e = tt
  vouched_grows Invoice w e = λ h. own_grows (e h)
  vouched_grows Payment w e = λ h. buyer_grows (e h)
  vouched_grows AuthRequest w e = (λ h. buyer_grows (e.0 h), λ h. seller_grows (e.1 h))
  vouched_grows AuthResponse w e = tt

  pub sound_grows : (w : Message) → Sound R w → Sound T w
  sound_grows w e =
      record { kind = e.kind; laid = e.laid; sent = e.sent; vouched = vouched_grows e.kind w e.vouched }

-- what is kept of a message whose kind is known
pub sound_as : (R : Record) (k : Kind) (w : Message) → Sound R w → is_kind k w ≡ true → (w ≡ relaid k w) × Vouched R k w
sound_as R k w e h =
    subst (λ (j : Kind). (w ≡ relaid j w) × Vouched R j w) (one_kind e.kind k w e.laid h) (e.laid, e.vouched)

-- the message that an accepted step adds to a record of sound messages; I, J and P are the Initiate, the Invoice and the Payment that it names
module _ (answers room : ℕ) (R : Record) (ks : List Argument) (xs : List ℕ) (sound : AllSound R) where
  module _ (T : Record) (grows : (w : Message) → w ∈ R → w ∈ T) where
    -- a message that the step names
    the_one : {d : Deed} → Taken room R d ks xs → (k : Kind) → gives (Argument.The k) ks ≡ true
        → let w = message_at R (record { 0 = given (Argument.The k) ks xs }) in (w ∈ R) × (w ≡ relaid k w) × Vouched R k w
    the_one t k g =
        let n = named t k g in
        let w = message_at R (record { 0 = given (Argument.The k) ks xs }) in
        let e = sound_as R k w (sound w n.0) n.1 in
        (n.0, e.0, e.1)

    -- 2: an Initiate was sent to the seller by the buyer whom he answers
    invoice_sound : Taken room R invoices ks xs → Sound T (added R ks xs answers invoices)
    invoice_sound t =
        let S = the_seller R ks xs in
        let I = the_initiate R ks xs in
        let i = the_one t Initiate t.row_is_complete in
        let f = facts (invoice_claims S I) t.passed.claimed in
        let to_him : seller_at I destination ≡ S = as_part seller_at f.0 in
        let sent_so : an_initiate (buyer_at I maker) (buyer_at I source) S (hashed_at I body) ≡ I =
        ap (λ (to : Seller). an_initiate (buyer_at I maker) (buyer_at I source) to (hashed_at I body)) (sym to_him) ∙ sym i.1
        in
        record {
          kind = Invoice;
          laid = refl;
          sent = λ e. e;
          vouched = λ h. record { says = refl; initiate = (buyer_at I maker, grows _ (Memᴰ.cast sent_so i.0)) };
        }

    -- 3 and 38: the buyer's own Initiate, the Payment itself, and the Invoice that he was sent
    payment_sound : (key : Gateway) → (added R ks xs answers (pays key) ∈ T) → Taken room R (pays key) ks xs
        → Sound T (added R ks xs answers (pays key))
    payment_sound key new t =
        let B = the_buyer R ks xs in
        let I = the_initiate R ks xs in
        let J = the_invoice R ks xs in
        let S = seller_at I destination in
        let x = order_mark B I in
        let i = the_one t Initiate (paying key ks t.row_is_complete).0 in
        let j = the_one t Invoice (paying key ks t.row_is_complete).1 in
        let f = facts (pay_claims B I J) t.passed.claimed in
        let made : B ≡ buyer_at I maker = sym (as_part buyer_at f.0) in
        let sent : B ≡ buyer_at I source = sym (as_part buyer_at f.1.0) in
        let from_seller : S ≡ seller_at J source = sym (as_part seller_at f.1.1.1.0) in
        let to_him : B ≡ buyer_at J destination = sym (as_part buyer_at f.1.1.1.1.0) in
        let over : x ≡ mark_at J body = sym (as_part mark_at f.1.1.1.1.1.0) in
        let signer : S ≡ seller_at J invoice_signed = sym (as_part seller_at f.1.1.1.1.1.1.0) in
        let signed : x ≡ mark_at J (invoice_signed + 1) = sym (as_part mark_at f.1.1.1.1.1.1.1.0) in
        let own_so : its_initiate x ≡ relaid Initiate I = λ k. an_initiate (made k) (sent k) S (hashed_at I body) in
        let sent_so : an_invoice (seller_at J maker) S B x (record { signer = S; mark = x }) ≡ relaid Invoice J =
        λ k. an_invoice (seller_at J maker) (from_seller k) (to_him k) (over k) (record { signer = signer k; mark = signed k })
        in
        record {
          kind = Payment;
          laid = refl;
          sent = λ e. e;
          vouched =
              λ h.
              record {
                initiate = grows _ (Memᴰ.cast (own_so ∙ sym i.1) i.0);
                payment = new;
                invoice = (seller_at J maker, grows _ (Memᴰ.cast (sent_so ∙ sym j.1) j.0));
              };
        }

    -- 4: the seller's own Invoice and what it answers, the Auth-Request itself, and the Payment that he was sent
    request_sound : (added R ks xs answers asks ∈ T) → Taken room R asks ks xs → Sound T (added R ks xs answers asks)
    request_sound new t =
        let S = the_seller R ks xs in
        let J = the_invoice R ks xs in
        let P = the_payment R ks xs in
        let x = mark_at J body in
        let y = slip_at P body in
        let j = the_one t Invoice (two_named ks Invoice Payment t.row_is_complete).0 in
        let p = the_one t Payment (two_named ks Invoice Payment t.row_is_complete).1 in
        let f = facts (ask_claims S J P) t.passed.claimed in
        let made : seller_at J maker ≡ S = as_part seller_at f.0 in
        let seller : x.seller ≡ S = as_part seller_at f.1.1.0 in
        let buyer : x.buyer ≡ buyer_at J destination = as_part buyer_at f.1.1.1.0 in
        let from_buyer : x.buyer ≡ buyer_at P source = buyer ∙ sym (as_part buyer_at f.1.1.1.1.0) in
        let to_him : x.seller ≡ seller_at P destination = seller ∙ sym (as_part seller_at f.1.1.1.1.1.0) in
        let signer : x.buyer ≡ buyer_at P payment_signed = buyer ∙ sym (as_part buyer_at f.1.1.1.1.1.1.0) in
        let slip : y ≡ slip_at P (payment_signed + 1) = sym (as_part slip_at f.1.1.1.1.1.1.1.0) in
        let mark : x ≡ mark_at P (payment_signed + 1 + slip_width) = sym (as_part mark_at f.1.1.1.1.1.1.1.1.0) in
        let signed_so : ◌≡◌ {A = BuyerSigned} (record { signer = x.buyer; slip = y; mark = x }) (buyer_signed_at P payment_signed) =
        λ k. record { signer = signer k; slip = slip k; mark = mark k }
        in
        record {
          kind = AuthRequest;
          laid = refl;
          sent = λ e. e;
          vouched = (
            λ h. buyer_grows grows (p.2 h),
            λ h.
                let own = j.2 (λ e. h (sym (ap (λ (s : Seller). s.0) made) ∙ e)) in
                record {
                  invoice = grows _ (Memᴰ.cast (sym own.says) j.0);
                  request = Memᴰ.cast (λ k. request_by (seller k) x y (signed_so k)) new;
                  initiate = (own.initiate.0, grows _ own.initiate.1);
                  payment = (
                    buyer_at P maker,
                    grows _ (Memᴰ.cast ((λ k. a_payment (buyer_at P maker) (from_buyer k) (to_him k) y (signed_so k)) ∙ sym p.1) p.0),
                  );
                },
          );
        }

    -- the outsider copies a buyer's signature from a Payment or an Auth-Request, or makes his own
    copied_buyer : (w : Message) → w ∈ R → has_slip w ≡ true → BuyerVouched T (buyer_signed_in w)
    copied_buyer w m e =
        picked (λ (k : ℕ). BuyerVouched T (buyer_signed_at w k)) (is_kind Payment w) payment_signed request_buyer_signed
        (λ y h. buyer_grows grows ((sound_as R Payment w (sound w m) y).1 h))
        (λ n h. buyer_grows grows ((sound_as R AuthRequest w (sound w m) (other (is_kind Payment w) (is_kind AuthRequest w) e n)).1.0 h))

    forged_buyer : {d : Deed} → Taken room R d ks xs → BuyerVouched T (buyer_signature R ks xs)
    forged_buyer t =
        item_of t (BuyerVouched T) Item.P buyer_signed_in (record { signer = no_buyer; slip = slip R ks xs; mark = mark R ks xs }) copied_buyer
        (λ g h. absurd (h refl))

    forged_seller : {d : Deed} → Taken room R d ks xs → SellerVouched T (request_signature R ks xs)
    forged_seller t =
        item_of t (SellerVouched T) Item.Q request_signed_in (record { signer = no_seller; mark = mark R ks xs; slip = slip R ks xs })
        (λ w m y h. seller_grows grows ((sound_as R AuthRequest w (sound w m) y).1.1 h)) (λ g h. absurd (h refl))

    added_sound : (d : Deed) → (added R ks xs answers d ∈ T) → Taken room R d ks xs → Sound T (added R ks xs answers d)
    added_sound starts new t = record { kind = Initiate; laid = refl; sent = λ e. e; vouched = tt }
    added_sound invoices new t = invoice_sound t
    added_sound (pays key) new t = payment_sound key new t
    added_sound asks new t = request_sound new t
    added_sound replies new t = record { kind = AuthResponse; laid = refl; sent = λ e. e; vouched = tt }
    added_sound (forges Initiate) new t = record { kind = Initiate; laid = refl; sent = λ e. refl; vouched = tt }
    added_sound (forges Invoice) new t = record { kind = Invoice; laid = refl; sent = λ e. refl; vouched = λ h. absurd (h refl) }
    added_sound (forges Payment) new t = record { kind = Payment; laid = refl; sent = λ e. refl; vouched = forged_buyer t }
    added_sound (forges AuthRequest) new t =
        record { kind = AuthRequest; laid = refl; sent = λ e. refl; vouched = (forged_buyer t, forged_seller t) }
    added_sound (forges AuthResponse) new t = record { kind = AuthResponse; laid = refl; sent = λ e. refl; vouched = tt }

step_sound : (room : ℕ) (R : Record) (c : Call) (x : Message) → AllSound R → judge_call room R c ≡ accepted x → AllSound (R ++ (x ∷ []))
step_sound room R c x sound e w m =
    ⊎_elim (λ old. sound_grows (λ y. Memᴰ.append_left (x ∷ [])) w (sound w old))
    (λ new. subst (Sound (R ++ (x ∷ []))) (sym (Memᴰ.eq_of_singleton new)) new_sound) (Memᴰ.append_cases R m)
  where
    new_sound : Sound (R ++ (x ∷ [])) x
    new_sound =
        by_deed c.answers room R c.step x (λ (y : Message). Sound (R ++ (y ∷ [])) y) e
        (λ d ks xs.
        added_sound c.answers room R ks xs sound (R ++ (added R ks xs c.answers d ∷ []))
        (λ y. Memᴰ.append_left (added R ks xs c.answers d ∷ [])) d (Memᴰ.append_right R (Memᴰ.head refl)))

-- every message of a reached record is sound
pub reached_sound : (room : ℕ) (R : Record) → Reached room R → AllSound R
reached_sound room R r = kept_reached room AllSound (step_sound room) R r (λ w m. absurd (Memᴰ.not-nil m))

-- so each has as many numbers as a message
pub reached_full : (room : ℕ) (R : Record) → Reached room R → AllLong message_width R
reached_full room R r w m = let s = reached_sound room R r w m in full_length s.kind w s.laid
