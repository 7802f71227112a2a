-- Every honest session is accepted and its reply reported, with any other calls between its own, if there is room at each of the five: what a
-- step added keeps its place, and each of the five finds in the session's messages what it wants.
use mathlib.Core.Bool.{true}
use mathlib.Core.List.Memᴰ
use mathlib.Core.List.{List, [], ◌∷◌, ◌++◌}
use mathlib.Core.Path.{◌≡◌, ◌∙◌, refl, sym, ap, ap₂, subst}
use Prim.Native.Nat.{ℕ, ◌+◌, ◌-◌}
use lib.ListN.{get_or-append, length, length-append}
use lib.Seq.{get_or_at, take_at}
use native.Mathlib.Omega.{arith}
use Rattle.messages.proofs.Chain.{bounds, inside}
use Rattle.lawful.specs.Lawful.{buyers, sellers, within}
use Rattle.messages.specs.declared.kind.Kind.TheVariants.{AuthRequest, Initiate, Invoice, Payment}
use Rattle.messages.specs.Parts.{Message}
use Rattle.record.specs.Table.{Record, message_at}
use Rattle.messages.specs.Tests.{all, between}
use Rattle.messages.specs.declared.parts.Buyer.{Buyer}
use Rattle.messages.specs.declared.parts.Mark.{Mark}
use Rattle.messages.specs.declared.parts.Place.{Place}
use Rattle.messages.specs.declared.parts.Seller.{Seller}
use Rattle.rules.proofs.Accepted.{Accepted, accepts}
use Rattle.rules.proofs.Claims.{claimed}
use Rattle.rules.proofs.Deeds.{member_place}
use Rattle.rules.proofs.Reached.{grown}
use Rattle.rules.proofs.Reports.{agreed_report}
use Rattle.rules.proofs.Tests.{both}
use Rattle.rules.specs.Agreed.{Agreed, Reported, ◌∈◌}
use Rattle.rules.specs.Honest.{ask_claims, asked, holds, house, invoice_claims, invoiced, paid, pay_claims, replied, reply_claims}
use Rattle.rules.specs.Items.{is_kind}
use Rattle.rules.specs.Report.{earlier, its_initiate, its_invoice, its_payment, its_request, reply_mark, report_on}
use Rattle.rules.specs.Run.{Call, called, judge_call}
use Rattle.rules.specs.Session.{Completed, R2, R3, R4, R5, R6, RoomAtEach, Setting, place1, place2, place3, place4, place5, session_mark, session_reply, step1, step2, step3, step4, step5}
use Rattle.rules.specs.Step.{accepted, new_place, record_after}
use Rattle.rules.specs.Theorems.{Sessions, SessionsReached}

-- a message has its place in a record
pub record Placed (R : Record) (p : Place) (x : Message) : Type 0 where
  pub message : message_at R p ≡ x
  pub inside : between 1 p.0 (length R) ≡ true

placed_member : {R : Record} {p : Place} {x : Message} → Placed R p x → x ∈ R
placed_member {R} {p} h = Memᴰ.cast (sym h.message) (member_place R p.0 h.inside)

placed_in_lem : (R rest : Record) (p : Place) (x : Message) → Placed R p x → Placed (R ++ rest) p x
placed_in_lem R rest p x h =
    let b = bounds 1 p.0 (length R) h.inside in
    record {
      message = get_or-append R rest [] (p.0 - 1) (omega arith) ∙ h.message;
      inside = inside b.0 (omega (arith, length-append R rest));
    }

placed_end : (R : Record) (x : Message) → Placed (R ++ (x ∷ [])) (new_place R) x
placed_end R x =
    record {
      message = get_or_at R x [] [] (length R + 1 - 1) (omega arith);
      inside = inside {l = 1} {x = length R + 1} (omega arith) (omega (arith, length-append R (x ∷ [])));
    }

module _ (room : ℕ) where
  placed_later : {R : Record} {p : Place} {x : Message} (cs : List Call) → Placed R p x → Placed (called room R cs) p x
  placed_later {R} {p} {x} cs h =
      let more = grown room R cs in
      subst (λ (T : Record). Placed T p x) (sym more.1) (placed_in_lem R more.0 p x h)

  pub placed_new : (R : Record) (c : Call) (x : Message) (cs : List Call) → judge_call room R c ≡ accepted x
      → Placed (called room R (c ∷ cs)) (new_place R) x
  unfolding called
  placed_new R c x cs e =
      subst (λ (T : Record). Placed (called room T cs) (new_place R) x) (sym (ap (record_after R) e)) (placed_later cs (placed_end R x))

module _ (c : Setting) (buyer✓ : within buyers c.buyer.0 ≡ true) (seller✓ : within sellers c.seller.0 ≡ true) (room : RoomAtEach c) where
  abbrev B : Buyer
  B = c.buyer

  abbrev S : Seller
  S = c.seller

  abbrev x : Mark
  x = session_mark c

  takes : (R : Record) (s : Call) (y : Message) → Accepted s.answers c.room R s.step y → judge_call c.room R s ≡ accepted y
  takes R s = accepts s.answers c.room R s.step

  new : (R : Record) (s : Call) (y : Message) (cs : List Call) → judge_call c.room R s ≡ accepted y
      → Placed (called c.room R (s ∷ cs)) (new_place R) y
  new = placed_new c.room

  stays : {R : Record} {p : Place} {y : Message} (cs : List Call) → Placed R p y → Placed (called c.room R cs) p y
  stays = placed_later c.room

  -- each step on the record that it meets, with the messages that it names
  accepted1 : judge_call c.room c.start (step1 c) ≡ accepted (its_initiate x)
  accepted1 =
      takes c.start (step1 c) (its_initiate x)
      (record {
        coded = refl;
        passed = record { ranged = both buyer✓ (both seller✓ refl); places = refl; held = refl; claimed = refl; roomy = room.at1 };
        message = refl;
      })

  initiate2 : Placed (R2 c) (place1 c) (its_initiate x)
  initiate2 = new c.start (step1 c) (its_initiate x) c.after1 accepted1

  accepted2 : judge_call c.room (R2 c) (step2 c) ≡ accepted (its_invoice x)
  accepted2 =
      takes (R2 c) (step2 c) (its_invoice x)
      (record {
        coded = refl;
        passed =
            record {
              ranged = both seller✓ refl;
              places = both initiate2.inside refl;
              held = both (ap (is_kind Initiate) initiate2.message) refl;
              claimed =
                  ap (λ (i : Message). all holds (invoice_claims S i)) initiate2.message
                  ∙ claimed (invoice_claims S (its_initiate x)) (refl, tt);
              roomy = room.at2;
            };
        message = ap (invoiced S) (sym initiate2.message);
      })

  initiate3 : Placed (R3 c) (place1 c) (its_initiate x)
  initiate3 = stays (step2 c ∷ c.after2) initiate2

  invoice3 : Placed (R3 c) (place2 c) (its_invoice x)
  invoice3 = new (R2 c) (step2 c) (its_invoice x) c.after2 accepted2

  accepted3 : judge_call c.room (R3 c) (step3 c) ≡ accepted (its_payment x)
  accepted3 =
      takes (R3 c) (step3 c) (its_payment x)
      (record {
        coded = refl;
        passed =
            record {
              ranged = both buyer✓ refl;
              places = both initiate3.inside (both invoice3.inside refl);
              held = both (ap (is_kind Initiate) initiate3.message) (both (ap (is_kind Invoice) invoice3.message) refl);
              claimed =
                  ap₂ (λ (i j : Message). all holds (pay_claims B i j)) initiate3.message invoice3.message
                  ∙ claimed (pay_claims B (its_initiate x) (its_invoice x)) (refl, (refl, (refl, (refl, (refl, (refl, (refl, (refl, tt))))))));
              roomy = room.at3;
            };
        message = ap (paid house B) (sym initiate3.message);
      })

  invoice4 : Placed (R4 c) (place2 c) (its_invoice x)
  invoice4 = stays (step3 c ∷ c.after3) invoice3

  payment4 : Placed (R4 c) (place3 c) (its_payment x)
  payment4 = new (R3 c) (step3 c) (its_payment x) c.after3 accepted3

  accepted4 : judge_call c.room (R4 c) (step4 c) ≡ accepted (its_request x)
  accepted4 =
      takes (R4 c) (step4 c) (its_request x)
      (record {
        coded = refl;
        passed =
            record {
              ranged = both seller✓ refl;
              places = both invoice4.inside (both payment4.inside refl);
              held = both (ap (is_kind Invoice) invoice4.message) (both (ap (is_kind Payment) payment4.message) refl);
              claimed =
                  ap₂ (λ (j p : Message). all holds (ask_claims S j p)) invoice4.message payment4.message
                  ∙ claimed (ask_claims S (its_invoice x) (its_payment x))
                  (refl, (refl, (refl, (refl, (refl, (refl, (refl, (refl, (refl, tt)))))))));
              roomy = room.at4;
            };
        message = ap₂ (asked S) (sym invoice4.message) (sym payment4.message);
      })

  request5 : Placed (R5 c) (place4 c) (its_request x)
  request5 = new (R4 c) (step4 c) (its_request x) c.after4 accepted4

  accepted5 : judge_call c.room (R5 c) (step5 c) ≡ accepted (session_reply c)
  accepted5 =
      takes (R5 c) (step5 c) (session_reply c)
      (record {
        coded = refl;
        passed =
            record {
              ranged = refl;
              places = both request5.inside refl;
              held = both (ap (is_kind AuthRequest) request5.message) refl;
              claimed =
                  ap (λ (q : Message). all holds (reply_claims q)) request5.message
                  ∙ claimed (reply_claims (its_request x)) (refl, (refl, (refl, (refl, (refl, (refl, (refl, (refl, (refl, (refl, tt))))))))));
              roomy = room.at5;
            };
        message = ap (replied (c.answers 5)) (sym request5.message);
      })

  agreed5 : Agreed x (R5 c)
  agreed5 =
      let l3 = step3 c ∷ c.after3 in
      let l4 = step4 c ∷ c.after4 in
      record {
        account = refl;
        initiate = placed_member (stays l4 (stays l3 initiate3));
        invoice = placed_member (stays l4 invoice4);
        payment = placed_member (stays l4 payment4);
        request = placed_member request5;
      }

  -- whatever is played afterwards, the reply and what is earlier than it stay
  reply6 : (after5 : List Call) → Placed (R6 c after5) (place5 c) (session_reply c)
  reply6 after5 = new (R5 c) (step5 c) (session_reply c) after5 accepted5

  earlier5 : (after5 : List Call) → earlier (R6 c after5) (place5 c) ≡ R5 c
  earlier5 after5 =
      let more = grown c.room (R5 c) (step5 c ∷ after5) in
      ap (λ (R : Record). earlier R (place5 c)) more.1 ∙ take_at (R5 c) more.0 (length (R5 c) + 1 - 1) (omega arith)

  pub completed : Completed c
  completed =
      record {
        starts = accepted1;
        invoices = accepted2;
        pays = accepted3;
        asks = accepted4;
        replies = accepted5;
        reply = λ after5. (reply6 after5).message;
        reported =
            λ after5.
            subst (Reported x)
            (sym (ap₂ report_on (earlier5 after5) (ap reply_mark (reply6 after5).message)))
            (agreed_report (R5 c) x (λ n. agreed5));
      }

pub sessions : Sessions
sessions c buyer✓ seller✓ room = completed c buyer✓ seller✓ room

pub sessions_reached : SessionsReached
sessions_reached c reached buyer✓ seller✓ room = sessions c buyer✓ seller✓ room
