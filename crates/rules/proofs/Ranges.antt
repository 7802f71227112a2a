-- Numbers held to a row of ranges: put together part by part, and read at any position; and each kind of message is lawful when its parts are.
use mathlib.Core.Bool.{true, false≢true}
use mathlib.Core.List.{List, [], ◌∷◌, ◌++◌}
use mathlib.Core.Path.{◌≡◌, refl, ap, subst}
use Prim.Native.Nat.{ℕ, zero, suc, ◌-◌}
use borrow.Author.Tests.{eqb-true}
use lib.Dec.{eqb}
use lib.ListN.{get_or, length, replicate}
use Rattle.messages.proofs.Chain.{left_of, right_of}
use Rattle.lawful.specs.Lawful.{Range, buyer_signed_ranges, buyers, codes, fits, gateways, hashed_ranges, invoice_signed_ranges, kind_ranges, kinds, lawful, mark_ranges, reply_signed_ranges, request_signed_ranges, sellers, slip_ranges, unused, within}
use Rattle.messages.specs.Layout.{a_payment, an_auth_request, an_auth_response, an_initiate, an_invoice, filled, kind_number, kind_of, message_width}
use Rattle.messages.specs.declared.kind.Kind.{Kind}
use Rattle.messages.specs.Parts.{Message, hashed_numbers, mark_numbers, slip_numbers}
use Rattle.messages.specs.Signed.{buyer_signed_numbers, invoice_signed_numbers, reply_signed_numbers, request_signed_numbers}
use Rattle.messages.specs.declared.parts.Buyer.{Buyer}
use Rattle.messages.specs.declared.parts.Gateway.{Gateway}
use Rattle.messages.specs.declared.parts.Hashed.{Hashed}
use Rattle.messages.specs.declared.parts.Mark.{Mark}
use Rattle.messages.specs.declared.parts.Seller.{Seller}
use Rattle.messages.specs.declared.parts.Slip.{Slip}
use Rattle.messages.specs.declared.signed.BuyerSigned.{BuyerSigned}
use Rattle.messages.specs.declared.signed.InvoiceSigned.{InvoiceSigned}
use Rattle.messages.specs.declared.signed.ReplySigned.{ReplySigned}
use Rattle.messages.specs.declared.signed.RequestSigned.{RequestSigned}
use Rattle.rules.proofs.Tests.{both}
use Rattle.rules.specs.Items.{is_kind}

pub fits_append : (rs ss : List Range) (xs ys : List ℕ) → fits rs xs ≡ true → fits ss ys ≡ true → fits (rs ++ ss) (xs ++ ys) ≡ true
fits_append [] ss [] ys p q = q
fits_append [] ss (x ∷ xs) ys p q = absurd (false≢true p)
fits_append (r ∷ rs) ss [] ys p q = absurd (false≢true p)
fits_append (r ∷ rs) ss (x ∷ xs) ys p q =
    both (left_of (within r x) _ p) (fits_append rs ss xs ys (right_of (within r x) _ p) q)

fits_length : (rs : List Range) (xs : List ℕ) → fits rs xs ≡ true → length rs ≡ length xs
fits_length [] [] p = refl
fits_length [] (x ∷ xs) p = absurd (false≢true p)
fits_length (r ∷ rs) [] p = absurd (false≢true p)
fits_length (r ∷ rs) (x ∷ xs) p = ap suc (fits_length rs xs (right_of (within r x) _ p))

fits_unused : (n : ℕ) → fits (replicate n unused) (replicate n 0) ≡ true
fits_unused zero = refl
fits_unused (suc n) = fits_unused n

-- unused positions are 0
pub fits_filled : (n : ℕ) (rs : List Range) (xs : List ℕ) → fits rs xs ≡ true → fits (filled n unused rs) (filled n 0 xs) ≡ true
fits_filled n rs xs p =
    fits_append rs (replicate (n - length rs) unused) xs (replicate (n - length xs) 0) p
    (subst (λ (k : ℕ). fits (replicate (n - length rs) unused) (replicate (n - k) 0) ≡ true) (fits_length rs xs p)
    (fits_unused (n - length rs)))

-- what stands at a position is in the range there; past the end nothing is, and nothing is wanted
pub fits_at : (rs : List Range) (xs : List ℕ) → fits rs xs ≡ true → (i : ℕ) → within (get_or rs i unused) (get_or xs i 0) ≡ true
fits_at [] [] p i = refl
fits_at [] (x ∷ xs) p i = absurd (false≢true p)
fits_at (r ∷ rs) [] p i = absurd (false≢true p)
fits_at (r ∷ rs) (x ∷ xs) p zero = left_of _ _ p
fits_at (r ∷ rs) (x ∷ xs) p (suc i) = fits_at rs xs (right_of (within r x) _ p) i

-- n entries of a list from a position on
abbrev pub entries : {A : Type 0} → A → List A → ℕ → ℕ → List A
entries d xs k zero = []
entries d xs k (suc n) = get_or xs k d ∷ entries d xs (suc k) n

pub fits_part : (rs : List Range) (xs : List ℕ) → fits rs xs ≡ true → (k n : ℕ) → fits (entries unused rs k n) (entries 0 xs k n) ≡ true
fits_part rs xs p k zero = refl
fits_part rs xs p k (suc n) = both (fits_at rs xs p k) (fits_part rs xs p (suc k) n)

-- a lawful message of a kind, at a position and from it on
abbrev pub ranges_of : Kind → List Range
ranges_of k = get_or kind_ranges (kind_number k - 1) []

module _ (k : Kind) (w : Message) (l : lawful w ≡ true) (e : is_kind k w ≡ true) where
  kind_fits : fits (ranges_of k) w ≡ true
  kind_fits =
      subst (λ (j : ℕ). fits (get_or kind_ranges (j - 1) []) w ≡ true) (eqb-true (kind_of w) (kind_number k) e)
      (right_of (eqb (length w) message_width) _ l)

  pub lawful_number : (i : ℕ) → within (get_or (ranges_of k) i unused) (get_or w i 0) ≡ true
  lawful_number = fits_at (ranges_of k) w kind_fits

  pub lawful_part : (i n : ℕ) → fits (entries unused (ranges_of k) i n) (entries 0 w i n) ≡ true
  lawful_part = fits_part (ranges_of k) w kind_fits

-- the parts are in their ranges
abbrev pub Hashed✓ : Hashed → Type 0
Hashed✓ h = fits hashed_ranges (hashed_numbers h) ≡ true

abbrev pub Mark✓ : Mark → Type 0
Mark✓ x = fits mark_ranges (mark_numbers x) ≡ true

abbrev pub Slip✓ : Slip → Type 0
Slip✓ y = fits slip_ranges (slip_numbers y) ≡ true

abbrev pub InvoiceSigned✓ : InvoiceSigned → Type 0
InvoiceSigned✓ v = fits invoice_signed_ranges (invoice_signed_numbers v) ≡ true

abbrev pub BuyerSigned✓ : BuyerSigned → Type 0
BuyerSigned✓ p = fits buyer_signed_ranges (buyer_signed_numbers p) ≡ true

abbrev pub RequestSigned✓ : RequestSigned → Type 0
RequestSigned✓ q = fits request_signed_ranges (request_signed_numbers q) ≡ true

abbrev pub ReplySigned✓ : ReplySigned → Type 0
ReplySigned✓ g = fits reply_signed_ranges (reply_signed_numbers g) ≡ true

-- each kind: maker, source, destination, parts
pub lawful_initiate : (by from : Buyer) (to : Seller) (h : Hashed) → within buyers by.0 ≡ true → within buyers from.0 ≡ true
    → within sellers to.0 ≡ true → Hashed✓ h → lawful (an_initiate by from to h) ≡ true
lawful_initiate by from to h b f t e =
    fits_filled message_width (kinds ∷ buyers ∷ buyers ∷ sellers ∷ hashed_ranges) (1 ∷ by.0 ∷ from.0 ∷ to.0 ∷ hashed_numbers h)
    (both b (both f (both t e)))

pub lawful_invoice : (by from : Seller) (to : Buyer) (x : Mark) (v : InvoiceSigned) → within sellers by.0 ≡ true
    → within sellers from.0 ≡ true → within buyers to.0 ≡ true → Mark✓ x → InvoiceSigned✓ v
    → lawful (an_invoice by from to x v) ≡ true
lawful_invoice by from to x v b f t e s =
    fits_filled message_width (kinds ∷ sellers ∷ sellers ∷ buyers ∷ (mark_ranges ++ invoice_signed_ranges))
    (2 ∷ by.0 ∷ from.0 ∷ to.0 ∷ (mark_numbers x ++ invoice_signed_numbers v))
    (both b (both f (both t (fits_append mark_ranges invoice_signed_ranges (mark_numbers x) (invoice_signed_numbers v) e s))))

pub lawful_payment : (by from : Buyer) (to : Seller) (y : Slip) (p : BuyerSigned) → within buyers by.0 ≡ true
    → within buyers from.0 ≡ true → within sellers to.0 ≡ true → Slip✓ y → BuyerSigned✓ p → lawful (a_payment by from to y p) ≡ true
lawful_payment by from to y p b f t e s =
    fits_filled message_width (kinds ∷ buyers ∷ buyers ∷ sellers ∷ (slip_ranges ++ buyer_signed_ranges))
    (3 ∷ by.0 ∷ from.0 ∷ to.0 ∷ (slip_numbers y ++ buyer_signed_numbers p))
    (both b (both f (both t (fits_append slip_ranges buyer_signed_ranges (slip_numbers y) (buyer_signed_numbers p) e s))))

pub lawful_request : (by from : Seller) (to : Gateway) (x : Mark) (y : Slip) (q : RequestSigned) (p : BuyerSigned)
    → within sellers by.0 ≡ true → within sellers from.0 ≡ true → within gateways to.0 ≡ true → Mark✓ x → Slip✓ y
    → RequestSigned✓ q → BuyerSigned✓ p → lawful (an_auth_request by from to x y q p) ≡ true
lawful_request by from to x y q p b f t e s sq sp =
    let mark_slip = mark_ranges ++ slip_ranges in
    fits_filled message_width (kinds ∷ sellers ∷ sellers ∷ gateways ∷ (mark_slip ++ request_signed_ranges ++ buyer_signed_ranges))
    (4 ∷ by.0 ∷ from.0 ∷ to.0 ∷ (mark_numbers x ++ slip_numbers y ++ request_signed_numbers q ++ buyer_signed_numbers p))
    (both b
    (both f
    (both t
    (fits_append (mark_slip ++ request_signed_ranges) buyer_signed_ranges (mark_numbers x ++ slip_numbers y ++ request_signed_numbers q) (buyer_signed_numbers p)
    (fits_append mark_slip request_signed_ranges (mark_numbers x ++ slip_numbers y) (request_signed_numbers q)
    (fits_append mark_ranges slip_ranges (mark_numbers x) (slip_numbers y) e s) sq)
    sp))))

pub lawful_reply : (by from : Gateway) (to : Seller) (c : ℕ) (g : ReplySigned) → within gateways by.0 ≡ true
    → within gateways from.0 ≡ true → within sellers to.0 ≡ true → within codes c ≡ true → ReplySigned✓ g
    → lawful (an_auth_response by from to c g) ≡ true
lawful_reply by from to c g b f t e s =
    fits_filled message_width (kinds ∷ gateways ∷ gateways ∷ sellers ∷ codes ∷ reply_signed_ranges)
    (5 ∷ by.0 ∷ from.0 ∷ to.0 ∷ c ∷ reply_signed_numbers g) (both b (both f (both t (both e s))))
