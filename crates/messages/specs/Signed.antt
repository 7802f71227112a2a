-- The four signatures, as document 01 lays them out: their widths, how each is read at a position of a message (`..At`), and
-- its numbers in order (`..Numbers`).
use Rattle.std.specs.Prelude.{ℕ, ◌+◌, List, ◌∷◌, ◌++◌, get_or}
use Rattle.messages.specs.Parts.{
  Message,
  buyer_at,
  gateway_at,
  mark_at,
  mark_numbers,
  mark_width,
  seller_at,
  slip_at,
  slip_numbers,
  slip_width,
}
use Rattle.messages.specs.declared.signed.BuyerSigned.{BuyerSigned}
use Rattle.messages.specs.declared.signed.InvoiceSigned.{InvoiceSigned}
use Rattle.messages.specs.declared.signed.ReplySigned.{ReplySigned}
use Rattle.messages.specs.declared.signed.RequestSigned.{RequestSigned}

abbrev pub invoice_signed_width : ℕ
invoice_signed_width = 1 + mark_width

abbrev pub buyer_signed_width : ℕ
buyer_signed_width = 1 + slip_width + mark_width

abbrev pub request_signed_width : ℕ
request_signed_width = 1 + mark_width + slip_width

abbrev pub reply_signed_width : ℕ
reply_signed_width = 2 + mark_width

-- an Invoice's: signer, signed mark
abbrev pub invoice_signed_at : Message → ℕ → InvoiceSigned
invoice_signed_at m k = record { signer = seller_at m k; mark = mark_at m (k + 1) }

abbrev pub invoice_signed_numbers : InvoiceSigned → List ℕ
invoice_signed_numbers v = v.signer.0 ∷ mark_numbers v.mark

-- a buyer's: signer, signed slip, signed mark
abbrev pub buyer_signed_at : Message → ℕ → BuyerSigned
buyer_signed_at m k = record { signer = buyer_at m k; slip = slip_at m (k + 1); mark = mark_at m (k + 1 + slip_width) }

abbrev pub buyer_signed_numbers : BuyerSigned → List ℕ
buyer_signed_numbers p = p.signer.0 ∷ (slip_numbers p.slip ++ mark_numbers p.mark)

-- a seller's on a request: signer, mark, slip
abbrev pub request_signed_at : Message → ℕ → RequestSigned
request_signed_at m k = record { signer = seller_at m k; mark = mark_at m (k + 1); slip = slip_at m (k + 1 + mark_width) }

abbrev pub request_signed_numbers : RequestSigned → List ℕ
request_signed_numbers q = q.signer.0 ∷ (mark_numbers q.mark ++ slip_numbers q.slip)

-- a gateway's: signer, signed code, signed mark
abbrev pub reply_signed_at : Message → ℕ → ReplySigned
reply_signed_at m k = record { signer = gateway_at m k; code = get_or m (k + 1) 0; mark = mark_at m (k + 2) }

abbrev pub reply_signed_numbers : ReplySigned → List ℕ
reply_signed_numbers g = g.signer.0 ∷ g.code ∷ mark_numbers g.mark
