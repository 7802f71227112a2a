-- A message after a part or a signature was written into it at a position.
use Rattle.std.specs.Prelude.{ℕ, ◌+◌, set}
use Rattle.messages.specs.Parts.{Message, drawn_width, mark_width, slip_width}
use Rattle.messages.specs.declared.parts.Drawn.{Drawn}
use Rattle.messages.specs.declared.parts.Hashed.{Hashed}
use Rattle.messages.specs.declared.parts.Mark.{Mark}
use Rattle.messages.specs.declared.parts.Slip.{Slip}
use Rattle.messages.specs.declared.signed.BuyerSigned.{BuyerSigned}
use Rattle.messages.specs.declared.signed.InvoiceSigned.{InvoiceSigned}
use Rattle.messages.specs.declared.signed.ReplySigned.{ReplySigned}
use Rattle.messages.specs.declared.signed.RequestSigned.{RequestSigned}

abbrev pub put_drawn : Message → ℕ → Drawn → Message
put_drawn m k x = set (set m k x.drawer.0) (k + 1) x.draw

abbrev pub put_hashed : Message → ℕ → Hashed → Message
put_hashed m k x = set (put_drawn m k x.drawn) (k + drawn_width) x.account.0

abbrev pub put_mark : Message → ℕ → Mark → Message
put_mark m k x = put_hashed (set (set m k x.seller.0) (k + 1) x.buyer.0) (k + 2) x.hashed

abbrev pub put_slip : Message → ℕ → Slip → Message
put_slip m k x =
    put_drawn (set (put_mark (set m k x.key.0) (k + 1) x.mark) (k + 1 + mark_width) x.account.0) (k + 1 + mark_width + 1) x.drawn

abbrev pub put_invoice_signed : Message → ℕ → InvoiceSigned → Message
put_invoice_signed m k x = put_mark (set m k x.signer.0) (k + 1) x.mark

abbrev pub put_buyer_signed : Message → ℕ → BuyerSigned → Message
put_buyer_signed m k x = put_mark (put_slip (set m k x.signer.0) (k + 1) x.slip) (k + 1 + slip_width) x.mark

abbrev pub put_request_signed : Message → ℕ → RequestSigned → Message
put_request_signed m k x = put_slip (put_mark (set m k x.signer.0) (k + 1) x.mark) (k + 1 + mark_width) x.slip

abbrev pub put_reply_signed : Message → ℕ → ReplySigned → Message
put_reply_signed m k x = put_mark (set (set m k x.signer.0) (k + 1) x.code) (k + 2) x.mark
