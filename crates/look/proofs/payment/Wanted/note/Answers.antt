-- `look::payment::Wanted::note` meets its promise.
use Rattle.std.proofs.Common.{ap}
use Rattle.look.proofs.Standing.{one_more}
use Rattle.look.specs.declared.look.Seen.{Seen}
use Rattle.look.proofs.payment.Wanted.note.Goals as goal

pub returns : goal.returns
returns c =
    λ R p.
    let m = c.args.m.now in
    let initiated = one_more _ R m (ap (λ (s : Seen). s.initiated) p) c.eq.ensures c.as_slice.ensures in
    let invoiced = one_more _ R m (ap (λ (s : Seen). s.invoiced) p) c.eq-2.ensures c.as_slice-2.ensures in
    let paid = one_more _ R m (ap (λ (s : Seen). s.paid) p) c.eq-3.ensures c.as_slice-3.ensures in
    let asked = one_more _ R m (ap (λ (s : Seen). s.asked) p) c.eq-4.ensures c.as_slice-4.ensures in
    λ i. record { initiated = initiated i; invoiced = invoiced i; paid = paid i; asked = asked i }
