-- `forged::added::forge_initiate` meets its promise.
use mathlib.Core.Path.{◌∙◌}
use Rattle.messages.specs.Layout.{an_initiate}
use Rattle.rules.specs.Forged.{no_buyer}
use Rattle.forged.specs.Outside.{forged_in, gathered_in}
use Rattle.forged.proofs.added.forge_initiate.Goals as goal

pub returns : goal.returns
unfolding forged_in gathered_in
returns c = λ n ready. c.initiate.ensures ∙ (λ i. an_initiate no_buyer (c.gather-g.ensures n ready i).buyer (c.gather-g.ensures n ready i).seller (c.gather-g.ensures n ready i).hashed)
