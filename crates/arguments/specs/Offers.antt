-- What an argument asks of the message at its place.
use Rattle.std.specs.Prelude.{Bool, false, ◌||◌, List, [], ◌∷◌, ℕ, ◌+◌, ◌^◌, eqb}
use Rattle.messages.specs.Layout.{kind_number}
use Rattle.messages.specs.Parts.{Message}
use Rattle.messages.specs.declared.kind.Kind.{Kind}
use Rattle.messages.specs.declared.kind.Kind.TheVariants.{AuthRequest, AuthResponse, Initiate, Invoice, Payment}
use Rattle.rules.specs.Items.{is_kind, readable, yields}
use Rattle.rules.specs.declared.codes.Argument.{Argument}
use Rattle.rules.specs.declared.codes.Item.{Item}

-- what is no place is at none
abbrev pub offers : Argument → Message → Bool
offers Argument.Unused x = false
offers Argument.B x = false
offers Argument.S x = false
offers Argument.C x = false
offers Argument.A x = readable x
offers (Argument.The k) x = is_kind k x
offers (Argument.At i) x = yields i x

-- the kinds of message in which an item may stand
abbrev pub kinds_of : Item → List Kind
kinds_of Item.H = Initiate ∷ []
kinds_of Item.M = Invoice ∷ AuthRequest ∷ []
kinds_of Item.E = Payment ∷ AuthRequest ∷ []
kinds_of Item.R = Initiate ∷ Payment ∷ AuthRequest ∷ []
kinds_of Item.V = Invoice ∷ []
kinds_of Item.Q = AuthRequest ∷ []
kinds_of Item.P = Payment ∷ AuthRequest ∷ []
kinds_of Item.G = AuthResponse ∷ []

-- as one number: bit k is set for the kind with number k
abbrev pub bits : List Kind → ℕ
bits [] = 0
bits (k ∷ ks) = 2 ^ kind_number k + bits ks

-- whether the kind with this number is one of these
abbrev pub among : List Kind → ℕ → Bool
among [] z = false
among (k ∷ []) z = eqb z (kind_number k)
among (k ∷ j ∷ ks) z = eqb z (kind_number k) || among (j ∷ ks) z
