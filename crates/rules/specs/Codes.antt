-- The tables of steps, document 01's two and what 02 adds to them: for each of the 38 codes what is done and which arguments it takes, in
-- order.
use Rattle.std.specs.Prelude.{ℕ, ◌-◌, Bool, ◌&&◌, List, [], ◌∷◌, leb, get_or, length}
use Rattle.messages.specs.Layout.{filled}
use Rattle.messages.specs.declared.kind.Kind.{Kind}
use Rattle.messages.specs.declared.kind.Kind.TheVariants.{AuthRequest, AuthResponse, Initiate, Invoice, Payment}
use Rattle.messages.specs.declared.parts.Gateway.{Gateway}
use Rattle.rules.specs.Honest.{false_gateway, house}
use Rattle.rules.specs.declared.codes.Argument.{Argument}
use Rattle.rules.specs.declared.codes.Argument.TheVariants.{A, At, B, C, S, The, Unused}
use Rattle.rules.specs.declared.codes.Item.{Item}
use Rattle.rules.specs.declared.codes.Item.TheVariants.{E, G, H, M, P, Q, R, V}

-- what a step does: a buyer pays with a slip under the key of a gateway, the outsider forges a message of a kind
pub data Deed : Type 0 where
  starts invoices asks replies : Deed
  pays : Gateway → Deed
  forges : Kind → Deed

pub record Row : Type 0 where
  pub deed : Deed
  pub takes : List Argument

-- six arguments: those that a row does not name are unused
abbrev pub row : Deed → List Argument → Row
row d ks = record { deed = d; takes = filled 6 Unused ks }

abbrev pub rows : List Row
rows =
    -- 1 to 5: honest steps
    row starts (B ∷ S ∷ [])
    ∷ row invoices (S ∷ The Initiate ∷ [])
    ∷ row (pays house) (B ∷ The Initiate ∷ The Invoice ∷ [])
    ∷ row asks (S ∷ The Invoice ∷ The Payment ∷ [])
    ∷ row replies (The AuthRequest ∷ [])
    -- 6 and 7: forged Initiates
    ∷ row (forges Initiate) (B ∷ S ∷ At H ∷ [])
    ∷ row (forges Initiate) (S ∷ A ∷ At R ∷ [])
    -- 8 to 13: forged Invoices
    ∷ row (forges Invoice) (S ∷ B ∷ At M ∷ At V ∷ [])
    ∷ row (forges Invoice) (S ∷ B ∷ At H ∷ At V ∷ [])
    ∷ row (forges Invoice) (S ∷ A ∷ At R ∷ At V ∷ [])
    ∷ row (forges Invoice) (S ∷ B ∷ At M ∷ [])
    ∷ row (forges Invoice) (S ∷ B ∷ At H ∷ [])
    ∷ row (forges Invoice) (S ∷ A ∷ At R ∷ [])
    -- 14 to 21: forged Payments
    ∷ row (forges Payment) (B ∷ S ∷ At E ∷ At P ∷ [])
    ∷ row (forges Payment) (S ∷ A ∷ At R ∷ At M ∷ At P ∷ [])
    ∷ row (forges Payment) (S ∷ A ∷ At R ∷ At P ∷ [])
    ∷ row (forges Payment) (B ∷ S ∷ At E ∷ At M ∷ [])
    ∷ row (forges Payment) (B ∷ S ∷ At E ∷ At H ∷ [])
    ∷ row (forges Payment) (S ∷ At E ∷ A ∷ At R ∷ [])
    ∷ row (forges Payment) (S ∷ A ∷ At R ∷ At M ∷ [])
    ∷ row (forges Payment) (S ∷ A ∷ At R ∷ [])
    -- 22 to 33: forged Auth-Requests
    ∷ row (forges AuthRequest) (S ∷ At M ∷ At E ∷ At Q ∷ At P ∷ [])
    ∷ row (forges AuthRequest) (S ∷ B ∷ At H ∷ At E ∷ At Q ∷ At P ∷ [])
    ∷ row (forges AuthRequest) (S ∷ A ∷ At R ∷ At Q ∷ At P ∷ [])
    ∷ row (forges AuthRequest) (S ∷ At M ∷ At E ∷ At P ∷ [])
    ∷ row (forges AuthRequest) (S ∷ B ∷ At H ∷ At E ∷ At P ∷ [])
    ∷ row (forges AuthRequest) (S ∷ A ∷ At R ∷ At P ∷ [])
    ∷ row (forges AuthRequest) (S ∷ At M ∷ At E ∷ At Q ∷ [])
    ∷ row (forges AuthRequest) (S ∷ B ∷ At H ∷ At E ∷ At Q ∷ [])
    ∷ row (forges AuthRequest) (S ∷ A ∷ At R ∷ At Q ∷ [])
    ∷ row (forges AuthRequest) (S ∷ At M ∷ At E ∷ [])
    ∷ row (forges AuthRequest) (S ∷ B ∷ At H ∷ At E ∷ [])
    ∷ row (forges AuthRequest) (S ∷ A ∷ At R ∷ [])
    -- 34 to 37: forged Auth-Responses
    ∷ row (forges AuthResponse) (S ∷ C ∷ At G ∷ [])
    ∷ row (forges AuthResponse) (S ∷ C ∷ At M ∷ [])
    ∷ row (forges AuthResponse) (S ∷ B ∷ C ∷ At H ∷ [])
    ∷ row (forges AuthResponse) (S ∷ C ∷ A ∷ At R ∷ [])
    -- 38, for a buyer who was sent to the false gateway: as step 3, but the slip is under key 0
    ∷ row (pays false_gateway) (B ∷ The Initiate ∷ The Invoice ∷ [])
    ∷ []

-- codes count from 1, and there are as many as rows
abbrev pub most_code : ℕ
most_code = length rows

abbrev pub known : ℕ → Bool
known code = leb 1 code && leb code most_code

-- the row of a code
abbrev pub row_of : ℕ → Row
row_of code = get_or rows (code - 1) (row starts [])

-- a letter for each argument, by which arguments are compared
abbrev pub item_letter : Item → ℕ
item_letter H = 104
item_letter M = 109
item_letter E = 101
item_letter R = 114
item_letter V = 118
item_letter Q = 113
item_letter P = 112
item_letter G = 103

abbrev pub kind_letter : Kind → ℕ
kind_letter Initiate = 73
kind_letter Invoice = 86
kind_letter Payment = 80
kind_letter AuthRequest = 81
kind_letter AuthResponse = 82

abbrev pub letter : Argument → ℕ
letter Unused = 45
letter B = 66
letter S = 83
letter C = 99
letter A = 97
letter (The k) = kind_letter k
letter (At i) = item_letter i
