-- The flat table and the list of pieces that is cut from it: the one bridge between code, which has the table, and definitions, which
-- speak of the list.
use mathlib.Core.Bool.{Bool, true, ◌&&◌}
use mathlib.Core.List.{List, [], ◌∷◌, ◌++◌, append_assoc, append-nil}
use mathlib.Core.Path.{◌≡◌, ◌∙◌, refl, sym, ap, ap₂}
use Prim.Native.Nat.{ℕ, zero, suc, ◌+◌, ◌*◌, ◌-◌, ◌≤◌, ◌<◌}
use native.Mathlib.Nat.{add_comm, add-zero, le_of_eq, le_of_suc-le-suc, not-suc-le-zero, suc-add, suc-mul, zero-add, zero-mul}
use native.Mathlib.Numerals.{add-one}
use native.Mathlib.Omega.{arith}
use lib.ListN.{drop, drop_of_length-le, get_or, length, length-append, length-drop, length-take, take, take-append-drop}
use lib.Seq.{drop-append-le, drop-cons, drop-drop, length-take-le, take-append-le, take_at}
use Rattle.std.specs.List.{list_all, range_with_len}
use Rattle.messages.specs.Layout.{message_width}
use Rattle.messages.specs.Parts.{Message}
use Rattle.record.specs.Table.{Record, cut, message_at, message_in, messages, with_message}
use Rattle.messages.specs.Tests.{all}
use Rattle.messages.specs.declared.parts.Place.{Place}

pub length_cut : (w n : ℕ) (t : List ℕ) → length (cut w n t) ≡ n
length_cut w zero t = refl
length_cut w (suc n) t = ap suc (length_cut w n (drop w t))

-- piece k of the list is what stands at k * w of the table
pub cut_at : (w n : ℕ) (t : List ℕ) (k : ℕ) → k < n → get_or (cut w n t) k [] ≡ take w (drop (k * w) t)
cut_at w zero t k h = absurd (not-suc-le-zero h)
cut_at w (suc n) t zero h = ap (λ (j : ℕ). take w (drop j t)) (sym (zero-mul w))
cut_at w (suc n) t (suc k) h =
    cut_at w n (drop w t) k (le_of_suc-le-suc h)
    ∙ ap (take w) (drop-drop (k * w) w t ∙ ap (λ (j : ℕ). drop j t) (add_comm w (k * w) ∙ sym (suc-mul k w)))

pub message_at_lem : (n : ℕ) (t : List ℕ) (p : Place) → 1 ≤ p.0 → p.0 ≤ n → message_at (messages n t) p ≡ message_in t p
message_at_lem n t p h l = cut_at message_width n t (p.0 - 1) (omega arith)

-- one element further in a test of all
pub all_from : {A : Type 0} (f : A → Bool) (xs : List A) (d : A) (i : ℕ) → i < length xs
    → all f (drop i xs) ≡ (f (get_or xs i d) && all f (drop (i + 1) xs))
all_from f xs d i h =
    ap (all f) (drop-cons xs i d h) ∙ ap (λ (k : ℕ). f (get_or xs i d) && all f (drop k xs)) (sym (add-one i))

-- a test of each of messages 1 to n, from place i + 1 on: r is its answer for the message there
pub test_next : (f : Message → Bool) (n : ℕ) (t : List ℕ) (i : ℕ) (r : Bool) {m : Message} → i < n → m ≡ message_in t (record { 0 = i + 1 })
    → r ≡ f m → all f (drop i (messages n t)) ≡ (r && all f (drop (i + 1) (messages n t)))
test_next f n t i r h e p =
    let k : i ≡ i + 1 - 1 = omega arith in
    all_from f (messages n t) [] i (omega (arith, length_cut message_width n t))
    ∙ ap (λ (b : Bool). b && all f (drop (i + 1) (messages n t)))
    (ap f (cut_at message_width n t i h ∙ ap (λ (j : ℕ). take message_width (drop (j * message_width) t)) k ∙ sym e) ∙ sym p)

-- the same test over the places themselves
pub test_each : (f : Message → Bool) (n : ℕ) (t : List ℕ)
    → list_all (λ (p : ℕ). f (message_in t (record { 0 = p + 1 }))) (range_with_len 0 n) ≡ all f (messages n t)
test_each f n t = from 0 n ∙ ap (λ (k : ℕ). all f (messages n (drop k t))) (zero-mul message_width)
  where
    from : (i n : ℕ) → list_all (λ (p : ℕ). f (message_in t (record { 0 = p + 1 }))) (range_with_len i n) ≡ all f (messages n (drop (i * message_width) t))
    from i zero = refl
    from i (suc n) =
        let k : i + 1 - 1 ≡ i = omega arith in
        let e : i * message_width + message_width ≡ (i + 1) * message_width = omega arith in
        ap₂ ◌&&◌ (ap (λ (j : ℕ). f (take message_width (drop (j * message_width) t))) k)
        (from (i + 1) n
        ∙ ap (λ (u : List ℕ). all f (messages n u)) (ap (λ (j : ℕ). drop j t) (sym e) ∙ sym (drop-drop message_width (i * message_width) t)))

pub test_over : (f : Message → Bool) (n : ℕ) (t : List ℕ) (i : ℕ) → i ≡ n → all f (drop i (messages n t)) ≡ true
test_over f n t i e = ap (all f) (drop_of_length-le (messages n t) {i = i} (le_of_eq (length_cut message_width n t ∙ sym e)))

-- a part of w numbers from a on
pub part : (a w : ℕ) (t : List ℕ) → a + w ≤ length t
    → (take (a + w - a) (drop a t) ≡ take w (drop a t)) × (length (take (a + w - a) (drop a t)) ≡ w)
part a w t h =
    let e : a + w - a ≡ w = omega arith in
    (ap (λ (k : ℕ). take k (drop a t)) e, simp (length-take, length-drop) (omega arith))

-- a list that is continued has the same first pieces
pub cut_append : (w n m : ℕ) (xs ys : List ℕ) → length xs ≡ n * w → cut w (n + m) (xs ++ ys) ≡ cut w n xs ++ cut w m ys
cut_append w zero m [] ys e = ap (λ (k : ℕ). cut w k ys) (zero-add m)
cut_append w zero m (x ∷ xs) ys e = absurd (omega (arith, zero-mul w))
cut_append w (suc n) m xs ys e =
    let most : w ≤ length xs = omega (arith, suc-mul n w) in
    ap (λ (k : ℕ). cut w k (xs ++ ys)) (suc-add n m)
    ∙ ap₂ ◌∷◌ (take-append-le w xs ys most)
    (ap (cut w (n + m)) (drop-append-le w xs ys most) ∙ cut_append w n m (drop w xs) ys (length-drop w xs ∙ omega (arith, suc-mul n w)))

-- the front of a table decides its first pieces
cut_front : (w n : ℕ) (xs ys : List ℕ) → length xs ≡ n * w → cut w n (xs ++ ys) ≡ cut w n xs
cut_front w n xs ys e = ap (λ (k : ℕ). cut w k (xs ++ ys)) (sym (add-zero n)) ∙ cut_append w n 0 xs ys e ∙ append-nil (cut w n xs)

-- the pieces of a front that is as long as they are, and one piece after it
cut_more : (w n : ℕ) (xs m ys : List ℕ) → length xs ≡ n * w → length m ≡ w → cut w (suc n) (xs ++ m ++ ys) ≡ cut w n xs ++ (m ∷ [])
cut_more w n xs m ys e l =
    ap₂ (cut w) (sym (add-one n)) (append_assoc xs m ys)
    ∙ cut_append w n 1 xs (m ++ ys) e
    ∙ ap (λ (a : List ℕ). cut w n xs ++ (a ∷ [])) (take_at m ys w l)

-- a message written after n makes the list of messages one longer at its end
pub messages_with : (n : ℕ) (t : List ℕ) (m : Message) → n * message_width ≤ length t → length m ≡ message_width
    → messages (suc n) (with_message n t m) ≡ messages n t ++ (m ∷ [])
messages_with n t m h l =
    let k : length (take (n * message_width) t) ≡ n * message_width = length-take-le (n * message_width) t h in
    cut_more message_width n (take (n * message_width) t) m (drop (n * message_width + message_width) t) k l
    ∙ ap (λ (R : List Message). R ++ (m ∷ []))
    (sym (cut_front message_width n (take (n * message_width) t) (drop (n * message_width) t) k)
    ∙ ap (messages n) (take-append-drop (n * message_width) t))

-- and leaves the table as long as it was
pub with_length : (n : ℕ) (t : List ℕ) (m : Message) → n * message_width + message_width ≤ length t → length m ≡ message_width
    → length (with_message n t m) ≡ length t
with_length n t m h l =
    let front = take (n * message_width) t in
    let back = drop (n * message_width + message_width) t in
    length-append (front ++ m) back
    ∙ omega (
      arith,
      length-append front m,
      length-take-le (n * message_width) t (omega arith),
      length-drop (n * message_width + message_width) t,
    )

-- one piece more
pub cut_next : (w n : ℕ) (t : List ℕ) → cut w (suc n) t ≡ cut w n t ++ (take w (drop (n * w) t) ∷ [])
cut_next w zero t = ap (λ (k : ℕ). take w (drop k t) ∷ []) (sym (zero-mul w))
cut_next w (suc n) t =
    ap (λ (z : List (List ℕ)). take w t ∷ z)
    (cut_next w n (drop w t)
    ∙ ap (λ (k : List ℕ). cut w n (drop w t) ++ (take w k ∷ []))
    (drop-drop (n * w) w t ∙ ap (λ (j : ℕ). drop j t) (add_comm w (n * w) ∙ sym (suc-mul n w))))

-- the first messages of the first messages
pub take_messages : (k n : ℕ) (t : List ℕ) → k ≤ n → take k (messages n t) ≡ messages k t
take_messages zero n t h = refl
take_messages (suc k) zero t h = absurd (not-suc-le-zero h)
take_messages (suc k) (suc n) t h =
    ap (λ (z : Record). take message_width t ∷ z) (take_messages k n (drop message_width t) (le_of_suc-le-suc h))
