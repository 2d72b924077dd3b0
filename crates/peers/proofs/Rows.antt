-- A row of eight-byte slots and the slots that it decodes to: place by place, after a store, and each fixed by the
-- other. Assumes nothing.
use mathlib.Core.Path.{◌≡◌, refl, sym, ap, ◌∙◌, subst}
use mathlib.Core.List.{List, [], ◌∷◌, head-eq_of_cons-eq, tail-eq_of_cons-eq}
use Prim.Native.Nat.{ℕ, zero, suc, ◌<◌}
use native.Mathlib.Omega.{arith}
use lib.ListN.{length, get_or, set, length-map}
use Rattle.peers.specs.Bytes.{slot_in, row_of, bytes_of}
use Rattle.peers.specs.Slots.{no_slot}
use Rattle.peers.specs.declared.Slot.{Slot}

pub length_row : (es : List (List ℕ)) → length (row_of es) ≡ length es
length_row es = length-map es slot_in

pub row_at : (es : List (List ℕ)) (i : ℕ) → i < length es → get_or (row_of es) i no_slot ≡ slot_in (get_or es i [])
row_at [] i h = absurd (omega arith)
row_at (e ∷ es) zero h = refl
row_at (e ∷ es) (suc i) h = row_at es i (omega arith)

pub row_set : (es : List (List ℕ)) (i : ℕ) (e : List ℕ) → row_of (set es i e) ≡ set (row_of es) i (slot_in e)
row_set [] i e = refl
row_set (x ∷ es) zero e = refl
row_set (x ∷ es) (suc i) e = ap (λ (r : List Slot). slot_in x ∷ r) (row_set es i e)

-- a list is its n elements
unfoldable list_of : {A : Type 0} → ℕ → (ℕ → A) → List A
list_of zero f = []
list_of (suc n) f = f 0 ∷ list_of n (λ i. f (suc i))

elements : {A : Type 0} (d : A) (l : List A) → list_of (length l) (λ i. get_or l i d) ≡ l
unfolding list_of
elements d [] = refl
elements d (x ∷ xs) = ap (λ (r : List _). x ∷ r) (elements d xs)

-- so eight bytes are the bytes of their slot
eight_bytes : (e : List ℕ) → length e ≡ 8 → bytes_of (slot_in e) ≡ e
unfolding list_of
eight_bytes e h = subst (λ (n : ℕ). list_of n (λ i. get_or e i 0) ≡ e) h (elements 0 e)

-- and a slot is the slot of its bytes, where its address has six
pub slot_back : (s : Slot) → length s.id.addr ≡ 6 → slot_in (bytes_of s) ≡ s
unfolding list_of
slot_back s h =
    let a : list_of 6 (λ i. get_or s.id.addr i 0) ≡ s.id.addr = subst (λ (n : ℕ). list_of n (λ i. get_or s.id.addr i 0) ≡ s.id.addr) h (elements 0 s.id.addr) in
    λ j. record { id = record { kind = s.id.kind; addr = a j }; connected = s.connected }

-- rows of eight-byte slots that decode to the same are the same
pub one_row : (es es' : List (List ℕ)) → ((i : ℕ) → i < length es → length (get_or es i []) ≡ 8) → ((i : ℕ) → i < length es' → length (get_or es' i []) ≡ 8) → row_of es ≡ row_of es' → es ≡ es'
one_row [] [] l l' e = refl
one_row [] (y ∷ ys) l l' e = absurd (omega (arith, ap length e))
one_row (x ∷ xs) [] l l' e = absurd (omega (arith, ap length e))
one_row (x ∷ xs) (y ∷ ys) l l' e =
    let h : x ≡ y = sym (eight_bytes x (l 0 (omega arith))) ∙ ap bytes_of (head-eq_of_cons-eq e) ∙ eight_bytes y (l' 0 (omega arith)) in
    let t = one_row xs ys (λ i k. l (suc i) (omega arith)) (λ i k. l' (suc i) (omega arith)) (tail-eq_of_cons-eq e) in
    λ j. h j ∷ t j
