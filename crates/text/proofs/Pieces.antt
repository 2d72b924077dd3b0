-- Pieces of text put one after another, and a loop that puts them. Assumes nothing.
use mathlib.Core.Path.{◌≡◌, refl, sym, ap, ◌∙◌}
use mathlib.Core.List.{List, [], ◌∷◌, ◌++◌}
use Prim.Native.Nat.{ℕ, ◌+◌, ◌≤◌}
use native.Mathlib.Nat.{add-zero, add_assoc}
use native.Mathlib.Omega.{arith}
use lib.ListN.{length, length-append}
use lib.Seq.{sets, length-sets, set_out}
use Rattle.wire.proofs.Sets.{sets-append}
use Rattle.text.specs.Put.{Put, Short}

-- a byte that has no room
pub no_room : (b : List ℕ) (at v : ℕ) → length b ≤ at → Put b b at (at + 1) (v ∷ [])
no_room b at v h = record { place = refl; bytes = sym (set_out b at v h) }

module _ (old mid new : List ℕ) (at next last : ℕ) (vs ws : List ℕ) where
  pub put_then : Put old mid at next vs → Put mid new next last ws → Put old new at last (vs ++ ws)
  put_then a b =
      record {
        place = b.place ∙ rw (a.place, length-append, add_assoc);
        bytes = b.bytes ∙ rw (a.bytes, a.place) (sets-append vs ws old at);
      }

module _ (old new : List ℕ) (at next : ℕ) (vs : List ℕ) where
  -- no byte more or less in the buffer
  pub put_length : Put old new at next vs → length new ≡ length old
  put_length p = ap length p.bytes ∙ length-sets old at vs

  -- the same text under another name
  pub put_as : (ws : List ℕ) → Put old new at next vs → vs ≡ ws → Put old new at next ws
  put_as ws p e = rw e at p

-- inside a loop: to put what is left at the place where it stands gives what putting all of it gives
pub record Going (old : List ℕ) (at : ℕ) (whole : List ℕ) (out : List ℕ) (next : ℕ) (left : List ℕ) : Type 0 where
  pub size : length out ≡ length old
  pub place : next + length left ≡ at + length whole
  pub bytes : sets out next left ≡ sets old at whole

module _ (old : List ℕ) (at : ℕ) (whole : List ℕ) where
  pub going_start : Going old at whole old at whole
  going_start = record { size = refl; place = refl; bytes = refl }

  -- a piece more, and none
  pub going_more : (out new : List ℕ) (next last : ℕ) (vs left : List ℕ) → Going old at whole out next (vs ++ left) → Put out new next last vs → Going old at whole new last left
  going_more out new next last vs left g p =
      record {
        size = put_length out new next last vs p ∙ g.size;
        place = rw (p.place, add_assoc, ← length-append) g.place;
        bytes = rw (p.bytes, p.place) (sets-append vs left out next ∙ g.bytes);
      }

  pub going_end : (out : List ℕ) (next : ℕ) → Going old at whole out next [] → Put old out at next whole
  going_end out next g = record { place = sym (add-zero next) ∙ g.place; bytes = g.bytes }

  -- the piece that comes next is short where all of it is
  pub going_short : (out : List ℕ) (next : ℕ) (vs left : List ℕ) → Going old at whole out next (vs ++ left) → Short at whole → Short next vs
  going_short out next vs left g h =
      let e : length (vs ++ left) ≡ length vs + length left = length-append vs left in
      omega (arith, g.place)
