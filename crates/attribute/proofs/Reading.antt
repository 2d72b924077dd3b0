-- Laws of `specs/Rules.antt` and `specs/Needs.antt`: what an access tells, where ranges end, and a turn of the walk over
-- the entries. Assumes nothing.
use Rattle.std.specs.Prelude.{Ok, Err}
use mathlib.Core.Path.{◌≡◌, refl, ap}
use mathlib.Core.Bool.{true, false}
use mathlib.Core.List.{List, []}
use Prim.Native.Nat.{ℕ, ◌+◌, ◌≤◌, ◌<◌}
use native.Mathlib.Numerals.{add-one}
use lib.ListN.{length, get_or, drop, drop_of_length-le}
use lib.Seq.{drop-cons}
use Rattle.wire.specs.Test.{both}
use Rattle.wire.specs.Att.{code_of}
use Rattle.wire.specs.declared.att.AttError.{AttError}
use Rattle.wire.proofs.Codes.{one_code}
use Rattle.attribute.specs.Record.{attribute_of}
use Rattle.attribute.specs.Rules.{entry_ok, end_after, entries_ok}
use Rattle.attribute.specs.Needs.{told_access, Access}
use Rattle.attribute.specs.declared.Attribute.{Attribute}

-- equal tellings are equal answers: of an access there is one
pub one_access : (a b : Access) → told_access a ≡ told_access b → a ≡ b
one_access (Ok x) (Ok y) e = refl
one_access (Ok x) (Err c) e = cc
one_access (Err c) (Ok x) e = cc
one_access (Err c) (Err c') e =
    let k : code_of c ≡ code_of c' = cc in
    ap (λ (x : AttError). Err x) (one_code c c' k)

-- where the ranges end
module _ (a : Attribute) (end : ℕ) where
  pub client_end : a.client ≡ true → end ≡ end_after a end
  unfolding end_after
  client_end t = rw t

  pub shared_end : a.client ≡ false → a.start + a.cap ≡ end_after a end
  unfolding end_after
  shared_end t = rw t

-- what is left of the walk over the entries at place i
module _ (list : List (List ℕ)) (store i last end : ℕ) where
  one_entry : i < length list → entries_ok (drop i list) last end store ≡ both (entry_ok (get_or list i []) last end store) (entries_ok (drop (i + 1) list) (attribute_of (get_or list i [])).handle (end_after (attribute_of (get_or list i [])) end) store)
  unfolding entries_ok
  one_entry h = rw (drop-cons list i [] h, add-one)

  pub good_entry : i < length list → entry_ok (get_or list i []) last end store ≡ true → entries_ok (drop i list) last end store ≡ entries_ok (drop (i + 1) list) (attribute_of (get_or list i [])).handle (end_after (attribute_of (get_or list i [])) end) store
  unfolding both
  good_entry h t = rw (one_entry h, t)

  pub bad_entry : i < length list → entry_ok (get_or list i []) last end store ≡ false → entries_ok (drop i list) last end store ≡ false
  unfolding both
  bad_entry h t = rw (one_entry h, t)

  pub no_entry : length list ≤ i → entries_ok (drop i list) last end store ≡ true
  unfolding entries_ok
  no_entry h = rw (drop_of_length-le list h)
