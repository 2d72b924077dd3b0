-- The walks over a list's client values: one entry at a time. Assumes nothing.
use mathlib.Core.Path.{◌≡◌}
use mathlib.Core.Bool.{true, false}
use mathlib.Core.List.{List, [], ◌∷◌}
use Prim.Native.Nat.{ℕ, ◌+◌, ◌≤◌, ◌<◌}
use native.Mathlib.Numerals.{add-one}
use lib.ListN.{length, get_or, drop, drop_of_length-le}
use lib.Seq.{drop-cons}
use Rattle.table_builder.specs.Push.{value_size, with_entry}
use Rattle.attribute.specs.Record.{attribute_of}
use Rattle.attribute.specs.declared.Attribute.{Attribute}
use Rattle.state.specs.Fresh.{push_of, clients_of, space_of, entries_size, entry_laid}

module _ (a : Attribute) where
  pub space_client : a.client ≡ true → space_of a ≡ 4 + value_size a.cap a.variable
  unfolding space_of
  space_client h = rw h

  pub space_shared : a.client ≡ false → space_of a ≡ 0
  unfolding space_of
  space_shared h = rw h

  pub laid_client : (bs : List ℕ) → a.client ≡ true → entry_laid bs a ≡ with_entry bs a.handle a.cap a.variable
  unfolding entry_laid
  laid_client bs h = rw h

  pub laid_shared : (bs : List ℕ) → a.client ≡ false → entry_laid bs a ≡ bs
  unfolding entry_laid
  laid_shared bs h = rw h

module _ (list : List (List ℕ)) (i : ℕ) where
  pub size_turn : i < length list → entries_size (drop i list) ≡ space_of (attribute_of (get_or list i [])) + entries_size (drop (i + 1) list)
  unfolding entries_size
  size_turn h = rw (drop-cons list i [] h, add-one)

  pub size_over : length list ≤ i → entries_size (drop i list) ≡ 0
  unfolding entries_size
  size_over h = rw (drop_of_length-le list h)

  pub client_turn : i < length list → (attribute_of (get_or list i [])).client ≡ true → clients_of (drop i list) ≡ push_of (attribute_of (get_or list i [])) ∷ clients_of (drop (i + 1) list)
  unfolding clients_of
  client_turn h c = rw (drop-cons list i [] h, add-one, c)

  pub shared_turn : i < length list → (attribute_of (get_or list i [])).client ≡ false → clients_of (drop i list) ≡ clients_of (drop (i + 1) list)
  unfolding clients_of
  shared_turn h c = rw (drop-cons list i [] h, add-one, c)

  pub client_over : length list ≤ i → clients_of (drop i list) ≡ []
  unfolding clients_of
  client_over h = rw (drop_of_length-le list h)
