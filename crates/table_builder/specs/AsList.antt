-- What a run of pushes lays out, as a plain list of handles with values: the list that a reader of the table finds.
-- Assumes nothing.
use Rattle.std.specs.Prelude.{ℕ, ◌+◌, ◌≡◌, Bool, true, cond, List, [], ◌∷◌, ◌++◌, replicate, leb}
use Rattle.wire.specs.Size.{table_bytes}
use Rattle.wire.specs.Run.{after_all, told_all}
use Rattle.table_view.specs.View.{Item, view}
use Rattle.table_view.specs.Told.{Told, done, refused, if_done}
use Rattle.table_builder.specs.Push.{entry_fits, value_size, push_told, after_push, builder}

-- a push: its arguments
pub record Push : Type 0 where
  pub key : ℕ
  pub size : ℕ
  pub variable : Bool

-- the entry that it lays out: its value is all zero, and a variable one is empty
unfoldable pub blank : Push → Item
blank p = record { key = p.key; variable = p.variable; room = p.size; value = cond p.variable [] (replicate p.size 0) }

-- the last key of a list, or the one given; and how many bytes its entries and values take
unfoldable pub last_of : ℕ → List Item → ℕ
last_of k [] = k
last_of k (x ∷ xs) = last_of x.key xs

unfoldable pub size_of : List Item → ℕ
size_of [] = 0
size_of (x ∷ xs) = 4 + value_size x.room x.variable + size_of xs

-- what a push on a list answers, and the list after it
unfoldable pub list_told : List Item → Push → Told
list_told xs p =
    cond (entry_fits (last_of 0 xs) p.key p.size)
    (cond (leb (4 + size_of xs + 4 + value_size p.size p.variable) table_bytes) done (refused 6))
    (refused 5)

abbrev pub list_after : List Item → Push → List Item
list_after xs p = if_done (list_told xs p) (xs ++ blank p ∷ []) xs

-- the same on the bytes: the definitions that the promise cites
abbrev pub bytes_told : List ℕ → Push → Told
bytes_told bs p = push_told bs p.key p.size p.variable

abbrev pub bytes_after : List ℕ → Push → List ℕ
bytes_after bs p = after_push bs p.key p.size p.variable

-- the statement: from a new builder, whatever is pushed, the bytes are a builder's, the reader finds the list, and each
-- push told the same
pub record Built (ps : List Push) : Type 0 where
  pub ok : builder (after_all bytes_after (replicate table_bytes 0) ps) ≡ true
  pub reads : view (after_all bytes_after (replicate table_bytes 0) ps) ≡ after_all list_after [] ps
  pub told : told_all bytes_after bytes_told (replicate table_bytes 0) ps ≡ told_all list_after list_told [] ps

abbrev pub BuilderIsList : Type 0
BuilderIsList = (ps : List Push) → Built ps
