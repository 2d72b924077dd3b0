-- A run of pushes lays out the plain list (`specs/AsList.antt`): bytes that hold a list, with no gap between values,
-- hold the list with one entry more after a push.
-- Assumes nothing.
use Rattle.std.specs.Prelude.{Ok, Err}
use mathlib.Core.Path.{◌≡◌, refl, sym, ap, ◌∙◌}
use mathlib.Core.Bool.{Bool, true, false, cond}
use mathlib.Core.List.{List, [], ◌∷◌, ◌++◌}
use Prim.Native.Nat.{ℕ, ◌+◌}
use native.Mathlib.Omega.{arith}
use lib.ListN.{length, replicate}
use lib.Dec.{leb}
use Rattle.wire.specs.Size.{table_bytes}
use Rattle.wire.specs.Run.{after_all, told_all}
use Rattle.wire.specs.Number.{word}
use Rattle.table_view.specs.Layout.{end_of}
use Rattle.table_view.specs.View.{Item, items_from, view}
use Rattle.table_view.specs.Told.{done, refused, if_done}
use Rattle.table_builder.specs.Push.{builder, last_key, entry_fits, value_size, push_plan, with_entry, told_pushed}
use Rattle.table_builder.specs.AsList.{Push, blank, last_of, size_of, list_told, list_after, bytes_told, bytes_after, BuilderIsList}
use Rattle.table_builder.proofs.Laws.{Adds, adds}
use Rattle.table_builder.proofs.Grown.{grown, end_out, last_out, builder_out, view_out, fresh_builder}
use Rattle.table_builder.specs.declared.PushError.TheVariants.{BadEntry, NoRoom}

-- the last key and the size of a list with one entry more
last_more : (k : ℕ) (xs : List Item) (x : Item) → last_of k (xs ++ x ∷ []) ≡ x.key
unfolding last_of
last_more k [] x = refl
last_more k (y ∷ ys) x = last_more y.key ys x

size_more : (xs : List Item) (x : Item) → size_of (xs ++ x ∷ []) ≡ size_of xs + 4 + value_size x.room x.variable
unfolding size_of
size_more [] x = omega arith
size_more (y ∷ ys) x = omega (arith, size_more ys x)

-- bytes that hold a list, each value where the one before it ends
pub record Holds (bs : List ℕ) (xs : List Item) : Type 0 where
  pub long : length bs ≡ table_bytes
  pub ok : builder bs ≡ true
  pub reads : view bs ≡ xs
  pub end : end_of bs ≡ 4 + size_of xs
  pub last : last_key bs ≡ last_of 0 xs

pub fresh_holds : Holds (replicate table_bytes 0) []
unfolding word items_from size_of last_key last_of
fresh_holds = record { long = refl; ok = fresh_builder; reads = refl; end = refl; last = refl }

-- the two tests of a push on a list
abbrev fits : List Item → Push → Bool
fits xs p = entry_fits (last_of 0 xs) p.key p.size

abbrev has_room : List Item → Push → Bool
has_room xs p = leb (4 + size_of xs + 4 + value_size p.size p.variable) table_bytes

module _ (bs : List ℕ) (xs : List Item) (t : Holds bs xs) (p : Push) where
  more : Adds bs p.key p.size p.variable → Holds (with_entry bs p.key p.size p.variable) (xs ++ blank p ∷ [])
  unfolding blank
  more a =
      let l = t.long in
      let r = a.room in
      let g = grown bs p.key p.size p.variable (omega arith) in
      record {
        long = g.size ∙ l;
        ok = builder_out bs _ _ _ _ a g (omega arith);
        reads = view_out bs _ _ _ _ a g (omega arith) ∙ ap (λ (ys : List Item). ys ++ blank p ∷ []) t.reads;
        end = omega (arith, end_out bs _ _ _ _ a g, t.end, size_more xs (blank p));
        last = last_out bs _ _ _ _ a g ∙ sym (last_more 0 xs (blank p));
      }

  planned : push_plan bs p.key p.size p.variable ≡ cond (fits xs p) (cond (has_room xs p) (Ok tt) (Err NoRoom)) (Err BadEntry)
  unfolding push_plan
  planned = rw (t.ok, t.last, t.end)

  told_same : bytes_told bs p ≡ list_told xs p
  unfolding list_told
  told_same = rw planned (by (fits xs p) (has_room xs p))
    where
      by : (f r : Bool) → told_pushed (cond f (cond r (Ok tt) (Err NoRoom)) (Err BadEntry)) ≡ cond f (cond r done (refused 6)) (refused 5)
      by true true = refl
      by true false = refl
      by false r = refl

  push_holds : Holds (bytes_after bs p) (list_after xs p)
  unfolding list_told
  push_holds = by (fits xs p) (has_room xs p) planned
    where
      by : (f r : Bool) → push_plan bs p.key p.size p.variable ≡ cond f (cond r (Ok tt) (Err NoRoom)) (Err BadEntry) → Holds (bytes_after bs p) (if_done (cond f (cond r done (refused 6)) (refused 5)) (xs ++ blank p ∷ []) xs)
      by true true e = rw e (more (adds _ _ _ _ e))
      by true false e = rw e t
      by false r e = rw e t

-- all pushes
all_hold : (ps : List Push) (bs : List ℕ) (xs : List Item) → Holds bs xs → Holds (after_all bytes_after bs ps) (after_all list_after xs ps)
unfolding after_all
all_hold [] bs xs t = t
all_hold (p ∷ ps) bs xs t = all_hold ps _ _ (push_holds bs xs t p)

all_told : (ps : List Push) (bs : List ℕ) (xs : List Item) → Holds bs xs → told_all bytes_after bytes_told bs ps ≡ told_all list_after list_told xs ps
unfolding told_all
all_told [] bs xs t = refl
all_told (p ∷ ps) bs xs t = rw (told_same bs xs t p, all_told ps _ _ (push_holds bs xs t p))

pub builder_is_list : BuilderIsList
builder_is_list ps =
    let t = all_hold ps (replicate table_bytes 0) [] fresh_holds in
    record { ok = t.ok; reads = t.reads; told = all_told ps (replicate table_bytes 0) [] fresh_holds }
