-- A table from its builder to its reader: whatever is pushed on a new builder, and whatever is then called on the table
-- built, what `raw` shows is a saved table that reads as a plain list does after the same. Assumes nothing.
use Rattle.std.specs.Prelude.{ℕ, ◌≡◌, List, [], replicate}
use Rattle.wire.specs.Size.{table_bytes}
use Rattle.wire.specs.Run.{after_all, told_all}
use Rattle.table_view.specs.View.{Item, view}
use Rattle.table_view.specs.Told.{done, value}
use Rattle.table_view.specs.Read.{read_told, value_in, get_told, raw_told}
use Rattle.client_att_table.specs.AsList as calling
use Rattle.client_att_table.specs.Tails.{ZeroTails}
use Rattle.table_builder.specs.Push.{build_told, after_build}
use Rattle.table_builder.specs.AsList as pushing

-- on the bytes: a new builder; after the pushes; the table built of it, whatever was there; and after the calls
abbrev pub fresh : List ℕ
fresh = replicate table_bytes 0

abbrev pub builder_after : List pushing.Push → List ℕ
builder_after ps = after_all pushing.bytes_after fresh ps

abbrev pub table_built : List ℕ → List pushing.Push → List ℕ
table_built there ps = after_build (builder_after ps) there

abbrev pub table_after : List ℕ → List pushing.Push → List calling.TableCall → List ℕ
table_after there ps cs = after_all calling.bytes_after (table_built there ps) cs

-- the same on the plain list, from the empty one
abbrev pub list_built : List pushing.Push → List Item
list_built ps = after_all pushing.list_after [] ps

abbrev pub list_left : List pushing.Push → List calling.TableCall → List Item
list_left ps cs = after_all calling.list_after (list_built ps) cs

-- the statement: each push and each call told the same as on the list, the build is done, and what `raw` shows is
-- accepted by the reader, reads as the list, tells by each key what the list has, and has nothing past a value's length
pub record Reads (there : List ℕ) (ps : List pushing.Push) (cs : List calling.TableCall) : Type 0 where
  pub pushes : told_all pushing.bytes_after pushing.bytes_told fresh ps ≡ told_all pushing.list_after pushing.list_told [] ps
  pub build : build_told (builder_after ps) ≡ done
  pub calls : told_all calling.bytes_after calling.bytes_told (table_built there ps) cs ≡ told_all calling.list_after calling.list_told (list_built ps) cs
  pub saved : List ℕ
  pub shown : raw_told (table_after there ps cs) ≡ value saved
  pub accepted : read_told saved ≡ done
  pub reads : view saved ≡ list_left ps cs
  pub gets : (k : ℕ) → get_told saved k ≡ value_in k (list_left ps cs)
  pub tails : ZeroTails saved

abbrev pub BuilderToReader : Type 0
BuilderToReader = (there : List ℕ) (ps : List pushing.Push) (cs : List calling.TableCall) → Reads there ps cs
