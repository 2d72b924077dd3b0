-- A turn of the reads by type over the list's records, and how much of a value goes in. Assumes nothing.
use Rattle.std.specs.Prelude.{ℕ, ◌-◌, min, Bool, List, map}
use Rattle.attribute.specs.Record.{Entry}
use Rattle.attribute.specs.declared.Link.{Link}
use Rattle.model.specs.View.{seen_by}
use Rattle.model.specs.Run.{Chunk}
use Rattle.model.specs.Rows.{by_type_form, by_group_form, extra_of, row_turn}
use Rattle.model.specs.declared.Form.{Form}
use Rattle.reading_by_type.specs.declared.By.{By}
use Rattle.reading_by_type.specs.declared.By.TheVariants.{Attribute, Group}

-- the form of either
abbrev pub form_of : By → Form
form_of Attribute = by_type_form
form_of Group = by_group_form

-- how many of len bytes `cut` leaves
unfoldable pub cut_to : Form → ℕ → ℕ → ℕ
cut_to f room len = min len (min (room - extra_of f) f.limit)

abbrev pub row_at : Form → Link → List ℕ → List ℕ → (Entry → Bool) → ℕ → List ℕ → List (List ℕ) → ℕ → Chunk
row_at f link store t want n r rs room = row_turn f want n (seen_by link store t r) (map (seen_by link store t) rs) room
