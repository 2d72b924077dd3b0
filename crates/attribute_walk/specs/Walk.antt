-- The walks of list answers: the places of a range, the entries of a type, and the groups of entries. Assumes nothing.
use Rattle.std.specs.Prelude.{ℕ, ◌≤◌, ◌<◌, ◌≡◌, Bool, true, false, cond, not, List, [], length, get_or, take, drop, eqb, Option, Some, None}
use Rattle.wire.specs.Test.{both}
use Rattle.wire.specs.Number.{word}
use Rattle.wire.specs.Uuid.{same_uuid}
use Rattle.attribute.specs.Record.{Entry, entry_of, uuid_of}
use Rattle.attribute.specs.Lookup.{handle_of, group_end_at}
use Rattle.attribute_walk.specs.declared.group.Group.{Group}

-- each handle is above the ones before it
pub record Ascends (list : List (List ℕ)) : Type 0 where
  pub above : (i j : ℕ) → i < j → j < length list → handle_of (get_or list i []) < handle_of (get_or list j [])

-- place p parts the list at a handle: before it every handle is below, and from it on none is
pub record Parts (list : List (List ℕ)) (h p : ℕ) : Type 0 where
  pub inside : p ≤ length list
  pub below : (j : ℕ) → j < p → handle_of (get_or list j []) < h
  pub above : (j : ℕ) → p ≤ j → j < length list → h ≤ handle_of (get_or list j [])

-- the number of a UUID's short form: of its own two bytes, or of those that the Base UUID widens to it
unfoldable pub short_of : List ℕ → Option ℕ
short_of u =
    cond (eqb (length u) 2)
    (Some (word u 0))
    (cond (both (eqb (length u) 16) (same_uuid (take 2 (drop 12 u)) u)) (Some (word u 12)) None)

-- a record that has a long UUID, or the short one of this number
unfoldable pub may_be : ℕ → List ℕ → Bool
may_be n r = cond (eqb (get_or r 11 0) 2) (eqb (word r 12) n) true

-- a record that may be of a type, by the type's short form: where there is none, only one that has a long UUID
unfoldable pub may_match : Option ℕ → List ℕ → Bool
may_match (Some n) r = may_be n r
may_match None r = not (eqb (get_or r 11 0) 2)

-- a record of a type, after widening
abbrev pub is_of_type : List ℕ → List ℕ → Bool
is_of_type u r = same_uuid (uuid_of r) u

-- every record
abbrev pub any_record : List ℕ → Bool
any_record r = true

-- from place i on, a test of entries passes those before place `to` whose record passes another
pub record Picks (want : Entry → Bool) (test : List ℕ → Bool) (list : List (List ℕ)) (i to : ℕ) : Type 0 where
  pub before : (j : ℕ) → i ≤ j → j < to → want (entry_of (get_or list j [])) ≡ test (get_or list j [])
  pub behind : (j : ℕ) → to ≤ j → j < length list → want (entry_of (get_or list j [])) ≡ false

-- the entries from place i up to the group's stop are in the group: theirs ends where it ends
abbrev pub InGroup : List (List ℕ) → ℕ → Group → Type 0
InGroup list i g = (j : ℕ) → i ≤ j → j < g.stop → group_end_at list j ≡ g.end
