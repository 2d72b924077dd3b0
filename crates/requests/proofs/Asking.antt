-- What a view tells of its entries. Assumes nothing.
use mathlib.Core.Path.{◌≡◌, refl, ap, ◌∙◌}
use mathlib.Core.List.{List, map}
use Prim.Native.Nat.{ℕ}
use Rattle.attribute.specs.Record.{Entry, entry_of}
use Rattle.attribute.specs.Lookup.{entries_of}
use Rattle.attribute.specs.declared.Link.{Link}
use Rattle.model.specs.View.{Seen, seen_by, seen_all}
use Rattle.model.specs.Rows.{entries_in}
use Rattle.model.proofs.Running.{map-map}

-- the entries of a view are the list's
same_entry : (link : Link) (store t r : List ℕ) → (seen_by link store t r).entry ≡ entry_of r
unfolding seen_by
same_entry link store t r = refl

pub entries_seen : (link : Link) (list : List (List ℕ)) (store t : List ℕ) → entries_in (seen_all link list store t) ≡ entries_of list
entries_seen link list store t =
    map-map (λ (s : Seen). s.entry) (seen_by link store t) list
    ∙ ap (λ (f : List ℕ → Entry). map f list) (λ i r. same_entry link store t r i)
