-- The loop of a list answer along a stretch of the list, for every test of entries that picks the same records there.
-- Assumes nothing.
use mathlib.Core.Path.{◌≡◌, refl, ◌∙◌}
use mathlib.Core.Bool.{Bool, false}
use mathlib.Core.List.{List, []}
use Prim.Native.Nat.{ℕ, ◌+◌, ◌-◌, ◌≤◌, ◌<◌}
use native.Mathlib.Omega.{arith}
use lib.ListN.{length, get_or, drop}
use Rattle.wire.specs.declared.cursor.WriteCursor.{WriteCursor}
use Rattle.attribute.specs.Record.{Entry, entry_of}
use Rattle.attribute_walk.specs.Walk.{Picks}
use Rattle.attribute_walk.specs.declared.Stretch.{Stretch}
use Rattle.model.specs.Run.{Chunk, skip, run, Rowed, TurnBy, Listed}
use Rattle.model.proofs.Running.{Going, going_start, going_skip, going_more, going_stop, going_rest, row_as, row_room}

-- the invariant: the loop has come to place i of the stretch, and goes on with the run of every test that picks what
-- another picks of the records
pub record Along (turn : TurnBy) (test : List ℕ → Bool) (list : List (List ℕ)) (p : Stretch) (old : List ℕ) (from : WriteCursor) (out : List ℕ) (c : WriteCursor) (i : ℕ) : Type 0 where
  pub same : length out ≡ length old
  pub room : c.len ≤ length out
  pub late : p.from ≤ i
  pub early : i ≤ p.to
  pub inside : p.to ≤ length list
  pub going : (want : Entry → Bool) → Picks want test list p.from p.to
      → Going (turn want) list old from (run (turn want) (drop p.from list) (length old - from.len)) out c i

module _ (turn : TurnBy) (test : List ℕ → Bool) (list : List (List ℕ)) (p : Stretch) where
  -- at the first place
  pub along_start : (out : List ℕ) (c : WriteCursor) → p.from ≤ p.to → p.to ≤ length list → c.len ≤ length out → Along turn test list p out c out c p.from
  along_start out c a b r =
      record {
        same = refl;
        room = r;
        late = omega arith;
        early = a;
        inside = b;
        going = λ want k. going_start (turn want) [] list out c p.from (omega arith) r;
      }

  module _ (old : List ℕ) (from : WriteCursor) (out : List ℕ) (c : WriteCursor) (i : ℕ) (g : Along turn test list p old from out c i) where
    -- the element here gives the chunk k in the run of every such test
    abbrev Gives : Chunk → Type 0
    Gives k = (want : Entry → Bool) → want (entry_of (get_or list i [])) ≡ test (get_or list i []) → k ≡ turn want (get_or list i []) (drop (i + 1) list) (length out - c.len)

    module _ (h : i < p.to) where
      -- an element without a row
      pub along_skip : Gives skip → Along turn test list p old from out c (i + 1)
      along_skip e =
          record {
            same = g.same;
            room = g.room;
            late = omega (arith, g.late);
            early = omega arith;
            inside = g.inside;
            going = λ want k. going_skip (turn want) [] list old from _ out c i (g.going want k) (omega (arith, g.inside)) (e want (k.before i g.late h));
          }

      -- a row that was written; and one that ends the list
      module _ (new : List ℕ) (next : WriteCursor) (k : Chunk) (m : Rowed out new c next k) (e : Gives k) where
        pub along_more : c.len < next.len → Along turn test list p old from new next (i + 1)
        along_more l =
            record {
              same = (row_room out new c next k m).0 ∙ g.same;
              room = (row_room out new c next k m).1;
              late = omega (arith, g.late);
              early = omega arith;
              inside = g.inside;
              going = λ want q. going_more (turn want) [] list old from _ out c i (g.going want q) (omega (arith, g.inside)) new next (row_as out new c next k _ m (e want (q.before i g.late h))) l;
            }

        pub along_stop : next.len ≤ c.len → Listed turn test list p old new from next
        along_stop l want q = going_stop (turn want) [] list old from _ out c i (g.going want q) (omega (arith, g.inside)) new next (row_as out new c next k _ m (e want (q.before i g.late h))) l

    -- at the end of the stretch: behind it nothing is picked
    pub along_end : p.to ≤ i → ((want : Entry → Bool) (r : List ℕ) (rs : List (List ℕ)) (room : ℕ) → want (entry_of r) ≡ false → skip ≡ turn want r rs room) → Listed turn test list p old out from c
    along_end h f want q = going_rest (turn want) [] list old from _ out c i (g.going want q) (λ j a b. f want _ _ _ (q.behind j (omega arith) b))
