-- The starred worked facts of document 01, in one table: what the definitions behind the promises compute, beside what
-- the paper says. Assumes nothing.
use Rattle.std.specs.Prelude.{ℕ, ◌≡◌, true, false, List, [], ◌∷◌, ◌++◌, take, drop, replicate}
use Rattle.wire.specs.Size.{table_bytes, value_bytes}
use Rattle.wire.specs.Run.{after_all}
use Rattle.table_view.specs.Told.{Told, done, value, refused, att}
use Rattle.table_view.specs.Read.{read_told, get_told}
use Rattle.client_att_table.specs.Write.{write_told, after_write}
use Rattle.table_builder.specs.AsList.{bytes_after}
use Rattle.attribute.specs.declared.Link.TheVariants.{Plain}
use Rattle.peers.specs.declared.Identity.{Identity}
use Rattle.state.specs.State.{State, waiting}
use Rattle.state.specs.Fresh.{fresh_state}
use Rattle.model.specs.Change.{no_record}
use Rattle.model.specs.declared.Range.{Range}
use Rattle.model.specs.declared.Ask.{Ask}
use Rattle.model.specs.declared.Ask.TheVariants.{FindInformation, ReadByType, Read}
use Rattle.model.specs.declared.Request.TheVariants as request
use Rattle.attribute_server.specs.Request.{query, process_told}

-- T is built from key 3 fixed 2 and key 5 variable 8
abbrev T : List ℕ
T =
    after_all bytes_after (replicate table_bytes 0)
    (record { key = 3; size = 2; variable = false } ∷ record { key = 5; size = 8; variable = true } ∷ [])

-- 3E1047, then 3E10, written to key 5
abbrev T₂ : List ℕ
T₂ = after_write (after_write T 5 0 (0x33 ∷ 0x45 ∷ 0x31 ∷ 0x30 ∷ 0x34 ∷ 0x37 ∷ [])) 5 0 (0x33 ∷ 0x45 ∷ 0x31 ∷ 0x30 ∷ [])

-- a fact: what is computed, and what the paper says
pub record Fact : Type 0 where
  pub computed : Told
  pub paper : Told

abbrev pub fact : Told → Told → Fact
fact a b = record { computed = a; paper = b }

-- a readable variable value of type 7 under a handle, with room for 20 bytes: a record of the list
abbrev entry : ℕ → ℕ → ℕ → List ℕ
entry h start len = h ∷ 0 ∷ 20 ∷ 0 ∷ start ∷ 0 ∷ len ∷ 0 ∷ 1 ∷ 1 ∷ 1 ∷ 2 ∷ 7 ∷ 0 ∷ replicate 18 0

-- a fresh hub with values of 5, 5 and 6 bytes under handles 1, 2 and 3
abbrev class : State
class =
    fresh_state (entry 1 0 5 ∷ entry 2 20 5 ∷ entry 3 40 6 ∷ [])
    ((0x41 ∷ 0x41 ∷ 0x41 ∷ 0x41 ∷ 0x41 ∷ replicate 15 0) ++ (0x42 ∷ 0x42 ∷ 0x42 ∷ 0x42 ∷ 0x42 ∷ replicate 15 0) ++ (0x43 ∷ 0x43 ∷ 0x43 ∷ 0x43 ∷ 0x43 ∷ 0x43 ∷ replicate 14 0))

-- a tablet that has not connected
abbrev pub tablet : Identity
tablet = record { kind = 0; addr = 1 ∷ 0 ∷ 0 ∷ 0 ∷ 0 ∷ 0xC0 ∷ [] }

-- what `process` tells it there over a plain link, with a buffer of so many bytes
abbrev answered : ℕ → Ask → List ℕ → Told
answered room rq d = process_told class (waiting no_record (replicate value_bytes 0)) (query tablet Plain (request.Ask rq) d) room

abbrev everything : Range
everything = record { start = 1; end = 0xFFFF }

-- the rows of two values of 5 bytes
abbrev two_rows : List ℕ
two_rows = 0x09 ∷ 0x07 ∷ 0x01 ∷ 0x00 ∷ 0x41 ∷ 0x41 ∷ 0x41 ∷ 0x41 ∷ 0x41 ∷ 0x02 ∷ 0x00 ∷ 0x42 ∷ 0x42 ∷ 0x42 ∷ 0x42 ∷ 0x42 ∷ []

abbrev pub facts : List Fact
facts =
    -- T fresh
    fact (value T)
    (value ((0x02 ∷ 0x00 ∷ 0x0C ∷ 0x00 ∷ 0x03 ∷ 0x00 ∷ 0x00 ∷ 0x00 ∷ 0x05 ∷ 0x80 ∷ 0x02 ∷ 0x00 ∷ []) ++ replicate 12 0 ++ replicate 616 0))
    -- 3E1047 then 3E10 written to 5: the values, which end `00 00` by K3 where they ended `34 37`, and what 5 reads
    ∷ fact (value (take 12 (drop 12 T₂))) (value (0x00 ∷ 0x00 ∷ 0x04 ∷ 0x00 ∷ 0x33 ∷ 0x45 ∷ 0x31 ∷ 0x30 ∷ 0x00 ∷ 0x00 ∷ 0x00 ∷ 0x00 ∷ []))
    ∷ fact (get_told T₂ 5) (value (0x33 ∷ 0x45 ∷ 0x31 ∷ 0x30 ∷ []))
    -- then offset 5, nine bytes; offset 4, five bytes; four bytes stored
    ∷ fact (write_told T₂ 5 5 9) (att 0x07)
    ∷ fact (write_told T₂ 5 4 5) (att 0x0D)
    ∷ fact (write_told T₂ 5 4 4) done
    ∷ fact (get_told (after_write T₂ 5 4 (0x41 ∷ 0x42 ∷ 0x43 ∷ 0x44 ∷ [])) 5) (value (0x33 ∷ 0x45 ∷ 0x31 ∷ 0x30 ∷ 0x41 ∷ 0x42 ∷ 0x43 ∷ 0x44 ∷ []))
    -- offset 2, no bytes: length 2
    ∷ fact (get_told (after_write T₂ 5 2 []) 5) (value (0x33 ∷ 0x45 ∷ []))
    -- saved tables
    ∷ fact (read_told (0x00 ∷ 0x00 ∷ 0x00 ∷ 0x00 ∷ [])) done
    ∷ fact (read_told (0x00 ∷ 0x00 ∷ 0x00 ∷ [])) (refused 4)
    ∷ fact (read_told (0x01 ∷ 0x00 ∷ 0x01 ∷ 0x00 ∷ 0x01 ∷ 0x80 ∷ 0x00 ∷ 0x00 ∷ 0x00 ∷ [])) (refused 4)
    ∷ fact (get_told (0x01 ∷ 0x00 ∷ 0x03 ∷ 0x00 ∷ 0x01 ∷ 0x00 ∷ 0x02 ∷ 0x00 ∷ 0xAA ∷ 0xBB ∷ 0xCC ∷ []) 1) (value (0xCC ∷ []))
    -- requests: Read of absent 9; Find Information 5 to 4
    ∷ fact (answered 23 (Read 9) []) (value (0x01 ∷ 0x0A ∷ 0x09 ∷ 0x00 ∷ 0x0A ∷ []))
    ∷ fact (answered 23 (FindInformation (record { start = 5; end = 4 })) []) (value (0x01 ∷ 0x08 ∷ 0x05 ∷ 0x00 ∷ 0x01 ∷ []))
    -- Read By Type of values of 5, 5 and 6 bytes: buffer 23 gives 23 bytes, the third cut to 5; buffer 24 gives 16
    -- bytes, two entries
    ∷ fact (answered 23 (ReadByType everything) (0x07 ∷ 0x00 ∷ []))
    (value (two_rows ++ (0x03 ∷ 0x00 ∷ 0x43 ∷ 0x43 ∷ 0x43 ∷ 0x43 ∷ 0x43 ∷ [])))
    ∷ fact (answered 24 (ReadByType everything) (0x07 ∷ 0x00 ∷ [])) (value two_rows)
    ∷ []

-- the statement: each fact computes to what the paper says
pub data Hold : List Fact → Type 0 where
  none : Hold []
  one : {f : Fact} {fs : List Fact} → f.computed ≡ f.paper → Hold fs → Hold (f ∷ fs)

abbrev pub FactsHold : Type 0
FactsHold = Hold facts
