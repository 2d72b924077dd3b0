-- What is left where a shorter value was written, by each way of writing (document 02, K3), on a fresh hub: what the
-- definitions behind the promises compute, beside what the paper says. Assumes nothing.
use Rattle.std.specs.Prelude.{ℕ, List, [], ◌∷◌, length, take, get_or, replicate}
use Rattle.wire.specs.Size.{value_bytes}
use Rattle.table_view.specs.Told.{value}
use Rattle.attribute.specs.declared.Link.TheVariants.{Plain}
use Rattle.state.specs.State.{State, Waiting, waiting}
use Rattle.state.specs.Fresh.{fresh_state}
use Rattle.model.specs.Change.{no_record}
use Rattle.model.specs.declared.Change.{Change}
use Rattle.model.specs.declared.Change.TheVariants.{Write, WriteCommand, ExecuteWrite}
use Rattle.model.specs.declared.Request.TheVariants as request
use Rattle.attribute_server.specs.Connection.{connect_left}
use Rattle.attribute_server.specs.Request.{query, process_left}
use Rattle.attribute_server.specs.Value.{set_left}
use Rattle.facts.specs.Facts.{Fact, fact, tablet, Hold}

-- SECRET, and abc
abbrev secret : List ℕ
secret = 0x53 ∷ 0x45 ∷ 0x43 ∷ 0x52 ∷ 0x45 ∷ 0x54 ∷ []

abbrev abc : List ℕ
abc = 0x61 ∷ 0x62 ∷ 0x63 ∷ []

-- a variable value of six bytes at most, for every link: shared where the kind is 1, and holding six; a client's where
-- it is 3
abbrev six : ℕ → ℕ → ℕ → List ℕ
six h len kind = h ∷ 0 ∷ 6 ∷ 0 ∷ 0 ∷ 0 ∷ len ∷ 0 ∷ 1 ∷ 1 ∷ kind ∷ 2 ∷ h ∷ 0x2A ∷ replicate 18 0

-- a hub with SECRET under handle 1, whose tablet has SECRET under handle 2
abbrev hub : State
hub = set_left (connect_left (fresh_state (six 1 6 1 ∷ six 2 0 3 ∷ []) secret) tablet) tablet 2 secret

-- after a request of the tablet's, over a plain link at which this waits
abbrev after : Waiting → Change → List ℕ → State
after w c d = process_left hub w (query tablet Plain (request.Change c) d) 23

abbrev idle : Waiting
idle = waiting no_record (replicate value_bytes 0)

-- a prepared write from offset 2 of the tablet's value
abbrev prepared : List ℕ → Waiting
prepared d = waiting (record { handle = 2; offset = 2; len = length d }) d

-- the tablet's table up to its end, with these bytes in its value
abbrev saved : State → List ℕ
saved s = take 16 (get_or s.tables 0 [])

abbrev holding : List ℕ → List ℕ
holding v = 0x01 ∷ 0x00 ∷ 0x08 ∷ 0x00 ∷ 0x02 ∷ 0x80 ∷ 0x00 ∷ 0x00 ∷ v

abbrev pub tails : List Fact
tails =
    -- before; then by Write, Write Command, Execute and `set`
    fact (value (saved hub)) (value (holding (0x06 ∷ 0x00 ∷ secret)))
    ∷ fact (value (saved (after idle (Write 2) abc))) (value (holding (0x03 ∷ 0x00 ∷ 0x61 ∷ 0x62 ∷ 0x63 ∷ 0x00 ∷ 0x00 ∷ 0x00 ∷ [])))
    ∷ fact (value (saved (after idle (WriteCommand 2) abc))) (value (holding (0x03 ∷ 0x00 ∷ 0x61 ∷ 0x62 ∷ 0x63 ∷ 0x00 ∷ 0x00 ∷ 0x00 ∷ [])))
    ∷ fact (value (saved (after (prepared abc) (ExecuteWrite 1) []))) (value (holding (0x05 ∷ 0x00 ∷ 0x53 ∷ 0x45 ∷ 0x61 ∷ 0x62 ∷ 0x63 ∷ 0x00 ∷ [])))
    ∷ fact (value (saved (after (prepared []) (ExecuteWrite 1) []))) (value (holding (0x02 ∷ 0x00 ∷ 0x53 ∷ 0x45 ∷ 0x00 ∷ 0x00 ∷ 0x00 ∷ 0x00 ∷ [])))
    ∷ fact (value (saved (set_left hub tablet 2 abc))) (value (holding (0x03 ∷ 0x00 ∷ 0x61 ∷ 0x62 ∷ 0x63 ∷ 0x00 ∷ 0x00 ∷ 0x00 ∷ [])))
    -- a shared value keeps the old rule: every byte past the new length stays
    ∷ fact (value (set_left hub tablet 1 abc).store) (value (0x61 ∷ 0x62 ∷ 0x63 ∷ 0x52 ∷ 0x45 ∷ 0x54 ∷ []))
    ∷ []

-- the statement: each fact computes to what the paper says
abbrev pub TailsHold : Type 0
TailsHold = Hold tails
