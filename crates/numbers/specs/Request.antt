-- Links and requests by number (Core Vol 3 Part F 3.4: the opcodes). Assumes nothing.
use Rattle.std.specs.Prelude.{ℕ, Bool, true, cond, not, eqb}
use Rattle.attribute.specs.declared.Link.{Link}
use Rattle.attribute.specs.declared.Link.TheVariants.{Plain, Encrypted, Authenticated, Gone}
use Rattle.model.specs.declared.Range.{Range}
use Rattle.model.specs.declared.Ask.{Ask}
use Rattle.model.specs.declared.Ask.TheVariants.{FindInformation, ReadByType, ReadByGroupType, Read, ReadBlob, ReadMultiple}
use Rattle.model.specs.declared.Change.{Change}
use Rattle.model.specs.declared.Change.TheVariants.{Write, WriteCommand, PrepareWrite, ExecuteWrite}
use Rattle.model.specs.declared.Request.{Request}
use Rattle.model.specs.declared.Request.TheVariants as request
use Rattle.numbers.specs.declared.RequestNumbers.{RequestNumbers}

-- 1 plain, 2 encrypted, 3 authenticated; by any other number a link is gone
unfoldable pub link_of : ℕ → Link
link_of level = cond (eqb level 1) Plain (cond (eqb level 2) Encrypted (cond (eqb level 3) Authenticated Gone))

-- a flag: 0 is no, any other byte yes
abbrev pub is_set : ℕ → Bool
is_set b = not (eqb b 0)

abbrev pub range_of : RequestNumbers → Range
range_of q = record { start = q.handle; end = q.other }

-- the requests that only ask, by opcode: Read Multiple is the one that is left
unfoldable pub is_ask : ℕ → Bool
is_ask op =
    cond (eqb op 0x04) true
    (cond (eqb op 0x08) true (cond (eqb op 0x10) true (cond (eqb op 0x0A) true (cond (eqb op 0x0C) true (eqb op 0x0E)))))

unfoldable pub ask_of : RequestNumbers → Ask
ask_of q =
    cond (eqb q.op 0x04) (FindInformation (range_of q))
    (cond (eqb q.op 0x08) (ReadByType (range_of q))
    (cond (eqb q.op 0x10) (ReadByGroupType (range_of q))
    (cond (eqb q.op 0x0A) (Read q.handle) (cond (eqb q.op 0x0C) (ReadBlob q.handle q.other) ReadMultiple))))

-- those that may change something: Execute Write is the one that is left, and writes by 1
unfoldable pub is_change : ℕ → Bool
is_change op = cond (eqb op 0x12) true (cond (eqb op 0x52) true (cond (eqb op 0x16) true (eqb op 0x18)))

abbrev pub flags_of : ℕ → ℕ
flags_of n = cond (eqb n 1) 1 0

unfoldable pub change_of : RequestNumbers → Change
change_of q =
    cond (eqb q.op 0x12) (Write q.handle)
    (cond (eqb q.op 0x52) (WriteCommand q.handle)
    (cond (eqb q.op 0x16) (PrepareWrite q.handle q.other) (ExecuteWrite (flags_of q.other))))

-- the others; any other opcode is taken as a confirmation's, which is not answered and changes nothing
unfoldable pub other_of : RequestNumbers → Request
other_of q =
    cond (eqb q.op 0x02) (request.ExchangeMtu q.other)
    (cond (eqb q.op 0x06) (request.FindByTypeValue (range_of q) q.uuid) request.Confirmation)

unfoldable pub request_of : RequestNumbers → Request
request_of q =
    cond (is_ask q.op) (request.Ask (ask_of q)) (cond (is_change q.op) (request.Change (change_of q)) (other_of q))
