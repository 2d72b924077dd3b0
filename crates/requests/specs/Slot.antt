-- Which requests look at the asking peer's own values, and so need its slot. Assumes nothing.
use Rattle.std.specs.Prelude.{Bool, true, false, cond, Option, None}
use Rattle.model.specs.declared.Ask.TheVariants.{FindInformation, ReadByType, ReadByGroupType, Read, ReadBlob, ReadMultiple}
use Rattle.model.specs.declared.Change.TheVariants.{Write, WriteCommand, PrepareWrite, ExecuteWrite}
use Rattle.model.specs.declared.Request.{Request}
use Rattle.model.specs.declared.Request.TheVariants as request
use Rattle.peers.specs.declared.Seat.{Seat}

-- Find Information tells handles and types, Read Multiple is not served, and Prepare Write changes the link's record
-- alone
abbrev pub needs_slot : Request → Bool
needs_slot (request.Ask (FindInformation g)) = false
needs_slot (request.Ask (ReadByType g)) = true
needs_slot (request.Ask (ReadByGroupType g)) = true
needs_slot (request.Ask (Read h)) = true
needs_slot (request.Ask (ReadBlob h off)) = true
needs_slot (request.Ask ReadMultiple) = false
needs_slot (request.FindByTypeValue g uuid) = false
needs_slot (request.Change (Write h)) = true
needs_slot (request.Change (WriteCommand h)) = true
needs_slot (request.Change (PrepareWrite h off)) = false
needs_slot (request.Change (ExecuteWrite flags)) = true
needs_slot (request.ExchangeMtu mtu) = false
needs_slot request.Confirmation = false

-- the slot that it is given: none, where it needs none
unfoldable pub given_slot : Request → Option Seat → Option Seat
given_slot rq slot = cond (needs_slot rq) slot None
