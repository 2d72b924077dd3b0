-- What a request asks of the buffer for its answer. Assumes nothing.
use Rattle.std.specs.Prelude.{ℕ}
use Rattle.model.specs.declared.Request.{Request}
use Rattle.model.specs.declared.Request.TheVariants as request
use Rattle.writing.specs.Fits.{Fits}

abbrev pub RequestFits : Request → ℕ → ℕ → Type 0
RequestFits (request.Ask a) n room = Unit {0}
RequestFits (request.FindByTypeValue g uuid) n room = Unit {0}
RequestFits (request.Change c) n room = Fits c n room
RequestFits (request.ExchangeMtu mtu) n room = Unit {0}
RequestFits request.Confirmation n room = Unit {0}
