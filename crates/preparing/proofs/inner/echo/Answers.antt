-- `preparing::inner::echo` meets its contract. Four writes of the cursor, joined. Assumes nothing.
use Rattle.preparing.proofs.Preparing.{echoed}
use Rattle.preparing.proofs.inner.echo.Goals as goal

pub returns : goal.returns
returns c =
    echoed _ _ _ _ _ _ _ _ _ _ _ _ _ c.requires c.new.ensures.0 c.byte-c.ensures.0 c.byte-c.ensures.1
    c.word-c.ensures.0 c.word-c.ensures.1 c.word-c-2.ensures.0 c.word-c-2.ensures.1
    c.append-c.ensures.0 c.append-c.ensures.1
