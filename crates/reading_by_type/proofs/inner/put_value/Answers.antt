-- `reading_by_type::inner::put_value` meets its contract: the lead, and the value behind it. Assumes nothing.
use Rattle.wire.proofs.Written.{wrote_then}
use Rattle.reading_by_type.proofs.Lists.{behind_lead}
use native.Mathlib.Omega.{arith}
use Rattle.reading_by_type.proofs.inner.put_value.Goals as goal

pub append_span-requires : goal.append_span-requires
append_span-requires c = record { n_in_bounds = (behind_lead _ _ _ _ _ _ _ _ c.requires.form_in_bounds c.put_lead-c.ensures, omega arith); len_in_bounds = c.requires.i_in_bounds.1 }

pub returns : goal.returns
returns c =
    wrote_then _ _ _ _ _ _ _ _ c.put_lead-c.ensures c.append_span.ensures
