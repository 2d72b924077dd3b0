-- `reading_by_type::inner::put_lead` meets its contract. The handle, and the group's end behind it where the form wants
-- it. Assumes nothing.
use borrow.Author.Tests.{not-true, not-false}
use Rattle.reading_by_type.proofs.Lists.{lead_plain, lead_group}
use Rattle.reading_by_type.proofs.inner.put_lead.Goals as goal

pub returns-then-not-form : goal.returns-then-not-form
returns-then-not-form c =
    lead_plain _ _ _ _ _ _ _ _ c.requires.i_in_bounds.1 c.handle_at.ensures c.word-c.ensures.0
    c.word-c.ensures.1 (not-true _ c.if-not-form.true)

pub returns : goal.returns
returns c =
    let g = not-false _ c.if-not-form.false in
    lead_group _ _ _ _ _ _ _ _ c.requires.i_in_bounds.1 c.handle_at.ensures c.word-c.ensures.0
    c.word-c.ensures.1 g _ _ _ (c.requires.end_value g) c.word.ensures.0 c.word.ensures.1
