-- `reading_by_type::inner::read_by` meets its contract. A law for each answer, by the range and by what the search
-- finds. Assumes nothing.
use mathlib.Core.Path.{sym, ap, ◌∙◌}
use Prim.Native.Nat.{ℕ, ◌+◌, ◌-◌, ◌≤◌, ◌<◌}
use native.Mathlib.Omega.{arith}
use lib.ListN.{length}
use Rattle.std.specs.Prelude.{Option}
use Rattle.std.specs.Option.{unwrap_or}
use Rattle.attribute_walk.proofs.Halves.{ascending}
use Rattle.attribute_walk.proofs.Walks.{found_late, found_early, first_wanted, none_wanted, picks_type, picks_later}
use Rattle.model.proofs.Sending.{sent_as, bad_range, good_range}
use Rattle.reading_by_type.proofs.Lists.{cut_limit, none_found, first_code, first_value, header_fits, sent_rows}
use Rattle.reading_by_type.proofs.inner.read_by.Goals as goal
use Rattle.reading_by_type.proofs.inner.read_by.Goals.{In-Some}

-- the place that was found lies in the stretch
early : (c : In-Some) →
    c.in-Some.first < c.stretch-p.result.to
early c =
    found_early _ c.args.v.list.now _ c.stretch-p.result.from c.stretch-p.ensures.1.inside _
    (sym c.find_type.ensures ∙ c.in-Some.is)

late : (c : In-Some) →
    c.stretch-p.result.from ≤ c.in-Some.first
late c =
    found_late _ c.args.v.list.now _ c.stretch-p.result.from c.stretch-p.ensures.1.inside _
    (sym c.find_type.ensures ∙ c.in-Some.is)

pub returns-then-is_bad : goal.returns-then-is_bad
returns-then-is_bad c =
    sent_as _ _ _ _ _ c.error_response.ensures (bad_range _ _ (sym c.is_bad.ensures ∙ c.if-is_bad.true))

pub stretch-p-requires : goal.stretch-p-requires
stretch-p-requires c =
    ascending _ _ c.args.v.ready.right

pub returns-in_default : goal.returns-in_default
returns-in_default c =
    rw (← c.form_of-form.ensures.0) (sent_as _ _ _ _ _ c.error_response-in_default.ensures
    (none_found _ _ _ _ _ _ _ _ (none_wanted _ _ _ _ c.stretch-p.ensures.0 c.stretch-p.ensures.1 _
    (sym c.find_type.ensures ∙ c.in_default.is)) ∙ good_range _ _
    (sym c.is_bad.ensures ∙ c.if-is_bad.false)))

pub locate_at-requires : goal.locate_at-requires
locate_at-requires c = (
  omega (arith, early (goal.at.locate_at-requires c).In-Some, c.stretch-p.ensures.1.inside),
  c.args.v.ready.table,
)

pub handle_at-h-requires : goal.handle_at-h-requires
handle_at-h-requires c =
    omega (arith, early (goal.at.handle_at-h-requires c).In-Some, c.stretch-p.ensures.1.inside)

pub put_list-c-requires : goal.put_list-c-requires
put_list-c-requires c = record {
  from_le_to = (
    omega (arith, early (goal.at.put_list-c-requires c).In-Some),
    c.stretch-p.ensures.1.inside,
    c.unwrap_or-n.ensures ∙ ap (λ (x : Option ℕ). unwrap_or x 0) c.short_of-short.ensures,
  );
  len_in_bounds = (
    header_fits _ _ _ _ _ _ _ _ (omega (arith, c.requires)) c.new.ensures.0 c.byte-c.ensures.0
        c.byte-c.ensures.1 c.byte-c-in-Ok.ensures.0 c.byte-c-in-Ok.ensures.1,
    omega (
      arith,
      cut_limit c.form_of-form.result (length c.args.out.now - 2) c.in-Ok.s.len,
      c.cut-size.ensures,
    ),
    omega (arith, c.form_of-form.ensures.1),
  );
}

pub returns-in-Err : goal.returns-in-Err
returns-in-Err c =
    rw (← c.form_of-form.ensures.0) (sent_as _ _ _ _ _ c.error_response-in-Err.ensures
    (first_code _ _ _ _ _ _ _ _ _ (first_wanted _ _ _ _ c.stretch-p.ensures.0 c.stretch-p.ensures.1 _ _
    (sym c.find_type.ensures ∙ c.in-Some.is)) _ c.locate_at.ensures _ _ c.in-Err.is
    c.handle_at-h.ensures ∙ good_range _ _ (sym c.is_bad.ensures ∙ c.if-is_bad.false)))

pub returns-in-Ok : goal.returns-in-Ok
returns-in-Ok c =
    rw (← c.form_of-form.ensures.0) (sent_rows _ _ _ _ _ _ _ _ (omega (arith, c.requires)) c.new.ensures.0 c.byte-c.ensures.0
    c.byte-c.ensures.1 c.byte-c-in-Ok.ensures.0 c.byte-c-in-Ok.ensures.1 _ _ _ _ _ _
    (ap (λ (x : ℕ). c.cut-size.result + x) c.extra.ensures.0)
    (c.put_list-c.ensures _
    (picks_later _ _ _ _ _ _ (late (goal.at.returns-in-Ok c).In-Some) (picks_type _ _ _ _ c.stretch-p.ensures.0 c.stretch-p.ensures.1 _)))
    (first_value _ _ _ _ _ _ _ _ _ (first_wanted _ _ _ _ c.stretch-p.ensures.0 c.stretch-p.ensures.1 _ _
    (sym c.find_type.ensures ∙ c.in-Some.is)) _ c.locate_at.ensures c.args.v.ready _
    c.in-Ok.is _ c.cut-size.ensures ∙ good_range _ _ (sym c.is_bad.ensures ∙ c.if-is_bad.false)))
