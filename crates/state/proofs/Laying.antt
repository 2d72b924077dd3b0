-- Laying out a list's table entry by entry: each client value of a right list, whose table fits, is a push that is
-- added. Assumes nothing.
use Rattle.std.specs.Prelude.{Ok}
use mathlib.Core.Path.{◌≡◌, refl, sym, ◌∙◌}
use mathlib.Core.Bool.{Bool, true, false}
use mathlib.Core.List.{List, []}
use Prim.Native.Nat.{ℕ, ◌+◌, ◌≤◌, ◌<◌}
use native.Mathlib.Omega.{arith}
use lib.ListN.{length, get_or, drop, replicate}
use lib.Dec.{leb}
use borrow.Author.Tests.{le-leb, lt-leb}
use Rattle.wire.specs.Size.{table_bytes}
use Rattle.wire.specs.Run.{after_all}
use Rattle.wire.specs.Number.{word}
use Rattle.table_view.specs.Layout.{end_of}
use Rattle.table_builder.specs.Push.{builder, last_key, push_plan, with_entry}
use Rattle.table_builder.specs.AsList.{bytes_after}
use Rattle.table_builder.proofs.Laws.{added, adds}
use Rattle.table_builder.proofs.Grown.{grown, end_out, last_out, fresh_builder, pushed_length, pushed_builder}
use Rattle.attribute.specs.Record.{attribute_of}
use Rattle.attribute.specs.Rules.{list_ok}
use Rattle.attribute.proofs.Shape.{entry, ascends}
use Rattle.state.specs.Fresh.{push_of, clients_of, fresh_table, space_of, entries_size, table_size, entry_laid}
use Rattle.state.proofs.Sizes.{space_client, space_shared, laid_client, laid_shared, size_turn, size_over, client_turn, shared_turn, client_over}

-- the list's entries up to place i are laid out in out
pub record Laying (list : List (List ℕ)) (out : List ℕ) (i : ℕ) : Type 0 where
  pub at : i ≤ length list
  pub long : length out ≡ table_bytes
  pub ok : builder out ≡ true
  pub below : (j : ℕ) → i ≤ j → j < length list → last_key out < (attribute_of (get_or list j [])).handle
  pub fits : end_of out ≤ table_bytes
  pub total : end_of out + entries_size (drop i list) ≡ table_size list
  pub rest : after_all bytes_after out (clients_of (drop i list)) ≡ fresh_table list

fresh_end : end_of (replicate table_bytes 0) ≡ 4
unfolding word
fresh_end = refl

fresh_last : last_key (replicate table_bytes 0) ≡ 0
unfolding last_key word
fresh_last = refl

module _ (list : List (List ℕ)) (store : ℕ) (right : list_ok list store ≡ true) where
  pub none_laid : (out : List ℕ) → out ≡ replicate table_bytes 0 → Laying list out 0
  unfolding fresh_table
  none_laid out e =
      rw e (record {
        at = omega arith;
        long = refl;
        ok = fresh_builder;
        below = λ j a h. omega (arith, fresh_last, (entry list store right j h).positive);
        fits = omega (arith, fresh_end);
        total = omega (arith, fresh_end);
        rest = refl;
      })

  -- an entry that the table has no room for
  pub no_room : (out : List ℕ) (i : ℕ) → Laying list out i → i < length list → table_bytes < end_of out + space_of (attribute_of (get_or list i [])) → false ≡ leb (table_size list) table_bytes
  no_room out i w h l = sym (lt-leb (table_size list) table_bytes (omega (arith, w.total, size_turn list i h)))

  module _ (out : List ℕ) (i : ℕ) (w : Laying list out i) (h : i < length list) (entry-room : end_of out + space_of (attribute_of (get_or list i [])) ≤ table_bytes) where
    shared_laid : (attribute_of (get_or list i [])).client ≡ false → Laying list out (i + 1)
    shared_laid c =
        record {
          at = omega arith;
          long = w.long;
          ok = w.ok;
          below = λ j a l. w.below j (omega arith) l;
          fits = w.fits;
          total = omega (arith, w.total, size_turn list i h, space_shared (attribute_of (get_or list i [])) c);
          rest = rw (shared_turn list i h c) at w.rest;
        }

    -- a client value is a push that is added
    client_added : (attribute_of (get_or list i [])).client ≡ true → (Ok tt) ≡ push_plan out (attribute_of (get_or list i [])).handle (attribute_of (get_or list i [])).cap (attribute_of (get_or list i [])).variable
    client_added c =
        let e = entry list store right i h in
        added out _ _ _ w.ok e.cap e.low (w.below i (omega arith) h) (omega (arith, entry-room, space_client (attribute_of (get_or list i [])) c))

    client_pushed : (attribute_of (get_or list i [])).client ≡ true → bytes_after out (push_of (attribute_of (get_or list i []))) ≡ with_entry out (attribute_of (get_or list i [])).handle (attribute_of (get_or list i [])).cap (attribute_of (get_or list i [])).variable
    client_pushed c = rw (← client_added c)

    client_laid : (attribute_of (get_or list i [])).client ≡ true → Laying list (bytes_after out (push_of (attribute_of (get_or list i [])))) (i + 1)
    unfolding after_all
    client_laid c =
        let a = adds out _ _ _ (sym (client_added c)) in
        let g = grown out (attribute_of (get_or list i [])).handle (attribute_of (get_or list i [])).cap (attribute_of (get_or list i [])).variable (omega (arith, w.long, a.room)) in
        record {
          at = omega arith;
          long = pushed_length out _ _ _ ∙ w.long;
          ok = pushed_builder out _ _ _ (omega (arith, w.long)) w.ok;
          below = λ j b l. rw (client_pushed c, last_out out _ _ _ _ a g) (ascends list store right i j (omega arith) l);
          fits = rw (client_pushed c) (omega (arith, entry-room, space_client (attribute_of (get_or list i [])) c, end_out out _ _ _ _ a g));
          total = rw (client_pushed c) (omega (arith, w.total, size_turn list i h, space_client (attribute_of (get_or list i [])) c, end_out out _ _ _ _ a g));
          rest = rw (client_turn list i h c) at w.rest;
        }

    pub one_laid : (next : List ℕ) → next ≡ entry_laid out (attribute_of (get_or list i [])) → Laying list next (i + 1)
    one_laid next e = by (attribute_of (get_or list i [])).client refl
      where
        by : (t : Bool) → (attribute_of (get_or list i [])).client ≡ t → Laying list next (i + 1)
        by true c = rw (e ∙ laid_client (attribute_of (get_or list i [])) out c ∙ sym (client_pushed c)) (client_laid c)
        by false c = rw (e ∙ laid_shared (attribute_of (get_or list i [])) out c) (shared_laid c)

  -- all laid out: the table has room, and it is the fresh one
  pub all_fits : (out : List ℕ) (i : ℕ) → Laying list out i → length list ≤ i → true ≡ leb (table_size list) table_bytes
  all_fits out i w h = sym (le-leb (table_size list) table_bytes (omega (arith, w.total, w.fits, size_over list i h)))

  pub all_laid : (out : List ℕ) (i : ℕ) → Laying list out i → length list ≤ i → out ≡ fresh_table list
  unfolding after_all
  all_laid out i w h = rw (client_over list i h) at w.rest
