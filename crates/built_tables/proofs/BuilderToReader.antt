-- The theorem of `specs/BuilderToReader.antt`: a builder acts as a list, so does the table built of it, and what `raw`
-- shows is the same table. Assumes nothing.
use mathlib.Core.Path.{◌≡◌, sym, ap, ◌∙◌}
use mathlib.Core.Bool.{true}
use mathlib.Core.List.{List}
use Prim.Native.Nat.{ℕ}
use lib.ListN.{take}
use Rattle.wire.specs.Run.{after_all, told_all}
use Rattle.table_view.specs.Layout.{end_of}
use Rattle.table_view.specs.Rules.{accepts}
use Rattle.table_view.specs.View.{Item, view}
use Rattle.table_view.specs.Told.{done}
use Rattle.table_view.specs.Read.{value_in, get_told}
use Rattle.table_view.proofs.Answers.{read_done}
use Rattle.table_view.proofs.Same.{raw_accepted, raw_view}
use Rattle.client_att_table.specs.AsList.{TableCall, bytes_told, bytes_after, list_told, list_after}
use Rattle.client_att_table.proofs.AsList.{raw_shown, table_is_list}
use Rattle.client_att_table.proofs.Tails.{all_zero, tails_stay_zero}
use Rattle.table_builder.specs.Push.{builder, build_told, after_build}
use Rattle.table_builder.proofs.Laws.{by_zeros, is_table}
use Rattle.table_builder.proofs.AsList.{builder_is_list}
use Rattle.built_tables.specs.BuilderToReader.{builder_after, table_built, table_after, BuilderToReader}

-- a builder is built, and its bytes are the table
module _ (bs there : List ℕ) (ok : builder bs ≡ true) where
  build_done : build_told bs ≡ done
  unfolding build_told
  build_done = rw ok

  build_left : after_build bs there ≡ bs
  unfolding after_build
  build_left = rw ok

-- the reader of a table with that list
get_of_list : (bs : List ℕ) (xs : List Item) → accepts bs ≡ true → view bs ≡ xs → (k : ℕ) → get_told bs k ≡ value_in k xs
unfolding get_told
get_of_list bs xs ok e k = rw ok (ap (value_in k) e)

-- calls on a table with a list
module _ (bs : List ℕ) (xs : List Item) (ok : accepts bs ≡ true) (e : view bs ≡ xs) (cs : List TableCall) where
  calls_told : told_all bytes_after bytes_told bs cs ≡ told_all list_after list_told xs cs
  calls_told = rw (← e) (table_is_list bs ok cs).told

  calls_left : view (after_all bytes_after bs cs) ≡ after_all list_after xs cs
  calls_left = rw (← e) (table_is_list bs ok cs).reads

pub builder_to_reader : BuilderToReader
builder_to_reader there ps cs =
    let b = builder_is_list ps in
    let same = build_left (builder_after ps) there b.ok in
    let ok = ap accepts same ∙ is_table _ b.ok in
    let list = ap view same ∙ b.reads in
    let zeros = by_zeros (builder_after ps) (is_table _ b.ok) ∙ b.ok in
    let out = table_after there ps cs in
    let kept = (table_is_list (table_built there ps) ok cs).ok in
    let reads = raw_view out kept ∙ calls_left _ _ ok list cs in
    record {
      pushes = b.told;
      build = build_done (builder_after ps) there b.ok;
      calls = calls_told _ _ ok list cs;
      saved = take (end_of out) out;
      shown = raw_shown out kept;
      accepted = sym (read_done _ (raw_accepted out kept));
      reads = reads;
      gets = get_of_list _ _ (raw_accepted out kept) reads;
      tails = (tails_stay_zero (table_built there ps) ok (rw same (all_zero _ zeros)) cs).saved _ (raw_shown out kept);
    }
