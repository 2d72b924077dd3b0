-- The builder (document 01): bytes that are a table with zeros after its index, and one entry more. Assumes nothing.
use Rattle.std.specs.Prelude.{ℕ, ◌+◌, ◌-◌, Bool, cond, List, drop, leb, ltb, eqb, Result, Ok, Err}
use Rattle.std.proofs.lemmas.List.Edits.{sets}
use Rattle.wire.specs.Size.{table_bytes, value_bytes}
use Rattle.wire.specs.Test.{both}
use Rattle.wire.specs.Bytes.{zeros}
use Rattle.wire.specs.Number.{word_bytes}
use Rattle.table_view.specs.Layout.{count_of, values_len, base_of, end_of, key_at}
use Rattle.table_view.specs.Rules.{accepts}
use Rattle.table_view.specs.Told.{Told, done, refused}
use Rattle.table_builder.specs.declared.PushError.{PushError}
use Rattle.table_builder.specs.declared.PushError.TheVariants.{BadBuilder, BadEntry, NoRoom}

-- the number of each answer
abbrev pub told_pushed : Result (Unit {0}) PushError → Told
told_pushed (Ok x) = done
told_pushed (Err BadBuilder) = refused 4
told_pushed (Err BadEntry) = refused 5
told_pushed (Err NoRoom) = refused 6

-- a builder's bytes pass the reading rules, and those after its index are all zero
unfoldable pub builder : List ℕ → Bool
builder bs = both (accepts bs) (zeros (drop (base_of bs) bs))

-- the last key; 0 where there is none
unfoldable pub last_key : List ℕ → ℕ
last_key bs = cond (eqb (count_of bs) 0) 0 (key_at bs (count_of bs - 1))

-- length at most 512, key at most 0x7FFF and above the last, and so above 0
unfoldable pub entry_fits : ℕ → ℕ → ℕ → Bool
entry_fits last k n = both (leb n value_bytes) (both (leb k 32767) (ltb last k))

-- how many bytes a value takes: a variable one starts with a 2-byte length
unfoldable pub value_size : ℕ → Bool → ℕ
value_size n var = cond var (n + 2) n

-- a key with 0x8000 set for variable length
unfoldable pub flagged : ℕ → Bool → ℕ
flagged k var = cond var (k + 32768) k

-- what a push answers, the lowest number first: a table of at most 640 bytes grows by 4 for the entry and by its value
unfoldable pub push_plan : List ℕ → ℕ → ℕ → Bool → Result (Unit {0}) PushError
push_plan bs k n var =
    cond (builder bs)
    (cond (entry_fits (last_key bs) k n) (cond (leb (end_of bs + 4 + value_size n var) table_bytes) (Ok tt) (Err NoRoom)) (Err BadEntry))
    (Err BadBuilder)

abbrev pub push_told : List ℕ → ℕ → ℕ → Bool → Told
push_told bs k n var = told_pushed (push_plan bs k n var)

-- count and values length moved, and the entry after the last, at the former values' end
unfoldable pub with_entry : List ℕ → ℕ → ℕ → Bool → List ℕ
with_entry bs k n var =
    sets
    (sets
    (sets (sets bs 0 (word_bytes (count_of bs + 1))) 2 (word_bytes (values_len bs + value_size n var)))
    (base_of bs)
    (word_bytes (flagged k var)))
    (base_of bs + 2)
    (word_bytes (values_len bs))

-- a refused push leaves every byte
abbrev pub if_added : Result (Unit {0}) PushError → List ℕ → List ℕ → List ℕ
if_added (Ok x) new old = new
if_added (Err e) new old = old

abbrev pub after_push : List ℕ → ℕ → ℕ → Bool → List ℕ
after_push bs k n var = if_added (push_plan bs k n var) (with_entry bs k n var) bs

-- `build`: the table is the builder's bytes, or it stays
unfoldable pub build_told : List ℕ → Told
build_told bs = cond (builder bs) done (refused 4)

unfoldable pub after_build : List ℕ → List ℕ → List ℕ
after_build bs table = cond (builder bs) bs table
