-- The sizes of what is lent (document 01, "Numbers"; a record's is ours). Assumes nothing.
use Rattle.std.specs.Prelude.{ℕ}

-- a client table, and how many there are: one a slot
abbrev pub table_bytes : ℕ
table_bytes = 640

abbrev pub slot_count : ℕ
slot_count = 8

-- a slot of the row
abbrev pub slot_bytes : ℕ
slot_bytes = 8

-- an entry of the attribute list
abbrev pub record_bytes : ℕ
record_bytes = 32

-- a value at most, and so a prepared write
abbrev pub value_bytes : ℕ
value_bytes = 512
