-- Document 01's own example of what is printed. Assumes nothing.
use Rattle.std.specs.Prelude.{ℕ, ◌≡◌, List, [], ◌∷◌}
use Rattle.table_printer.specs.Lines.{table_lines}

-- T, from key 3 fixed 2 and key 5 variable 8, after 3E1047 and then 3E10 were written to 5
abbrev pub saved : List ℕ
saved = 2 ∷ 0 ∷ 12 ∷ 0 ∷ 3 ∷ 0 ∷ 0 ∷ 0 ∷ 5 ∷ 0x80 ∷ 2 ∷ 0 ∷ 0 ∷ 0 ∷ 4 ∷ 0 ∷ 0x33 ∷ 0x45 ∷ 0x31 ∷ 0x30 ∷ 0x34 ∷ 0x37 ∷ 0 ∷ 0 ∷ []

-- `entries 2`, `3 F 2 0000` and `5 V 4 33453130`, whole
abbrev pub lines : List ℕ
lines =
    101 ∷ 110 ∷ 116 ∷ 114 ∷ 105 ∷ 101 ∷ 115 ∷ 32 ∷ 50 ∷ 10
    ∷ 51 ∷ 32 ∷ 70 ∷ 32 ∷ 50 ∷ 32 ∷ 48 ∷ 48 ∷ 48 ∷ 48 ∷ 10
    ∷ 53 ∷ 32 ∷ 86 ∷ 32 ∷ 52 ∷ 32 ∷ 51 ∷ 51 ∷ 52 ∷ 53 ∷ 51 ∷ 49 ∷ 51 ∷ 48 ∷ 10 ∷ []

abbrev pub PrintsAsWritten : Type 0
PrintsAsWritten = table_lines saved ≡ lines
