-- A saved table as lines of text, in ASCII (document 01, end of "Worked facts"). Assumes nothing.
use Rattle.std.specs.Prelude.{ℕ, Bool, true, false, cond, List, [], ◌∷◌, ◌++◌, length, ltb}
use Rattle.text.specs.Hex.{hex_of}
use Rattle.text.specs.Decimal.{decimal_of}
use Rattle.table_view.specs.Rules.{accepts}
use Rattle.table_view.specs.View.{Item, view}

-- ` V ` or ` F `: variable or fixed
unfoldable pub kind_text : Bool → List ℕ
kind_text true = 32 ∷ 86 ∷ 32 ∷ []
kind_text false = 32 ∷ 70 ∷ 32 ∷ []

-- the value in capital hex, `-` if empty
unfoldable pub value_text : List ℕ → List ℕ
value_text [] = 45 ∷ []
value_text (x ∷ xs) = hex_of (x ∷ xs)

-- a line for an entry: decimal handle, fixed or variable, decimal length, a space, the value, the line's end
abbrev pub line_of : ℕ → Bool → List ℕ → List ℕ
line_of key variable v =
    decimal_of key ++ (kind_text variable ++ (decimal_of (length v) ++ ((32 ∷ []) ++ (value_text v ++ (10 ∷ [])))))

unfoldable pub entry_line : Item → List ℕ
entry_line x = line_of x.key x.variable x.value

unfoldable pub entry_lines : List Item → List ℕ
entry_lines [] = []
entry_lines (x ∷ xs) = entry_line x ++ entry_lines xs

-- `entries ` and how many there are
unfoldable pub heading : ℕ → List ℕ
heading n = (101 ∷ 110 ∷ 116 ∷ 114 ∷ 105 ∷ 101 ∷ 115 ∷ 32 ∷ []) ++ (decimal_of n ++ (10 ∷ []))

abbrev pub all_lines : List Item → List ℕ
all_lines xs = heading (length xs) ++ entry_lines xs

-- `too long`
abbrev pub too_long : List ℕ
too_long = 116 ∷ 111 ∷ 111 ∷ 32 ∷ 108 ∷ 111 ∷ 110 ∷ 103 ∷ 10 ∷ []

-- `refused 4`
abbrev pub refused_four : List ℕ
refused_four = 114 ∷ 101 ∷ 102 ∷ 117 ∷ 115 ∷ 101 ∷ 100 ∷ 32 ∷ 52 ∷ 10 ∷ []

-- up to 65,536 bytes, else `too long`; a bad table, `refused 4`; else the lines of its list of handles with values
unfoldable pub table_lines : List ℕ → List ℕ
table_lines bs = cond (ltb 65536 (length bs)) too_long (cond (accepts bs) (all_lines (view bs)) refused_four)
