-- The calls on values, one law for each way through them. Assumes nothing.
use Rattle.std.specs.Prelude.{Option, Some, None, Result, Ok, Err}
use mathlib.Core.Path.{◌≡◌, refl}
use mathlib.Core.List.{List, []}
use Prim.Native.Nat.{ℕ}
use native.Mathlib.Omega.{arith}
use lib.ListN.{length, get_or, take, length-take}
use Rattle.attribute.specs.Record.{attribute_of}
use Rattle.reading.specs.Copy.{copied_of, copy_of}
use Rattle.model.specs.Value.{Contents, Bytes, Code, read_of}
use Rattle.model.specs.Told.{Answered}
use Rattle.model.proofs.Sending.{answered}
use Rattle.application.specs.Calls.{got_told, fetch_told}
use Rattle.model.specs.declared.Answer.{Answer}
use Rattle.model.specs.declared.Answer.TheVariants.{Value}
use Rattle.model.specs.declared.CallError.TheVariants.{Att, NoHandle}
use Rattle.model.specs.declared.CallError.{CallError}
use Rattle.wire.specs.declared.att.AttError.{AttError}

-- `get`: what the copy comes to, as an answer
abbrev pub answer_copied : Result ℕ AttError → Result Answer CallError
answer_copied (Ok n) = Ok (Value n)
answer_copied (Err e) = Err (Att e)

-- what is copied is what is told
copy_told : (old : List ℕ) (g : Contents) → Answered old (copy_of old g) (answer_copied (copied_of (length old) g)) (got_told (length old) g)
unfolding copy_of copied_of
copy_told old (Bytes v) =
    let l = length-take (length old) v in
    answered old _ _ (take (length old) v) (record { size = omega (arith, l); fits = omega (arith, l); bytes = refl })
copy_told old (Code c) = record { told = refl; out = refl; fits = tt }

module _ (list : List (List ℕ)) (store : List ℕ) (t : List ℕ) (f : Option ℕ) (old : List ℕ) where
  pub not_listed : f ≡ None → Answered old old (Err NoHandle) (fetch_told list store t f (length old))
  not_listed e = rw e (record { told = refl; out = refl; fits = tt })

  pub fetched : (i : ℕ) → f ≡ Some i → (u : List ℕ) → u ≡ t → (c : Result ℕ AttError) (new : List ℕ)
      → (c ≡ copied_of (length old) (read_of store u (attribute_of (get_or list i [])))) × (new ≡ copy_of old (read_of store u (attribute_of (get_or list i []))))
      → Answered old new (answer_copied c) (fetch_told list store t f (length old))
  fetched i e u s c new p = rw (e, ← s, p.0, p.1) (copy_told old (read_of store u (attribute_of (get_or list i []))))
