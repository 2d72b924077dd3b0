-- Needs and links (document 01, "Attributes"). Assumes nothing.
use Rattle.std.specs.Prelude.{ℕ, cond, List, [], get_or, eqb, leb, Option, Some, None, Result, Ok, Err}
use Rattle.wire.specs.Att.{code_of}
use Rattle.wire.specs.declared.att.AttError.{AttError}
use Rattle.wire.specs.declared.att.AttError.TheVariants.{InvalidHandle, ReadNotPermitted, WriteNotPermitted, InsufficientAuthentication, InsufficientEncryption}
use Rattle.table_view.specs.Told.{Told, done, att}
use Rattle.attribute.specs.Record.{attribute_of}
use Rattle.attribute.specs.Lookup.{place_of}
use Rattle.attribute.specs.declared.Attribute.{Attribute}
use Rattle.attribute.specs.declared.Link.{Link}
use Rattle.attribute.specs.declared.Link.TheVariants.{Plain, Encrypted, Authenticated, Gone}
use Rattle.attribute.specs.declared.Wish.{Wish}
use Rattle.attribute.specs.declared.Wish.TheVariants.{Read, Write}

-- what stands behind a test of a need, or a write: that it may be done, or the ATT error that says why not
abbrev pub Access : Type 0
Access = Result (Unit {0}) AttError

-- what is told by an answer that says why not by anything that has a code
abbrev pub told_as : {C : Type 0} → (C → ℕ) → Result (Unit {0}) C → Told
told_as code (Ok x) = done
told_as code (Err c) = att (code c)

-- what an access tells
abbrev pub told_access : Access → Told
told_access a = told_as code_of a

-- the highest need that a link meets: 1 any link, 2 encrypted, 3 authenticated, which is encrypted too; a link that is
-- gone meets none
abbrev pub level_of : Link → ℕ
level_of Plain = 1
level_of Encrypted = 2
level_of Authenticated = 3
level_of Gone = 0

-- gone is told before any need; need 0 is never met, and has the code `never`; then 0x0F for need 2 and 0x05 for need
-- 3. Each error is what `made` makes of it
unfoldable pub access_as : {C : Type 0} → (AttError → C) → Link → C → ℕ → Result (Unit {0}) C
access_as made link never need =
    cond (eqb (level_of link) 0) (Err (made InvalidHandle))
    (cond (eqb need 0) (Err never)
    (cond (leb need (level_of link)) (Ok tt)
    (cond (eqb need 2) (Err (made InsufficientEncryption)) (Err (made InsufficientAuthentication)))))

-- the same with the errors as they are
abbrev pub access_of : Link → AttError → ℕ → Access
access_of link never need = access_as (λ e. e) link never need

-- reading and writing
abbrev pub may_read : Attribute → Link → Access
may_read a link = access_of link ReadNotPermitted a.reads

abbrev pub may_write : Attribute → Link → Access
may_write a link = access_of link WriteNotPermitted a.writes

-- what a link wishes to do
abbrev pub may_do : Wish → Attribute → Link → Access
may_do Read a link = may_read a link
may_do Write a link = may_write a link

-- by handle: an absent one is 0x01
abbrev pub access_at : Wish → List (List ℕ) → Link → Option ℕ → Access
access_at wish list link None = Err InvalidHandle
access_at wish list link (Some i) = may_do wish (attribute_of (get_or list i [])) link

abbrev pub can_do : Wish → List (List ℕ) → Link → ℕ → Access
can_do wish list link h = access_at wish list link (place_of list h)

-- what a call that asks for each of these tells; need 0 may have any code
abbrev pub access_told : Link → ℕ → ℕ → Told
access_told link never need = told_as (λ c. c) (access_as code_of link never need)

abbrev pub can_do_told : Wish → List (List ℕ) → Link → ℕ → Told
can_do_told wish list link h = told_access (can_do wish list link h)
