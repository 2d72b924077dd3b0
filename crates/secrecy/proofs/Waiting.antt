-- What is pending at a link: under handle 0 nobody looks at the offset, and after a request it is decided by what was
-- pending and by the request. Assumes nothing.
use Rattle.std.specs.Prelude.{Option, Ok, Err}
use mathlib.Core.Path.{◌≡◌, refl, sym, ap, ◌∙◌}
use mathlib.Core.Bool.{Bool, true, false, cond}
use mathlib.Core.List.{List, [], ◌++◌}
use Prim.Native.Nat.{ℕ, ◌+◌, ◌≤◌}
use native.Mathlib.Omega.{arith}
use lib.Dec.{eqb}
use lib.ListN.{length, take, drop, length-append}
use lib.Seq.{sets, sets-eq, length-take-le, take-append_seam}
use borrow.Author.Tests.{eqb-true, leb-true}
use Rattle.wire.specs.Size.{value_bytes}
use Rattle.wire.proofs.Tests.{both_l, both_r, both_false_r}
use Rattle.attribute.specs.declared.Link.{Link}
use Rattle.state.specs.State.{State, Waiting, waiting}
use Rattle.state.specs.Valid.{record_ok}
use Rattle.state.specs.declared.Prepared.{Prepared}
use Rattle.model.specs.View.{View, Seen, Pending, pending_of}
use Rattle.model.specs.Answer.{prepare_rule, prepare_access, is_due, execute_access, change_told, request_told}
use Rattle.model.specs.Change.{if_granted, longer, may_prepare, state_after, state_by, record_after, data_after, record_by, data_by}
use Rattle.model.specs.declared.Request.{Request}
use Rattle.model.specs.declared.Request.TheVariants as request
use Rattle.model.specs.declared.Change.{Change}
use Rattle.model.specs.declared.Change.TheVariants.{Write, WriteCommand, PrepareWrite, ExecuteWrite}
use Rattle.preparing.proofs.Preparing.{granted_fits}
use Rattle.attribute_server.specs.Request.{Query, waiting_by}
use Rattle.secrecy.specs.Agree.{nothing, settled, pending_at}
use Rattle.attribute.specs.Needs.{Access}
use Rattle.peers.specs.declared.Seat.{Seat}
use Rattle.wire.specs.declared.att.AttError.TheVariants.{InvalidHandle}

-- what is the same of nothing and of what stands under handle 0, is the same once that is settled
settles : {X : Type 0} (f : Pending → X) (w : Pending) → (eqb w.handle 0 ≡ true → f w ≡ f nothing) → f w ≡ f (settled w)
settles f w h = by (eqb w.handle 0) refl
  where
    by : (t : Bool) → eqb w.handle 0 ≡ t → f w ≡ f (cond t nothing w)
    by true e = h e
    by false e = refl

-- a request's answer, and the state after it
module _ (w : Pending) (empty : eqb w.handle 0 ≡ true → w.bytes ≡ []) where
  due_nothing : (u : Pending) (flags : ℕ) → eqb u.handle 0 ≡ true → is_due u flags ≡ false
  unfolding is_due
  due_nothing u flags e = both_false_r _ _ (rw e)

  module _ (l : List Seen) where
    abbrev seen : Pending → View
    seen u = record { attrs = l; pending = u }

    change_told_lem : (e : eqb w.handle 0 ≡ true) (c : Change) (d : List ℕ) → change_told (seen w) c d ≡ change_told (seen nothing) c d
    unfolding change_told prepare_rule execute_access
    change_told_lem e (Write h) d = refl
    change_told_lem e (WriteCommand h) d = refl
    change_told_lem e (PrepareWrite h off) d = rw (e, empty e)
    change_told_lem e (ExecuteWrite flags) d = rw (due_nothing w flags e, due_nothing nothing flags refl)

    told_nothing : (list : List (List ℕ)) (store : List ℕ) (room : ℕ) (rq : Request) (d : List ℕ) → eqb w.handle 0 ≡ true → request_told (seen w) list store room rq d ≡ request_told (seen nothing) list store room rq d
    unfolding request_told
    told_nothing list store room (request.Ask a) d e = refl
    told_nothing list store room (request.FindByTypeValue g uuid) d e = refl
    told_nothing list store room (request.Change c) d e = change_told_lem e c d
    told_nothing list store room (request.ExchangeMtu mtu) d e = refl
    told_nothing list store room request.Confirmation d e = refl

    pub told_settled : (list : List (List ℕ)) (store : List ℕ) (room : ℕ) (rq : Request) (d : List ℕ) → request_told (seen w) list store room rq d ≡ request_told (seen (settled w)) list store room rq d
    told_settled list store room rq d = settles (λ (u : Pending). request_told (seen u) list store room rq d) w (told_nothing list store room rq d)

  module _ (link : Link) (s : State) (slot : Option Seat) (d : List ℕ) where
    change_nothing : (e : eqb w.handle 0 ≡ true) (c : Change) → state_after link s slot w c d ≡ state_after link s slot nothing c d
    unfolding state_after
    change_nothing e (Write h) = refl
    change_nothing e (WriteCommand h) = refl
    change_nothing e (PrepareWrite h off) = refl
    change_nothing e (ExecuteWrite flags) = rw (due_nothing w flags e, due_nothing nothing flags refl)

    state_nothing : (rq : Request) → eqb w.handle 0 ≡ true → state_by link s slot w rq d ≡ state_by link s slot nothing rq d
    unfolding state_by
    state_nothing (request.Ask a) e = refl
    state_nothing (request.FindByTypeValue g uuid) e = refl
    state_nothing (request.Change c) e = change_nothing e c
    state_nothing (request.ExchangeMtu mtu) e = refl
    state_nothing request.Confirmation e = refl

    pub state_settled : (rq : Request) → state_by link s slot w rq d ≡ state_by link s slot (settled w) rq d
    state_settled rq = settles (λ (u : Pending). state_by link s slot u rq d) w (state_nothing rq)

-- what is pending after a request
change_leaves : Pending → Change → List ℕ → Pending
change_leaves w (Write h) d = settled w
change_leaves w (WriteCommand h) d = settled w
change_leaves w (PrepareWrite h off) d =
    if_granted (prepare_access w h off (length d)) (record { handle = h; offset = cond (eqb w.handle 0) off w.offset; bytes = w.bytes ++ d }) (settled w)
change_leaves w (ExecuteWrite flags) d = nothing

request_leaves : Pending → Request → List ℕ → Pending
request_leaves w (request.Ask a) d = settled w
request_leaves w (request.FindByTypeValue g uuid) d = settled w
request_leaves w (request.Change c) d = change_leaves w c d
request_leaves w (request.ExchangeMtu mtu) d = settled w
request_leaves w request.Confirmation d = settled w

module _ (w : Pending) (empty : eqb w.handle 0 ≡ true → w.bytes ≡ []) (d : List ℕ) where
  changed_nothing : (e : eqb w.handle 0 ≡ true) (c : Change) → change_leaves w c d ≡ change_leaves nothing c d
  unfolding change_leaves prepare_rule
  changed_nothing e (Write h) = rw e
  changed_nothing e (WriteCommand h) = rw e
  changed_nothing e (PrepareWrite h off) = rw (e, empty e)
  changed_nothing e (ExecuteWrite flags) = refl

  left_nothing : (rq : Request) → eqb w.handle 0 ≡ true → request_leaves w rq d ≡ request_leaves nothing rq d
  unfolding request_leaves
  left_nothing (request.Ask a) e = rw e
  left_nothing (request.FindByTypeValue g uuid) e = rw e
  left_nothing (request.Change c) e = changed_nothing e c
  left_nothing (request.ExchangeMtu mtu) e = rw e
  left_nothing request.Confirmation e = rw e

-- the first m bytes, with d appended
appended : (m : ℕ) (d l : List ℕ) → m + length d ≤ length l → take (m + length d) (sets l m d) ≡ take m l ++ d
appended m d l h =
    let n : length (take m l ++ d) ≡ m + length d = length-append (take m l) d ∙ ap (λ (k : ℕ). k + length d) (length-take-le m l (omega arith)) in
    ap (take (m + length d)) (sets-eq d l m h)
    ∙ ap (λ (k : ℕ). take k (take m l ++ d ++ drop (m + length d) l)) (sym n)
    ∙ take-append_seam (take m l ++ d) (drop (m + length d) l)

-- a valid prepared write: it has no bytes under handle 0, and 512 hold it
module _ (p : Prepared) (ok : record_ok p ≡ true) (bytes : List ℕ) (size : length bytes ≡ value_bytes) where
  pub no_bytes : eqb p.handle 0 ≡ true → take p.len bytes ≡ []
  unfolding record_ok
  no_bytes e =
      let z : eqb p.len 0 ≡ true = rw e at (both_r _ _ ok) in
      rw (eqb-true p.len 0 z)

  holds : p.len ≤ length bytes
  unfolding record_ok
  holds = omega (arith, leb-true p.len value_bytes (both_l _ _ ok), size)

  module _ (d : List ℕ) where
    some_handle : (h off n : ℕ) → may_prepare p h off n ≡ (Ok tt) → eqb h 0 ≡ false
    unfolding prepare_rule
    some_handle h off n e = by (eqb h 0) _ e
      where
        by : (t : Bool) (r : Access) → cond t (Err InvalidHandle) r ≡ (Ok tt) → t ≡ false
        by true r e = cc
        by false r e = refl

    prepared : (h off : ℕ) (r : Access) → may_prepare p h off (length d) ≡ r
        → pending_at (waiting (if_granted r (longer p h off (length d)) p) (if_granted r (sets bytes p.len d) bytes))
        ≡ if_granted r (record { handle = h; offset = cond (eqb p.handle 0) off p.offset; bytes = take p.len bytes ++ d }) (settled (pending_of p bytes))
    unfolding longer
    prepared h off (Ok tt) e =
        let f = granted_fits p h off (length d) e in
        rw (some_handle h off (length d) e, appended p.len d bytes (omega arith))
    prepared h off (Err c) e = refl

    changed_is : (c : Change) → pending_at (waiting (record_after p c (length d)) (data_after p bytes c d)) ≡ change_leaves (pending_of p bytes) c d
    unfolding record_after data_after change_leaves
    changed_is (Write h) = refl
    changed_is (WriteCommand h) = refl
    changed_is (PrepareWrite h off) = rw (length-take-le p.len bytes holds) (prepared h off (may_prepare p h off (length d)) refl)
    changed_is (ExecuteWrite flags) = refl

    left_is : (rq : Request) → pending_at (waiting (record_by p rq (length d)) (data_by p bytes rq d)) ≡ request_leaves (pending_of p bytes) rq d
    unfolding record_by data_by request_leaves
    left_is (request.Ask a) = refl
    left_is (request.FindByTypeValue g uuid) = refl
    left_is (request.Change c) = changed_is c
    left_is (request.ExchangeMtu mtu) = refl
    left_is request.Confirmation = refl

    -- decided by what was pending
    left_settled : (rq : Request) → pending_at (waiting (record_by p rq (length d)) (data_by p bytes rq d)) ≡ request_leaves (pending_at (waiting p bytes)) rq d
    left_settled rq = left_is rq ∙ settles (λ (u : Pending). request_leaves u rq d) (pending_of p bytes) (left_nothing (pending_of p bytes) no_bytes d rq)

-- one in two hubs
pub waits_same : (x y : Waiting) → record_ok x.prepared ≡ true → record_ok y.prepared ≡ true → length x.bytes ≡ value_bytes → length y.bytes ≡ value_bytes
    → pending_at x ≡ pending_at y → (a b : State) (q : Query) (room : ℕ) → pending_at (waiting_by a x q room) ≡ pending_at (waiting_by b y q room)
waits_same x y okx oky lx ly same a b q room =
    left_settled x.prepared okx x.bytes lx q.brings q.request
    ∙ ap (λ (u : Pending). request_leaves u q.request q.brings) same
    ∙ sym (left_settled y.prepared oky y.bytes ly q.brings q.request)
