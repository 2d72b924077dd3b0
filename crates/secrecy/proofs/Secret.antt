-- Demand 3, by induction over the calls. Assumes nothing.
use Rattle.std.specs.Prelude.{Option, Some, None, Ok, Err}
use mathlib.Core.Path.{◌≡◌, refl, sym, ap, ap₂, subst, ◌∙◌}
use mathlib.Core.Bool.{Bool, true, false, cond}
use mathlib.Core.List.{List, [], ◌∷◌, ◌++◌}
use Rattle.wire.specs.Run.{after_all}
use Prim.Native.Nat.{ℕ, ◌<◌}
use native.Mathlib.Omega.{arith}
use lib.ListN.{length, get_or}
use Rattle.wire.proofs.Tests.{both_l, both_r, both_true}
use Rattle.table_view.specs.Told.{Told}
use Rattle.table_view.specs.View.{view}
use Rattle.attribute.specs.Needs.{access_of, Access}
use Rattle.peers.specs.Identity.{same_id}
use Rattle.peers.specs.Slots.{slot_of}
use Rattle.peers.specs.declared.Identity.{Identity}
use Rattle.state.specs.State.{State}
use Rattle.state.proofs.Keeping.{right_list}
use Rattle.model.specs.View.{View, own_table, table_at, pending_of}
use Rattle.model.specs.Answer.{request_told}
use Rattle.model.specs.Told.{Answered}
use Rattle.model.specs.declared.Request.{Request}
use Rattle.model.specs.declared.Request.TheVariants as request
use Rattle.model.proofs.Unseen.{Alike, all_seen_same}
use Rattle.admission.specs.Admission.{told_if}
use Rattle.attribute_server.specs.Request.{seen_of}
use Rattle.secrecy.specs.Hub.{Hub, Asked, Deed, Process, Connect, Disconnect, Set, SetTable, Looks, Call, query_of, told_by, call_told, step}
use Rattle.secrecy.specs.Valid.{Valid}
use Rattle.secrecy.specs.Agree.{known_of, pending_at, attribute_at, Agree}
use Rattle.secrecy.specs.Secret.{is_compared, is_request, asks, heard, is_granted, reaches, ever_reaches, Secrecy, request_by, SecretAnswers}
use Rattle.peers.proofs.Identities.{same_is, same_self}
use Rattle.storing.proofs.Writing.{item_length}
use Rattle.model.proofs.Telling.{one_answered}
use Rattle.secrecy.proofs.Own.{found_own}
use Rattle.secrecy.proofs.Known.{length_same, fields_same, lengths_same}
use Rattle.secrecy.proofs.Rows.{slot_same}
use Rattle.secrecy.proofs.Waiting.{told_settled, no_bytes}
use Rattle.secrecy.proofs.Valid.{step_valid, all_valid}
use Rattle.secrecy.proofs.Promised.{process_is}
use Rattle.secrecy.proofs.Agree.{let_in_same, step_agrees}
use Rattle.peers.specs.declared.Seat.{Seat}
use Rattle.wire.specs.declared.att.AttError.TheVariants.{ReadNotPermitted}

-- every answer but Find By Type Value's comes from the view
by_view : (v : View) (list list' : List (List ℕ)) (store store' : List ℕ) (room : ℕ) (rq : Request) (d : List ℕ) → is_compared rq ≡ true → request_told v list store room rq d ≡ request_told v list' store' room rq d
unfolding request_told is_compared
by_view v list list' store store' room (request.Ask a) d e = refl
by_view v list list' store store' room (request.FindByTypeValue g uuid) d e = cc
by_view v list list' store store' room (request.Change c) d e = refl
by_view v list list' store store' room (request.ExchangeMtu mtu) d e = refl
by_view v list list' store store' room request.Confirmation d e = refl

-- t's request, on two hubs that agree: one view, one answer
module _ (t : Identity) (may : ℕ → Bool) (a b : Hub) (x : Valid a) (y : Valid b) (g : Agree t may a b) where
  abbrev s : State
  s = a.state

  abbrev z : State
  z = b.state

  own_same : view (own_table s.row s.tables t) ≡ view (own_table z.row z.tables t)
  unfolding table_at
  own_same = rw (← slot_same s.row z.row g.state.row t) (by (slot_of s.row t) refl)
    where
      by : (f : Option Seat) → slot_of s.row t ≡ f → view (table_at s.tables f) ≡ view (table_at z.tables f)
      by None e = refl
      by (Some k) e = g.state.kept k.0 (found_own s.row t k e)

  entries_same : length s.list ≡ length z.list
  entries_same = length_same known_of s.list z.list g.state.list

  module _ (q : Asked) (reach : (need : ℕ) → access_of q.level ReadNotPermitted need ≡ (Ok tt) → may need ≡ true) where
    alike : (i : ℕ) → i < length s.list → Alike q.level (get_or s.list i []) (get_or z.list i []) s.store z.store
    alike i l =
        let f = fields_same s.list z.list g.state.list i in
        record {
          entry = f.entry;
          value = λ m c. g.state.shared i l c (reach (attribute_at s i).reads m);
          size =
              λ c.
              item_length s.list s.store (right_list s x.state) i l c
              ∙ lengths_same s.list z.list g.state.list i c
              ∙ sym (item_length z.list z.store (right_list z y.state) i (omega (arith, entries_same)) (sym f.client ∙ c));
        }

    -- what t sees, but for an offset under handle 0
    abbrev seen : Hub → View
    seen h =
        record { attrs = (seen_of h.state (h.waiting q.link) (query_of t q)).attrs; pending = pending_at (h.waiting q.link) }

    seen_same : seen a ≡ seen b
    seen_same =
        λ i.
        record {
          attrs = all_seen_same q.level s.list z.list s.store z.store _ _ own_same entries_same alike i;
          pending = g.pending q.link i;
        }

    by_seen : (h : Hub) → Valid h → request_told (seen_of h.state (h.waiting q.link) (query_of t q)) h.state.list h.state.store q.room q.request q.brings ≡ request_told (seen h) h.state.list h.state.store q.room q.request q.brings
    by_seen h v =
        let w = h.waiting q.link in
        told_settled (pending_of w.prepared w.bytes) (no_bytes w.prepared (v.waiting q.link) w.bytes (v.bytes q.link)) (seen h).attrs h.state.list h.state.store q.room q.request q.brings

    answer_same : is_compared q.request ≡ true → told_by a t (Process q) ≡ told_by b t (Process q)
    unfolding told_by
    answer_same e =
        ap₂ told_if (let_in_same a b x y t q)
        (by_seen a x
        ∙ by_view (seen a) s.list z.list s.store z.store q.room q.request q.brings e
        ∙ ap (λ (v : View). request_told v z.list z.store q.room q.request q.brings) seen_same
        ∙ sym (by_seen b y))

-- a request is one of t's
granted : (r : Access) → r ≡ (Ok tt) → is_granted r ≡ true
granted (Ok tt) e = refl
granted (Err c) e = cc

told_same : (t : Identity) (may : ℕ → Bool) (a b : Hub) → Valid a → Valid b → Agree t may a b → (d : Deed) → ((need : ℕ) → is_request (λ q. is_granted (access_of q.level ReadNotPermitted need)) d ≡ true → may need ≡ true)
    → is_request (λ q. is_compared q.request) d ≡ true → told_by a t d ≡ told_by b t d
unfolding is_request
told_same t may a b x y g (Process q) reach e = answer_same t may a b x y g q (λ need r. reach need (granted _ r)) e
told_same t may a b x y g Connect reach e = cc
told_same t may a b x y g (Disconnect bonded) reach e = cc
told_same t may a b x y g (Set h d) reach e = cc
told_same t may a b x y g (SetTable saved) reach e = cc
told_same t may a b x y g (Looks l) reach e = cc

-- agreement on fewer values
fewer : (t : Identity) (may less : ℕ → Bool) (a b : Hub) → ((need : ℕ) → less need ≡ true → may need ≡ true) → Agree t may a b → Agree t less a b
fewer t may less a b w g =
    let k = g.state in
    record {
      state = record { list = k.list; row = k.row; shared = λ i l c m. k.shared i l c (w _ m); kept = k.kept };
      pending = g.pending;
    }

-- what a link meets in a call is met among the calls
now_or_later : (u v : Bool) → v ≡ true → cond u true v ≡ true
now_or_later true v h = refl
now_or_later false v h = h

later_reaches : (t : Identity) (c : Call) (cs : List Call) (need : ℕ) → ever_reaches t cs need ≡ true → ever_reaches t (c ∷ cs) need ≡ true
unfolding ever_reaches
later_reaches t c cs need h = now_or_later (reaches t need c) (ever_reaches t cs need) h

now_reaches : (t : Identity) (c : Call) (cs : List Call) (need : ℕ) → reaches t need c ≡ true → ever_reaches t (c ∷ cs) need ≡ true
unfolding ever_reaches
now_reaches t c cs need h = rw h

-- one call, and those after it
after_one : (t : Identity) (c : Call) (cs : List Call) (a b : Hub) → Valid a → Valid b → Agree t (ever_reaches t (c ∷ cs)) a b → Agree t (ever_reaches t cs) (step a c) (step b c)
after_one t c cs a b x y g =
    fewer t (ever_reaches t (c ∷ cs)) (ever_reaches t cs) (step a c) (step b c) (later_reaches t c cs) (step_agrees t (ever_reaches t (c ∷ cs)) c a b x y g)

told_now : (t : Identity) (c : Call) (cs : List Call) (a b : Hub) → Valid a → Valid b → Agree t (ever_reaches t (c ∷ cs)) a b → asks t c ≡ true → call_told a c ≡ call_told b c
told_now t c cs a b x y g e =
    let who = both_l (same_id c.who t) _ e in
    rw (same_is c.who t who)
    (told_same t (ever_reaches t (c ∷ cs)) a b x y g c.deed (λ need r. now_reaches t c cs need (both_true _ _ who r)) (both_r (same_id c.who t) _ e))

one_more : (z : Bool) (u v : Told) (us vs : List Told) → (z ≡ true → u ≡ v) → us ≡ vs → cond z (u ∷ us) us ≡ cond z (v ∷ vs) vs
one_more true u v us vs e more = ap₂ ◌∷◌ (e refl) more
one_more false u v us vs e more = more

pub secrecy : Secrecy
unfolding heard
secrecy t [] a b x y g = refl
secrecy t (c ∷ cs) a b x y g =
    one_more (asks t c) (call_told a c) (call_told b c) _ _ (told_now t c cs a b x y g)
    (secrecy t cs (step a c) (step b c) (step_valid a c x) (step_valid b c y) (after_one t c cs a b x y g))

-- the same of one request after the calls, and of whatever meets the promise
after_all_lem : (t : Identity) (calls rest : List Call) (a b : Hub) → Valid a → Valid b → Agree t (ever_reaches t (calls ++ rest)) a b → Agree t (ever_reaches t rest) (after_all step a calls) (after_all step b calls)
unfolding after_all
after_all_lem t [] rest a b x y g = g
after_all_lem t (c ∷ cs) rest a b x y g =
    after_all_lem t cs rest (step a c) (step b c) (step_valid a c x) (step_valid b c y) (after_one t c (cs ++ rest) a b x y g)

pub told_after : (t : Identity) (calls : List Call) (q : Asked) (a b : Hub) → Valid a → Valid b → Agree t (ever_reaches t (calls ++ (request_by t q ∷ []))) a b → is_compared q.request ≡ true
    → call_told (after_all step a calls) (request_by t q) ≡ call_told (after_all step b calls) (request_by t q)
unfolding is_request
told_after t calls q a b x y g e =
    let c = request_by t q in
    told_now t c [] (after_all step a calls) (after_all step b calls) (all_valid a x calls) (all_valid b y calls) (after_all_lem t calls (c ∷ []) a b x y g) (both_true _ _ (same_self t) e)

pub secret_answers : SecretAnswers
secret_answers t calls q a b x y g e out n r r' p p' =
    let a₁ = after_all step a calls in
    let b₁ = after_all step b calls in
    let one = told_after t calls q a b x y g e in
    let same = one_answered out r.out r'.out r.answer r'.answer (call_told b₁ (request_by t q)) (subst (Answered out r.out r.answer) one (process_is a₁ t q out n r p).0) (process_is b₁ t q out n r' p').0 in
    (same.answer, same.out)
