-- A dividing worker that pushes and waits for room, and one that sends all that it may.
use Rattle.std.proofs.Common.{◌≡◌, ℕ, ◌+◌, ◌*◌, ◌<◌, ◌≤◌, List, [], ◌∷◌, length, Option, Some, None, Result, Ok, Err, IfErr, IsErrAnd, refl, sym, ap, ◌∙◌, subst, arith}
use Rattle.sdmp_laws.specs.Poly.{Term}
use Rattle.turnstile.specs.declared.turn.Pass.{Pass}
use Rattle.turnstile.specs.Passes.{entries, busy}
use Rattle.divide_wholes.specs.Workers.{worker_rows}
use Rattle.term_ring.specs.Names.{RingName}
use Rattle.term_ring.specs.Sending.{IsRefused, WasRefused}
use Rattle.divide_merge.specs.Merges.{DivideView}
use Rattle.divide_merge.specs.Reached.{DivideName}
use Rattle.divide_merge.specs.declared.receipt.DivideAdvanced.{DivideAdvanced}
use Rattle.divide_workers.specs.Fronts.{PlainFront}
use Rattle.divide_workers.specs.Views.{WorkerView, sender_of}
use Rattle.divide_workers.specs.Steps.{Works, HandsOut, IsFrontier, Pushes, Refuses}
use Rattle.divide_workers.specs.Stops.{StaysRefused, IsReceipt}
use Rattle.divide_workers.proofs.Working.{works_again}
use Rattle.divide_workers.proofs.Waits.{pushes_later}

-- ---- a push that was refused, and a wait for room after it
refused_stays : (a b : WorkerView) → Refuses a b → StaysRefused a b
refused_stays a b f = record { same = f.same; head = f.works.sends.head; looks = f.works.looks; refused = f.refused }

pub pushes_after : (a b c : WorkerView) → Refuses a b → Pushes b c → Pushes a c
pushes_after a b c f g = pushes_later a b c f.works (refused_stays a b f) g

pub refuses_after : (a b c : WorkerView) → Refuses a b → Works b c → StaysRefused b c → Refuses a c
refuses_after a b c f w g = record {
  works = works_again a b c f.works w;
  same = g.same ∙ ap (λ (v : WorkerView). record v { head = c.head; full_looks = c.full_looks }) f.same;
  refused = g.refused;
  was = let x = f.was in let y = g.looks in omega (arith, x, y);
}

-- ---- one push after another
-- a receipt since a later pass is one since an earlier
pub receipt_before : {X M E : Type 0} (name : DivideName) (tries : ℕ) (p q r : Pass DivideView) (a : Option (DivideAdvanced X M E)) → entries p ≤ entries q → busy p ≤ busy q → IsReceipt name tries q r a → IsReceipt name tries p r a
receipt_before name tries p q r None e b h = omega arith
receipt_before name tries p q r (Some x) e b h = (let l = h.0 in omega arith, h.1)

-- a push changes neither the front nor the products
pub frontier_kept : (a b : WorkerView) (f : Option PlainFront) → Pushes a b → IsFrontier a f → IsFrontier b f
unfolding IsFrontier worker_rows
frontier_kept a b None g k = subst (λ (v : WorkerView). IsFrontier v None) (sym g.same) k
frontier_kept a b (Some f) g k = subst (λ (v : WorkerView). IsFrontier v (Some f)) (sym g.same) (k.0, k.1, k.2, k.3)

-- how much is left to hand out and to send
abbrev pub left_to_send : WorkerView → ℕ
left_to_send v = 2 * length v.state.unread + length v.state.kept

falls : (k : List Term) (u v : ℕ) → v ≤ u → (k ≡ [] → v < u) → 2 * v < 2 * u + length k
falls [] u v le lt = let l = lt refl in omega arith
falls (x ∷ k) u v le lt = omega arith

pub less_left : (a b c : WorkerView) → HandsOut a b → (a.state.kept ≡ [] → length b.state.unread < length a.state.unread) → Pushes b c → left_to_send c < left_to_send a
less_left a b c h f g =
    let l = falls a.state.kept (length a.state.unread) (length b.state.unread) h.less f in
    let u : length c.state.unread ≡ length b.state.unread = ap (λ (v : WorkerView). length v.state.unread) g.same in
    let k : length c.state.kept ≡ 0 = ap (λ (v : WorkerView). length v.state.kept) g.same in
    omega (arith, l, u, k)

-- ---- it hands out, and pushes what it keeps
pub works_on : (a b c d : WorkerView) → Works a b → HandsOut b c → Works c d → Works a d
works_on a b c d w h p = works_again a c d (works_again a b c w h.works) p

-- no step of these tells it a note
pub pushes_notes : (a b : WorkerView) → Pushes a b → b.notes ≡ a.notes
pushes_notes a b p = ap (λ (v : WorkerView). v.notes) p.same

pub refuses_notes : (a b : WorkerView) → Refuses a b → b.notes ≡ a.notes
refuses_notes a b r = ap (λ (v : WorkerView). v.notes) r.same

pub hands_notes : (a b c : WorkerView) → b.notes ≡ a.notes → HandsOut b c → c.notes ≡ a.notes
hands_notes a b c e h = ap (λ (v : WorkerView). v.notes) h.same ∙ e

pub refused_on : (a b c d : WorkerView) → Works a b → HandsOut b c → Refuses c d → IsRefused (sender_of d) × WasRefused (sender_of a) (sender_of d)
refused_on a b c d w h r = (r.refused, let x = w.looks in let y = h.works.looks in let z = r.was in omega (arith, x, y, z))

-- an error that `?` passes up
pub passed_up : {T E : Type 0} (r : Result T E) (e : E) (P : E → Type 0) → IsErrAnd r (λ y. y ≡ e) → P e → IfErr r P
passed_up (Ok x) e P is p = tt
passed_up (Err y) e P is p = subst P (sym is) p

pub ring_on : (a b c : WorkerView) (n : RingName) → Works a b → HandsOut b c → n ≡ a.ring → n ≡ c.ring
ring_on a b c n w h e = e ∙ sym (h.works.sends.ring ∙ w.sends.ring)
