-- A dividing worker that waits: what it keeps, and when it gives up.
use Rattle.std.proofs.Common.{◌≡◌, ℕ, length, [], Option, Some, None, refl, ap, ◌∙◌, arith}
use Rattle.turnstile.specs.declared.turn.Pass.{Pass}
use Rattle.turnstile.specs.Passes.{patience}
use Rattle.term_ring.specs.Sending.{IsRefused}
use Rattle.divide_merge.specs.Merges.{DivideView, Grows}
use Rattle.divide_merge.specs.Reached.{DivideName, divide_name}
use Rattle.divide_merge.specs.declared.receipt.DivideAdvanced.{DivideAdvanced}
use Rattle.divide_workers.specs.Views.{WorkerView, sender_of}
use Rattle.divide_workers.specs.Steps.{Works, FindsNothing, Pushes, Refuses}
use Rattle.divide_workers.specs.Stops.{StaysRefused, StaysUntold, IsReceipt, MayGiveUp}
use Rattle.divide_workers.proofs.Working.{works_again}

-- an advance leaves the merge its rings and its row
pub name_stays : (a b : DivideView) → Grows a b → divide_name b ≡ divide_name a
name_stays a b g = λ i. record { rings = g.rings i; row = g.row i }

module _ {X M E : Type 0} where
  -- a worker gives up after patience tries, or with a receipt
  pub gives_up : (name : DivideName) (tries : ℕ) (p q : Pass DivideView) (a : Option (DivideAdvanced X M E)) → MayGiveUp tries a → IsReceipt name tries p q a → IsReceipt name patience p q a
  gives_up name tries p q None m h = omega arith
  gives_up name tries p q (Some x) m h = h

-- ---- a wait for room
pub refused_itself : (v : WorkerView) → IsRefused (sender_of v) → StaysRefused v v
refused_itself v r = record { same = refl; head = omega arith; looks = omega arith; refused = r }

pub stays_refused : (a b c : WorkerView) → StaysRefused a b → Refuses b c → StaysRefused a c
stays_refused a b c f g = record {
  same = g.same ∙ ap (λ (v : WorkerView). record v { head = c.head; full_looks = c.full_looks }) f.same;
  head = let x = f.head in let y = g.works.sends.head in omega (arith, x, y);
  looks = let x = f.looks in let y = g.works.looks in omega (arith, x, y);
  refused = g.refused;
}

pub pushes_later : (a b c : WorkerView) → Works a b → StaysRefused a b → Pushes b c → Pushes a c
pushes_later a b c w f g = record {
  works = works_again a b c w g.works;
  same = g.same ∙ ap (λ (v : WorkerView). record v { state = record v.state { kept = []; sent = c.state.sent }; head = c.head; full_looks = c.full_looks }) f.same;
  marked = λ k. g.marked (ap (λ (v : WorkerView). v.state.kept) f.same ∙ k);
}

-- ---- a wait for news
pub untold_itself : (v : WorkerView) → v.count ≡ length v.notes → StaysUntold v v
untold_itself v e = record { same = refl; more = omega arith; loads = omega arith; count = e }

pub stays_untold : (a b c : WorkerView) → StaysUntold a b → Works b c → FindsNothing b c → StaysUntold a c
stays_untold a b c f w g = record {
  same = g.same ∙ ap (λ (v : WorkerView). record v { count = c.count; loads = c.loads }) f.same;
  more = let x = f.more in let y = w.count in omega (arith, x, y);
  loads = let x = f.loads in let y = w.loads in omega (arith, x, y);
  count = g.count;
}
