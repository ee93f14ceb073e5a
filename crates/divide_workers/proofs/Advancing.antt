-- How an advance of a dividing worker goes on, and how it ends.
use Rattle.std.proofs.Common.{◌≡◌, ℕ, ◌-◌, ◌*◌, ◌^◌, ◌<◌, ◌≤◌, Fits, w64, length, Option, Some, None, refl, sym, ap, subst, arith}
use Rattle.std.proofs.Math.Nat.{mul-le-mul_right}
use Rattle.whole_laws.specs.Notes.{Script, Carry}
use Rattle.turnstile.specs.declared.turn.Pass.{Pass}
use Rattle.turnstile.specs.Passes.{entries, busy, patience}
use Rattle.divide_wholes.specs.Workers.{worker_rows}
use Rattle.divide_merge.specs.Merges.{DivideView}
use Rattle.divide_merge.specs.Reached.{DivideName}
use Rattle.divide_merge.specs.declared.receipt.DivideAdvanced.{DivideAdvanced}
use Rattle.divide_workers.specs.Paying.{IsMarked}
use Rattle.divide_workers.specs.Views.{WorkerView}
use Rattle.divide_workers.specs.Working.{IsWorking}
use Rattle.divide_workers.specs.Steps.{Works, FindsNothing, HoldsBack, Pushes}
use Rattle.divide_workers.specs.Stops.{StaysUntold, IsReceipt, IsLastReceipt, WaitsInVain}
use Rattle.divide_workers.proofs.Working.{works_again}
use Rattle.term_ring.proofs.Lists.{prefix_length}

-- ---- what stays while it works
pub works_then : (a b c d : WorkerView) → Works a b → Works b c → Works c d → Works a d
works_then a b c d f g h = works_again a b d f (works_again b c d g h)

-- how many notes the row may still tell
abbrev pub untold_places : WorkerView → ℕ
untold_places v = v.row.places - length v.notes

pub fewer_untold : (a b c : WorkerView) → Works a b → Works b c → length b.notes < length c.notes → length c.notes ≤ b.row.places → untold_places c < untold_places a
fewer_untold a b c f g more most =
    let l = prefix_length a.notes b.notes f.notes in
    let p : b.row.places ≡ a.row.places = ap (λ r. r.places) f.row in
    let q : c.row.places ≡ b.row.places = ap (λ r. r.places) g.row in
    omega (arith, l, p, q, more, most)

-- ---- what it holds back
untold_holds : (a b : WorkerView) → b ≡ record a { count = b.count; loads = b.loads } → HoldsBack a → HoldsBack b
untold_holds a b e h = subst HoldsBack (sym e) record { kept = h.kept; held = h.held }

pushed_holds : (a b : WorkerView) → Pushes a b → HoldsBack a → HoldsBack b
unfolding worker_rows
pushed_holds a b p h = subst HoldsBack (sym p.same) record { kept = refl; held = h.held }

-- ---- how it ends
module _ {X M E : Type 0} where
  -- the receipt of a wait that began later
  last_receipt : (name : DivideName) (p q r : Pass DivideView) (x : Option (DivideAdvanced X M E)) → entries p ≤ entries q → busy p ≤ busy q → IsReceipt name patience q r x → IsLastReceipt name (Some p) (Some r) x
  last_receipt name p q r None e b h = omega (arith, b, h)
  last_receipt name p q r (Some x) e b h = (let l = h.0 in omega (arith, e, l), h.1)

  -- its ring was full
  -- what it holds back when it has sent all it may (s) stays so when it has looked (k), pushed (n) and waited in vain (w)
  pub stops_waiting : (name : DivideName) (a s k n w : WorkerView) (p q r : Pass DivideView) (known : ℕ) (x : Option (DivideAdvanced X M E)) → Works a s → HoldsBack s → FindsNothing s k → Pushes k n → StaysUntold n w → known ≡ length w.state.known → entries p ≤ entries q → busy p ≤ busy q → IsReceipt name patience q r x
      → WaitsInVain name a w (Some p) (Some r) known x
  stops_waiting name a s k n w p q r known x f h found pushed untold is e b receipt =
      let held = untold_holds s k found.same h in record {
        known_terms = is;
        marked = subst (λ (v : WorkerView). IsMarked v.state) (sym untold.same) (pushed.marked held.kept);
        holds = untold_holds n w untold.same (pushed_holds k n pushed held);
        looked = let i = f.loads in let j = found.loads in let l = pushed.works.loads in let m = untold.loads in omega (arith, i, j, l, m);
        nothing = untold.count;
        receipt = last_receipt name p q r x e b receipt;
      }

-- a place of a slice is within the memory that the slice takes
pub place_fits : (k n s : ℕ) → k < n → n * s < 2 ^ 63 → Fits w64 (k * s)
place_fits k n s h l = let m : k * s ≤ n * s = mul-le-mul_right s (omega arith) in omega (arith, m, l)

-- what it has sent follows its script
pub carried_by : (lim : ℕ) (v : WorkerView) → IsWorking lim v → Carry v.ring.script v.state.sent
carried_by lim v w = subst (λ (s : Script). Carry s v.state.sent) (sym w.script) w.whole.carried
