-- Where the row of a head is in the heap.
use Rattle.std.specs.Prelude.{◌≡◌, ◌⊎◌, false, cond, Option, Some, None}
use Rattle.std.specs.declared.cmp.Ordering.{Ordering}
use Rattle.std.specs.Ordering.{is_eq, is_gt}
use Rattle.chained_heap.specs.declared.node.Place.{Place}
use Rattle.chained_heap.specs.declared.node.Place.TheVariants.{Out, In, Taken}
use Rattle.ring_heads.specs.declared.head.HeadOf.{HeadOf}
use Rattle.ring_heads.specs.declared.head.HeadOf.TheVariants as head

module _ {M E : Type 0} where
  abbrev pub place_of : HeadOf M E → Place M
  place_of head.Missing = Out
  place_of (head.Term t) = In t.mono
  place_of head.Ended = Out

  -- where it is while the rows at x are taken
  abbrev pub place_in : (M → M → Ordering) → M → HeadOf M E → Place M
  place_in cmp x head.Missing = Out
  place_in cmp x (head.Term t) = cond (is_eq (cmp t.mono x)) Taken (In t.mono)
  place_in cmp x head.Ended = Out

-- it is mono or the other monomial, if there is one, and neither is above it
abbrev pub IsHigher : {M : Type 0} → (M → M → Ordering) → Option M → M → M → Type 0
IsHigher cmp None mono r = r ≡ mono
IsHigher cmp (Some other) mono r = (is_gt (cmp other r) ≡ false) × (is_gt (cmp mono r) ≡ false) × ((r ≡ other) ⊎ (r ≡ mono))
