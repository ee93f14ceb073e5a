-- What a worker knows of the quotient terms to come, and which of its sums it may send.
use Rattle.std.specs.Prelude.{ℕ, Bool, true, false, List, Option, Some, None}
use Rattle.sdmp_laws.specs.Order.{Order, ◌⋅◌, Below}
use Rattle.sdmp_laws.specs.Poly.{Term, lm}
use Rattle.sdmp_laws.specs.Division.{Division, AtOrAbove}
use Rattle.divide_wholes.specs.Wholes.{AllUnderFront, AllBelowFront}
use Rattle.divide_workers.specs.declared.front.Front.{Front}

-- a front as plain data
abbrev pub PlainFront : Type 0
PlainFront = Front (List ℕ)

module _ {M : Type 0} where
  abbrev pub front_of : (M → List ℕ) → Front M → PlainFront
  front_of vector f = record { mono = vector f.mono; is_strict = f.is_strict }

  abbrev pub plain_front : (M → List ℕ) → Option (Front M) → Option PlainFront
  plain_front vector None = None
  plain_front vector (Some f) = Some (front_of vector f)

-- where it stands
abbrev pub front_mono : Option PlainFront → Option (List ℕ)
front_mono None = None
front_mono (Some f) = Some f.mono

-- the first monomial is below the second, or it may be at it where the front is strict
unfoldable pub IsPastBy : Bool → Order → List ℕ → List ℕ → Type 0
IsPastBy false ord a b = Below ord a b
IsPastBy true ord a b = AtOrAbove ord a b

-- each of the terms times lm(g) is at m or below, or below m where the front is strict
unfoldable pub UnderBy : Bool → Division → List ℕ → List Term → Type 0
UnderBy false d m later = AllUnderFront d (Some m) later
UnderBy true d m later = AllBelowFront d m later

-- what a front says of the terms to come
abbrev pub IsAhead : Division → Option PlainFront → List Term → Type 0
IsAhead d None later = Unit {0}
IsAhead d (Some f) later = UnderBy f.is_strict d f.mono later

-- no product of a term to come with a row stands at x or above, as the front tells
unfoldable pub IsPast : Division → List Term → Option PlainFront → List ℕ → Type 0
IsPast d rows None x = ⊥
IsPast d rows (Some f) x = IsPastBy f.is_strict d.ord (f.mono ⋅ lm rows) (x ⋅ lm d.g)

-- a front that was strict may stand where it stood only if it still is
abbrev pub may_stay : Bool → Bool → Bool
may_stay false now = true
may_stay true now = now

-- the front b is at a or below: lower, or at the same monomial and strict where a is
unfoldable pub FrontFalls : Order → Option PlainFront → Option PlainFront → Type 0
FrontFalls ord None b = Unit {0}
FrontFalls ord (Some a) None = ⊥
FrontFalls ord (Some a) (Some b) = IsPastBy (may_stay a.is_strict b.is_strict) ord b.mono a.mono
