-- Fronts that fall.
use Rattle.std.proofs.Common.{◌≡◌, inl, inr, ℕ, Bool, true, false, List, length, Option, Some, None, refl, sym, ◌∙◌}
use Rattle.sdmp_laws.specs.Order.{Order, ◌⋅◌}
use Rattle.sdmp_laws.specs.Poly.{Term, lm}
use Rattle.sdmp_laws.specs.Division.{Division, AtOrAbove}
use Rattle.sdmp_laws.proofs.OrderLemmas.{order_facts}
use Rattle.sdmp_laws.proofs.NextTerm.{at_then_below, below_then_at, at_then_at, times_at}
use Rattle.divide_workers.specs.Fronts.{PlainFront, IsPastBy, IsPast, FrontFalls, may_stay}

-- ---- at or below
-- ---- what is past a front
pub weaker_past : (s : Bool) (ord : Order) (a b : List ℕ) → IsPastBy s ord a b → AtOrAbove ord a b
unfolding IsPastBy
weaker_past false ord a b h = inr h
weaker_past true ord a b h = h

falls_by : (s t : Bool) (ord : Order) (a b g x : List ℕ) → length b ≡ length a → IsPastBy (may_stay s t) ord b a → IsPastBy s ord (a ⋅ g) x → IsPastBy t ord (b ⋅ g) x
unfolding IsPastBy
falls_by false false ord a b g x l f h = at_then_below ord (b ⋅ g) (a ⋅ g) x (times_at ord b a g l f) h
falls_by false true ord a b g x l f h = inr (at_then_below ord (b ⋅ g) (a ⋅ g) x (times_at ord b a g l f) h)
falls_by true true ord a b g x l f h = at_then_at ord (b ⋅ g) (a ⋅ g) x (times_at ord b a g l f) h
falls_by true false ord a b g x l f h = below_then_at ord (b ⋅ g) (a ⋅ g) x ((order_facts ord).compatible b a g l f) h

-- the vector of a front has n places
unfoldable pub IsFrontVector : ℕ → Option PlainFront → Type 0
IsFrontVector n None = Unit {0}
IsFrontVector n (Some f) = length f.mono ≡ n

-- what is past a front is past a lower one
pub past_falls : (d : Division) (rows : List Term) (a b : Option PlainFront) (x : List ℕ) → IsFrontVector d.n a → IsFrontVector d.n b → FrontFalls d.ord a b → IsPast d rows a x → IsPast d rows b x
unfolding IsPast FrontFalls IsFrontVector
past_falls d rows None b x u v f h = absurd h
past_falls d rows (Some a) None x u v f h = absurd f
past_falls d rows (Some a) (Some b) x u v f h = falls_by a.is_strict b.is_strict d.ord a.mono b.mono (lm rows) (x ⋅ lm d.g) (v ∙ sym u) f h

stays_itself : (s : Bool) (ord : Order) (m : List ℕ) → IsPastBy (may_stay s s) ord m m
unfolding IsPastBy
stays_itself false ord m = inl refl
stays_itself true ord m = inl refl

pub falls_itself : (ord : Order) (a : Option PlainFront) → FrontFalls ord a a
unfolding FrontFalls
falls_itself ord None = tt
falls_itself ord (Some a) = stays_itself a.is_strict ord a.mono

pub falls_from_none : (ord : Order) (b : Option PlainFront) → FrontFalls ord None b
unfolding FrontFalls
falls_from_none ord b = tt

falls_twice : (r s t : Bool) (ord : Order) (a b c : List ℕ) → IsPastBy (may_stay r s) ord b a → IsPastBy (may_stay s t) ord c b → IsPastBy (may_stay r t) ord c a
unfolding IsPastBy
falls_twice false s t ord a b c f g = at_then_at ord c b a (weaker_past (may_stay s t) ord c b g) f
falls_twice true true true ord a b c f g = at_then_at ord c b a g f
falls_twice true true false ord a b c f g = below_then_at ord c b a g f
falls_twice true false true ord a b c f g = inr (at_then_below ord c b a g f)
falls_twice true false false ord a b c f g = at_then_below ord c b a g f

pub falls_again : (ord : Order) (a b c : Option PlainFront) → FrontFalls ord a b → FrontFalls ord b c → FrontFalls ord a c
unfolding FrontFalls
falls_again ord None b c f g = tt
falls_again ord (Some a) None c f g = absurd f
falls_again ord (Some a) (Some b) None f g = absurd g
falls_again ord (Some a) (Some b) (Some c) f g = falls_twice a.is_strict b.is_strict c.is_strict ord a.mono b.mono c.mono f g
