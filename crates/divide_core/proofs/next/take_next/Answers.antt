use Rattle.std.proofs.Common.{◌≡◌, ◌+◌, ◌<◌, List, [], ◌∷◌, length, drop, inl, inr, refl, sym, subst, arith}
use Rattle.std.proofs.Math.Facts.{Fits-of_lt}
use Rattle.std.proofs.lemmas.List.Elements.{All-get_or}
use Rattle.std.specs.declared.cmp.Ordering.{Ordering}
use Rattle.std.specs.declared.cmp.Ordering.TheVariants.{Greater, Equal}
use Rattle.sdmp_laws.specs.Poly.{Term}
use Rattle.canonical_terms.specs.View.{term_of, sum_of}
use Rattle.divide_core.specs.Dividing.{IsCompared}
use Rattle.divide_core.proofs.TakenOut.{within_list, next_in_list, some_unread, greater_says, falls_head, read_alone, less_says, equal_next, difference_size, nothing_greatest, equal_says}
use Rattle.divide_core.proofs.next.take_next.Given as given
use Rattle.divide_core.proofs.next.take_next.Goals as goal
use Rattle.divide_core.proofs.next.take_next.Goals.{In-Some-Greater, In-Some-Equal}

-- in an arm on the comparison: what it says, and the first of the unread terms
record Greatest (g : given.Over) (c : In-Some-Greater g) : Type 0 where
  said : IsCompared g.M.Monomial.order (sum_of g.M.Monomial.vector g.R.CoeffRing.value (drop c.args.read.now c.args.terms.now)) c.args.rows.now.unread Greater
  within : c.args.read.now < length c.args.terms.now

greatest : (g : given.Over) (c : In-Some-Greater g) → Greatest g c
greatest g c =
    let said = subst (λ (o : Ordering). IsCompared g.M.Monomial.order (sum_of g.M.Monomial.vector g.R.CoeffRing.value (drop c.args.read.now c.args.terms.now)) c.args.rows.now.unread o) c.in-Some-Greater.field-0-is c.in-Some-Greater.ensures in
    let some = some_unread g.M.Monomial.order (sum_of g.M.Monomial.vector g.R.CoeffRing.value (drop c.args.read.now c.args.terms.now)) c.args.rows.now.unread (inl said) in
    record { said = said; within = within_list g.M.Monomial.vector g.R.CoeffRing.value c.args.terms.now c.args.read.now some.0 some.1 some.2 }

record Equals (g : given.Over) (c : In-Some-Equal g) : Type 0 where
  said : IsCompared g.M.Monomial.order (sum_of g.M.Monomial.vector g.R.CoeffRing.value (drop c.args.read.now c.args.terms.now)) c.args.rows.now.unread Equal
  some : (t : Term) × (rest : List Term) × ((sum_of g.M.Monomial.vector g.R.CoeffRing.value (drop c.args.read.now c.args.terms.now)) ≡ t ∷ rest)
  within : c.args.read.now < length c.args.terms.now

equals : (g : given.Over) (c : In-Some-Equal g) → Equals g c
equals g c =
    let said = subst (λ (o : Ordering). IsCompared g.M.Monomial.order (sum_of g.M.Monomial.vector g.R.CoeffRing.value (drop c.args.read.now c.args.terms.now)) c.args.rows.now.unread o) c.in-Some-Equal.field-0-is c.in-Some-Equal.ensures in
    let some = some_unread g.M.Monomial.order (sum_of g.M.Monomial.vector g.R.CoeffRing.value (drop c.args.read.now c.args.terms.now)) c.args.rows.now.unread (inr said) in
    record { said = said; some = some; within = within_list g.M.Monomial.vector g.R.CoeffRing.value c.args.terms.now c.args.read.now some.0 some.1 some.2 }

pub overflow_add-read : goal.overflow_add-read
overflow_add-read g c =
    let f = greatest g (goal.at.overflow_add-read g c).In-Some-Greater in
    Fits-of_lt (omega (arith, f.within, c.type_inv.at.fits))

pub bounds-terms-at : goal.bounds-terms-at
bounds-terms-at g c =
    let f = greatest g (goal.at.bounds-terms-at g c).In-Some-Greater in
    f.within

pub overflow_add-read-in-Some-Equal : goal.overflow_add-read-in-Some-Equal
overflow_add-read-in-Some-Equal g c =
    let f = equals g (goal.at.overflow_add-read-in-Some-Equal g c).In-Some-Equal in
    Fits-of_lt (omega (arith, f.within, c.type_inv.at.fits))

pub bounds-terms-at-in-Some-Equal : goal.bounds-terms-at-in-Some-Equal
bounds-terms-at-in-Some-Equal g c =
    let f = equals g (goal.at.bounds-terms-at-in-Some-Equal g c).In-Some-Equal in
    f.within

pub add-requires-clause-left : goal.add-requires-clause-left
add-requires-clause-left g c =
    let f = equals g (goal.at.add-requires-clause-left g c).In-Some-Equal in
    subst (λ t. g.R.CoeffRing.belongs (g.R.CoeffRing.characteristic c.args.ring) t.coef) (sym c.index-terms-at-in-Some-Equal.is) (All-get_or (λ t. g.R.CoeffRing.belongs (g.R.CoeffRing.characteristic c.args.ring) t.coef) c.args.terms.now c.args.read.now c.index-terms-at-in-Some-Equal.result f.within c.requires.belongs)

pub add-requires-clause-room : goal.add-requires-clause-room
add-requires-clause-room g c =
    let f = equals g (goal.at.add-requires-clause-room g c).In-Some-Equal in
    let rings = g.met.R.CoeffRing g.world.𝓛 g.world.𝓜 g.world.𝓡 ((λ s x. x), (λ x. x), (λ x. x), λ x. x) in
    rings.has_room c.args.ring _ (λ z. omega (arith, c.requires.fits z, difference_size g.M.Monomial.order (g.R.CoeffRing.characteristic c.args.ring) (sum_of g.M.Monomial.vector g.R.CoeffRing.value (drop c.args.read.now c.args.terms.now)) (sum_of g.M.Monomial.vector g.R.CoeffRing.value (drop (c.args.read.now + 1) c.args.terms.now)) c.args.rows.now c.owed-in-Some-Equal.new.rows (term_of g.M.Monomial.vector g.R.CoeffRing.value c.index-terms-at-in-Some-Equal.result) (term_of g.M.Monomial.vector g.R.CoeffRing.value c.in-Some.product) z c.requires.modulus (next_in_list g.M.Monomial.vector g.R.CoeffRing.value c.args.terms.now c.args.read.now c.index-terms-at-in-Some-Equal.result f.within c.index-terms-at-in-Some-Equal.is) c.in-Some.ensures.sum))

pub returns-in-Some-Less-clause-next : goal.returns-in-Some-Less-clause-next
returns-in-Some-Less-clause-next g c =
    less_says g.M.Monomial.vector g.R.CoeffRing.value g.M.Monomial.order (g.R.CoeffRing.characteristic c.args.ring) (sum_of g.M.Monomial.vector g.R.CoeffRing.value (drop c.args.read.now c.args.terms.now)) c.args.rows.now c.owed.new.rows (drop c.args.read.now c.args.terms.now ≡ []) c.owed.result c.requires.modulus (subst (λ (o : Ordering). IsCompared g.M.Monomial.order (sum_of g.M.Monomial.vector g.R.CoeffRing.value (drop c.args.read.now c.args.terms.now)) c.args.rows.now.unread o) c.in-Some-Less.field-0-is c.in-Some-Less.ensures) c.owed.ensures.sum

pub returns-in-Some-Greater-clause-next : goal.returns-in-Some-Greater-clause-next
returns-in-Some-Greater-clause-next g c =
    let f = greatest g (goal.at.returns-in-Some-Greater-clause-next g c).In-Some-Greater in
    let rings = g.met.R.CoeffRing g.world.𝓛 g.world.𝓜 g.world.𝓡 ((λ s x. x), (λ x. x), (λ x. x), λ x. x) in
    let e = next_in_list g.M.Monomial.vector g.R.CoeffRing.value c.args.terms.now c.args.read.now c.index-terms-at.result f.within c.index-terms-at.is in
    let inside = subst (λ t. g.R.CoeffRing.belongs (g.R.CoeffRing.characteristic c.args.ring) t.coef) (sym c.index-terms-at.is) (All-get_or (λ t. g.R.CoeffRing.belongs (g.R.CoeffRing.characteristic c.args.ring) t.coef) c.args.terms.now c.args.read.now c.index-terms-at.result f.within c.requires.belongs) in
    read_alone g.M.Monomial.order (g.R.CoeffRing.characteristic c.args.ring) (sum_of g.M.Monomial.vector g.R.CoeffRing.value (drop c.args.read.now c.args.terms.now)) c.args.rows.now.unread (sum_of g.M.Monomial.vector g.R.CoeffRing.value (drop (c.args.read.now + 1) c.args.terms.now)) c.args.rows.now.unread (term_of g.M.Monomial.vector g.R.CoeffRing.value c.index-terms-at.result) e (rings.reduced c.args.ring c.index-terms-at.result.coef inside) (falls_head g.M.Monomial.order (sum_of g.M.Monomial.vector g.R.CoeffRing.value (drop c.args.read.now c.args.terms.now)) (term_of g.M.Monomial.vector g.R.CoeffRing.value c.index-terms-at.result) (sum_of g.M.Monomial.vector g.R.CoeffRing.value (drop (c.args.read.now + 1) c.args.terms.now)) c.requires.falls e) (greater_says g.M.Monomial.order (sum_of g.M.Monomial.vector g.R.CoeffRing.value (drop c.args.read.now c.args.terms.now)) c.args.rows.now.unread (sum_of g.M.Monomial.vector g.R.CoeffRing.value (drop (c.args.read.now + 1) c.args.terms.now)) (term_of g.M.Monomial.vector g.R.CoeffRing.value c.index-terms-at.result) f.said e)

pub returns-in-Some-Greater-clause-belongs : goal.returns-in-Some-Greater-clause-belongs
returns-in-Some-Greater-clause-belongs g c =
    let f = greatest g (goal.at.returns-in-Some-Greater-clause-belongs g c).In-Some-Greater in
    subst (λ t. g.R.CoeffRing.belongs (g.R.CoeffRing.characteristic c.args.ring) t.coef) (sym c.index-terms-at.is) (All-get_or (λ t. g.R.CoeffRing.belongs (g.R.CoeffRing.characteristic c.args.ring) t.coef) c.args.terms.now c.args.read.now c.index-terms-at.result f.within c.requires.belongs)

pub returns-in-Some-Greater-clause-read : goal.returns-in-Some-Greater-clause-read
returns-in-Some-Greater-clause-read g c =
    let f = greatest g (goal.at.returns-in-Some-Greater-clause-read g c).In-Some-Greater in
    omega (arith, f.within)

pub returns-in-None-owed-clause-next : goal.returns-in-None-owed-clause-next
returns-in-None-owed-clause-next g c =
    let f = equals g (goal.at.returns-in-None-owed-clause-next g c).In-Some-Equal in
    absurd (nothing_greatest g.M.Monomial.order c.args.rows.now.unread f.some.0.monomial (equal_says g.M.Monomial.order (sum_of g.M.Monomial.vector g.R.CoeffRing.value (drop c.args.read.now c.args.terms.now)) c.args.rows.now.unread f.some.1 f.some.0 f.said f.some.2) c.in-None-owed.ensures.sum.0)

pub returns-in-None-owed-clause-read : goal.returns-in-None-owed-clause-read
returns-in-None-owed-clause-read g c =
    let f = equals g (goal.at.returns-in-None-owed-clause-read g c).In-Some-Equal in
    omega (arith, f.within)

pub returns-in-Some-clause-next : goal.returns-in-Some-clause-next
returns-in-Some-clause-next g c =
    let f = equals g (goal.at.returns-in-Some-clause-next g c).In-Some-Equal in
    equal_next g.M.Monomial.order (g.R.CoeffRing.characteristic c.args.ring) (sum_of g.M.Monomial.vector g.R.CoeffRing.value (drop c.args.read.now c.args.terms.now)) (sum_of g.M.Monomial.vector g.R.CoeffRing.value (drop (c.args.read.now + 1) c.args.terms.now)) c.args.rows.now c.owed-in-Some-Equal.new.rows (term_of g.M.Monomial.vector g.R.CoeffRing.value c.index-terms-at-in-Some-Equal.result) (term_of g.M.Monomial.vector g.R.CoeffRing.value c.in-Some.product) (term_of g.M.Monomial.vector g.R.CoeffRing.value (record { mono = c.index-terms-at-in-Some-Equal.result.mono; coef = c.add.result })) c.requires.modulus f.said (next_in_list g.M.Monomial.vector g.R.CoeffRing.value c.args.terms.now c.args.read.now c.index-terms-at-in-Some-Equal.result f.within c.index-terms-at-in-Some-Equal.is) c.requires.falls c.in-Some.ensures.sum refl c.add.ensures.value

pub returns-in-Some-clause-read : goal.returns-in-Some-clause-read
returns-in-Some-clause-read g c =
    let f = equals g (goal.at.returns-in-Some-clause-read g c).In-Some-Equal in
    omega (arith, f.within)
