use Rattle.std.proofs.Common.{◌≡◌, ◌+◌, ◌*◌, ◌^◌, ◌<◌, ◌≤◌, ℕ, None, length, All, refl, sym, ap, subst, ◌∙◌, arith}
use Rattle.std.proofs.Math.Path.{transport}
use Rattle.sdmp_laws.specs.Poly.{norm, part}
use Rattle.canonical_terms.specs.View.{term_of, sum_of}
use Rattle.row_merge.specs.Learned.{AreRows}
use Rattle.row_merge.specs.Rows.{strided, seen, IsFalling, made, entered}
use Rattle.row_merge.specs.Part.{row_count}
use Rattle.row_merge.proofs.RowLists.{long_sum}
use Rattle.row_merge.proofs.Falls.{length-strided}
use Rattle.row_merge.proofs.LearnedRows.{move_rows}
use Rattle.row_merge.proofs.PartLemmas.{next_seen, ends_seen, length-part, part_room}
use Rattle.row_merge.proofs.merge.RowMerge.next.Given as given
use Rattle.row_merge.proofs.merge.RowMerge.next.Goals as goal

pub start-requires-clause-rows : goal.start-requires-clause-rows
start-requires-clause-rows g c κs within =
    let v = c.self.invariant.0 in
    move_rows g.M.Monomial.vector g.M.Monomial.order None (seen c.self.inside.rows.begun c.self.inside.set.g.now.list) (seen c.self.inside.rows.begun (sum_of g.M.Monomial.vector g.R.CoeffRing.value c.terms-g.result.now)) (sum_of g.M.Monomial.vector g.R.CoeffRing.value c.self.inside.part.items) (sum_of g.M.Monomial.vector g.R.CoeffRing.value c.deref.result.now) c.self.inside.rows.reads.items c.self.inside.rows.reads.items c.self.inside.rows.heap c.self.inside.rows.heap (ap (seen c.self.inside.rows.begun) (sym c.terms-g.ensures.view)) (ap (sum_of g.M.Monomial.vector g.R.CoeffRing.value) (sym c.deref.ensures.value)) refl refl v.rows

pub start-requires-clause-terms_fall : goal.start-requires-clause-terms_fall
start-requires-clause-terms_fall g c κs within = subst (λ ts. IsFalling g.M.Monomial.order g.M.Monomial.VARS g.M.Monomial.LIM (sum_of g.M.Monomial.vector g.R.CoeffRing.value ts)) (sym c.deref.ensures.value) c.self.invariant.0.falls

pub next_term-requires-clause-few : goal.next_term-requires-clause-few
next_term-requires-clause-few g c κs within =
    let v = c.self.invariant.0 in
    omega (arith, ap length c.deref-2.ensures.value, long_sum g.M.Monomial.vector g.R.CoeffRing.value c.self.inside.part.items, ap length v.terms, length-strided c.self.inside.set.f.now.list c.self.inside.set.worker c.self.inside.set.workers (length c.self.inside.rows.reads.items), v.few)

pub next_term-requires-clause-rows : goal.next_term-requires-clause-rows
next_term-requires-clause-rows g c κs within =
    move_rows g.M.Monomial.vector g.M.Monomial.order None (sum_of g.M.Monomial.vector g.R.CoeffRing.value c.terms-g.result.now) (sum_of g.M.Monomial.vector g.R.CoeffRing.value c.terms-g.result.now) (sum_of g.M.Monomial.vector g.R.CoeffRing.value c.deref.result.now) (sum_of g.M.Monomial.vector g.R.CoeffRing.value c.deref-2.result.now) c.start.new.self.reads.items c.start.new.self.reads.items c.start.new.self.heap c.start.new.self.heap refl (ap (sum_of g.M.Monomial.vector g.R.CoeffRing.value) (c.deref.ensures.value ∙ sym c.deref-2.ensures.value)) refl refl c.start.ensures.rows

pub next_term-requires-clause-terms_fall : goal.next_term-requires-clause-terms_fall
next_term-requires-clause-terms_fall g c κs within = subst (λ ts. IsFalling g.M.Monomial.order g.M.Monomial.VARS g.M.Monomial.LIM (sum_of g.M.Monomial.vector g.R.CoeffRing.value ts)) (sym c.deref-2.ensures.value) c.self.invariant.0.falls

pub next_term-requires-clause-terms_belong : goal.next_term-requires-clause-terms_belong
next_term-requires-clause-terms_belong g c κs within =
    subst (λ p. All (λ t. g.R.CoeffRing.belongs p t.coef) c.deref-2.result.now) (sym c.ring-ring.ensures)
    (subst (λ ts. All (λ t. g.R.CoeffRing.belongs c.self.inside.set.f.now.modulus t.coef) ts) (sym c.deref-2.ensures.value) c.self.invariant.1)

pub next_term-requires-clause-room : goal.next_term-requires-clause-room
next_term-requires-clause-room g c κs within = λ z.
    let v = c.self.invariant.0 in
    let e : norm (sum_of g.M.Monomial.vector g.R.CoeffRing.value c.deref-2.result.now) * norm (sum_of g.M.Monomial.vector g.R.CoeffRing.value c.terms-g.result.now) ≡ norm (sum_of g.M.Monomial.vector g.R.CoeffRing.value c.self.inside.part.items) * norm c.self.inside.set.g.now.list = λ i. norm (sum_of g.M.Monomial.vector g.R.CoeffRing.value (c.deref-2.ensures.value i)) * norm (c.terms-g.ensures.view i) in
    omega (arith, e, part_room g.M.Monomial.LIM c.self.inside.set.f.now.modulus c.self.inside.set.f.now.list c.self.inside.set.g.now.list (sum_of g.M.Monomial.vector g.R.CoeffRing.value c.self.inside.part.items) c.self.inside.set.workers c.self.inside.set.worker (length c.self.inside.rows.reads.items) v.worker v.room v.terms (sym c.ring-ring.ensures ∙ z))

-- the rows that `next_term` is given, and how many they are after it
given_rows : (g : given.Over) (c : goal.After-next_term g) → (sum_of g.M.Monomial.vector g.R.CoeffRing.value c.deref-2.result.now) ≡ (strided c.self.inside.set.f.now.list c.self.inside.set.worker c.self.inside.set.workers (length c.self.inside.rows.reads.items))
given_rows g c = ap (sum_of g.M.Monomial.vector g.R.CoeffRing.value) c.deref-2.ensures.value ∙ c.self.invariant.0.terms

as_many : (g : given.Over) (c : goal.After-next_term g) → length c.next_term.new.self.reads.items ≡ length c.self.inside.rows.reads.items
as_many g c =
    c.next_term.ensures.rows.reads_count ∙ ap (λ ts. length (sum_of g.M.Monomial.vector g.R.CoeffRing.value ts)) c.deref-2.ensures.value ∙ sym c.self.invariant.0.rows.reads_count

pub invariant_of-self : goal.invariant_of-self
invariant_of-self g c =
    let v = c.self.invariant.0 in
    let n = c.next_term.ensures in
    let l = as_many g c in
    let b = sym (n.begun ∙ c.start.ensures.begun) in (
      record {
        modulus = v.modulus;
        worker = v.worker;
        room = v.room;
        few = omega (arith, l, v.few);
        count = l ∙ v.count;
        terms = v.terms ∙ ap (strided c.self.inside.set.f.now.list c.self.inside.set.worker c.self.inside.set.workers) (sym l);
        falls = v.falls;
        rows = transport (λ i. AreRows g.M.Monomial.vector g.M.Monomial.order None (seen (b i) (c.terms-g.ensures.view i)) (sum_of g.M.Monomial.vector g.R.CoeffRing.value (c.deref-2.ensures.value i)) c.next_term.new.self.reads.items c.next_term.new.self.heap) n.rows;
      },
      c.self.invariant.1,
    )

pub returns-clause-next : goal.returns-clause-next
returns-clause-next g c =
    let s = c.start.ensures in
    let n = c.next_term.ensures in
    next_seen (term_of g.M.Monomial.vector g.R.CoeffRing.value) g.M.Monomial.order c.self.inside.set.f.now.modulus (g.R.CoeffRing.characteristic c.ring-ring.result) (strided c.self.inside.set.f.now.list c.self.inside.set.worker c.self.inside.set.workers (length c.self.inside.rows.reads.items)) (sum_of g.M.Monomial.vector g.R.CoeffRing.value c.deref-2.result.now) (strided c.self.inside.set.f.now.list c.self.inside.set.worker c.self.inside.set.workers (length c.next_term.new.self.reads.items)) c.self.inside.set.g.now.list (sum_of g.M.Monomial.vector g.R.CoeffRing.value c.terms-g.result.now)
    c.self.inside.rows.reads.items c.start.new.self.reads.items c.next_term.new.self.reads.items c.args.self.now.rest c.next_term.result
    c.ring-ring.ensures (given_rows g c) (ap (strided c.self.inside.set.f.now.list c.self.inside.set.worker c.self.inside.set.workers) (as_many g c)) c.terms-g.ensures.view s.reads (ap (λ m. m.rest) c.self.view_is) n.next

pub returns-clause-ends : goal.returns-clause-ends
returns-clause-ends g c =
    let v = c.self.invariant.0 in
    let s = c.start.ensures in
    let n = c.next_term.ensures in
    ends_seen (term_of g.M.Monomial.vector g.R.CoeffRing.value) g.M.Monomial.order (g.R.CoeffRing.characteristic c.ring-ring.result) g.M.Monomial.vector (strided c.self.inside.set.f.now.list c.self.inside.set.worker c.self.inside.set.workers (length c.self.inside.rows.reads.items)) (sum_of g.M.Monomial.vector g.R.CoeffRing.value c.deref-2.result.now) c.self.inside.set.g.now.list (sum_of g.M.Monomial.vector g.R.CoeffRing.value c.terms-g.result.now) c.start.new.self.reads.items c.next_term.new.self.reads.items c.next_term.new.self.heap
    (length (part c.args.self.now.f c.args.self.now.g c.args.self.now.workers c.args.self.now.worker)) c.args.self.now.made c.next_term.result
    (given_rows g c) c.terms-g.ensures.view n.next n.rows
    (ap (λ m. length (part m.f m.g m.workers m.worker)) (sym c.self.view_is) ∙ length-part c.self.inside.set.f.now.list c.self.inside.set.g.now.list c.self.inside.set.workers c.self.inside.set.worker (length c.self.inside.rows.reads.items) v.worker v.count)
    (omega (arith, n.grows, ap made s.reads, ap (λ m. m.made) c.self.view_is))

compares_are : (l new start old E0 E1 En m0 m1 mn e m : ℕ) → new + l * E1 + 2 * l * m1 ≤ start + l * En + 2 * l * mn → start + l * E0 ≤ old + l * E1 → m1 ≡ m0 → E0 ≡ e → m0 ≡ m → new + l * e + 2 * l * m ≤ old + l * En + 2 * l * mn
compares_are l new start old E0 E1 En m0 m1 mn e m a b c d f = omega (arith, a, b, ap (λ (q : ℕ). 2 * l * q) (c ∙ f), ap (λ (q : ℕ). l * q) d)

pub returns-clause-compares : goal.returns-clause-compares
returns-clause-compares g c = λ l b.
    let v = c.self.invariant.0 in
    let s = c.start.ensures in
    let n = c.next_term.ensures in
    let few : row_count (length c.self.inside.set.f.now.list) c.self.inside.set.workers c.self.inside.set.worker < 2 ^ l = subst (λ m. row_count (length m.f) m.workers m.worker < 2 ^ l) (sym c.self.view_is) b in
    let long : length c.self.inside.rows.heap ≡ row_count (length c.self.inside.set.f.now.list) c.self.inside.set.workers c.self.inside.set.worker = v.rows.places_count ∙ ap length v.terms ∙ length-strided c.self.inside.set.f.now.list c.self.inside.set.worker c.self.inside.set.workers (length c.self.inside.rows.reads.items) ∙ v.count in
    let after : length c.start.new.self.heap ≡ length c.self.inside.rows.heap = s.rows.places_count ∙ ap (λ ts. length (sum_of g.M.Monomial.vector g.R.CoeffRing.value ts)) c.deref.ensures.value ∙ sym v.rows.places_count in
    compares_are l c.next_term.new.steps.compares c.start.new.steps.compares c.args.steps.now.compares (entered c.self.inside.rows.reads.items c.self.inside.rows.heap) (entered c.start.new.self.reads.items c.start.new.self.heap) (entered c.next_term.new.self.reads.items c.next_term.new.self.heap)
    (made c.self.inside.rows.reads.items) (made c.start.new.self.reads.items) (made c.next_term.new.self.reads.items) c.args.self.now.entered c.args.self.now.made
    (n.compares l (omega (arith, after, long, few))) (s.compares l (omega (arith, long, few))) (ap made s.reads) (ap (λ m. m.entered) c.self.view_is) (ap (λ m. m.made) c.self.view_is)
