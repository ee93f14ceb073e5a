use Rattle.std.proofs.Common.{◌≡◌, ◌∙◌, ◌<◌, ◌^◌, ℕ, sym, ap, subst, replicate, length, map, vec_len}
use Rattle.global_heap.specs.Inside.{merge_state, IsMerge}
use Rattle.whole_laws.specs.Wholes.{merge_start}
use Rattle.global_heap.specs.Names.{first_product}
use Rattle.term_ring.specs.Names.{reader_name}
use Rattle.ring_heads.specs.declared.head.HeadOf.TheVariants as head
use Rattle.global_heap.proofs.Begun.{begins, start_state}
use Rattle.global_heap.proofs.merge.Merge.new.Goals as goal

pub invariant_of-result : goal.invariant_of-result
invariant_of-result g c =
    let r = c.requires in
    let rs = c.args.readers.items in
    let long : length rs ≡ vec_len c.args.readers = sym c.args.readers.ok.0 in
    subst (λ o. IsMerge g.M.Monomial.vector g.R.CoeffRing.value g.R.CoeffRing.belongs g.M.Monomial.order g.M.Monomial.VARS g.M.Monomial.LIM (g.R.CoeffRing.characteristic c.args.coefficients) rs c.in-Ok.heads o 0) (sym c.new-2.ensures.items)
    (begins g.M.Monomial.vector g.R.CoeffRing.value g.R.CoeffRing.belongs g.M.Monomial.order g.M.Monomial.VARS g.M.Monomial.LIM (g.R.CoeffRing.characteristic c.args.coefficients) rs c.in-Ok.heads
    (subst (λ n. 0 < n) (sym long) r.some) (subst (λ n. n < 2 ^ 32) (sym long) r.few) r.scripts r.fit r.order r.variables r.modulus r.reading r.nothing
    (c.in-Ok.ensures ∙ ap (λ (n : ℕ). replicate n head.Missing) (c.len.ensures ∙ sym long)))

pub returns-clause-state : goal.returns-clause-state
returns-clause-state g c =
    let rs = c.args.readers.items in
    let long : length rs ≡ vec_len c.args.readers = sym c.args.readers.ok.0 in
    (λ i. merge_state g.M.Monomial.vector g.R.CoeffRing.value rs ((c.in-Ok.ensures ∙ ap (λ (n : ℕ). replicate n head.Missing) (c.len.ensures ∙ sym long)) i) (c.new-2.ensures.items i))
    ∙ start_state g.M.Monomial.vector g.R.CoeffRing.value rs c.requires.nothing
    ∙ ap (λ (n : ℕ). merge_start (first_product (map reader_name rs)) n) long
