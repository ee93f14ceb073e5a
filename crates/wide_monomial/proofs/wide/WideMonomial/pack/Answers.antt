use Rattle.std.proofs.Common.{◌≡◌, subst, sym, refl, ap, ◌∙◌, arith, ℕ, ◌+◌, ◌*◌, ◌^◌, ◌%◌, get_or, List, ◌∷◌}
use Rattle.std.proofs.lemmas.List.{take_all}
use Rattle.sdmp_laws.specs.Order.{degree}
use Rattle.wide_monomial.specs.declared.layout.WideLayout.{WideLayout}
use Rattle.packed_monomial.specs.Fields.{fields_word}
use Rattle.wide_monomial.specs.Layouts.{layout_of}
use Rattle.packed_monomial.specs.Laws.{Pack, all_added, degree_added, pack_is, front_word, front_start}
use Rattle.wide_monomial.specs.Packing.{IsWide, vector_of, bits_of, limit_of, word_of, cut_is}
use Rattle.packed_monomial.specs.Cuts.{packed_is, vector_is}
use Rattle.wide_monomial.proofs.wide.WideMonomial.pack.Goals as goal

pub loop-e-2-preserved : goal.loop-e-2-preserved
loop-e-2-preserved g c =
    let n : ℕ = g.row.N in
    let xs : List ℕ = c.args.exponents.now in
    let all = all_added (limit_of n) c.loop-e.e-index c.loop-e.degree xs (omega arith) c.loop-e.invariant.is (omega (arith, ap (λ (k : WideLayout). k.limit) c.of-layout.ensures)) in
    let i : ℕ = c.loop-e-2.e-index in
    let p : Pack 128 (bits_of n) xs i (get_or xs i 0) = pack_is (cut_is n) xs i (get_or xs i 0) c.requires.vars all.fits c.loop-e-2-test.true refl in
    let P : WideLayout → Type 0 = λ l. front_word (bits_of n) xs i * 2 ^ l.bits % 2 ^ 128 + get_or xs i 0 ≡ front_word (bits_of n) xs (i + 1) in
    let e : P (layout_of n) = ap (λ k. k + get_or xs i 0) p.whole ∙ p.next in
    ap (λ w. w * 2 ^ c.of-layout.result.bits % 2 ^ 128 + get_or xs i 0) c.loop-e-2.invariant ∙ subst P (sym c.of-layout.ensures) e

pub invariant_of-result : goal.invariant_of-result
invariant_of-result g c =
    let n : ℕ = g.row.N in
    let xs : List ℕ = c.args.exponents.now in
    let all = all_added (limit_of n) c.loop-e.e-index c.loop-e.degree xs (omega arith) c.loop-e.invariant.is (omega (arith, ap (λ (k : WideLayout). k.limit) c.of-layout.ensures)) in
    let w : c.loop-e-2.word ≡ word_of n xs = c.loop-e-2.invariant ∙ ap (λ ys. fields_word (bits_of n) (degree xs ∷ ys)) (take_all c.loop-e-2.e-index xs (omega arith)) in
    record { packed = subst (λ k. IsWide n k) (sym w) (packed_is (cut_is n) xs c.requires.vars (omega (arith, all.fits))) }

pub returns : goal.returns
returns g c =
    let n : ℕ = g.row.N in
    let xs : List ℕ = c.args.exponents.now in
    let all = all_added (limit_of n) c.loop-e.e-index c.loop-e.degree xs (omega arith) c.loop-e.invariant.is (omega (arith, ap (λ (k : WideLayout). k.limit) c.of-layout.ensures)) in
    let w : c.loop-e-2.word ≡ word_of n xs = c.loop-e-2.invariant ∙ ap (λ ys. fields_word (bits_of n) (degree xs ∷ ys)) (take_all c.loop-e-2.e-index xs (omega arith)) in
    (all.fits, ap (vector_of n) w ∙ vector_is (cut_is n) xs c.requires.vars (omega (arith, all.fits)))

pub returns-then-degree-layout : goal.returns-then-degree-layout
returns-then-degree-layout g c =
    let d = degree_added c.loop-e.e-index c.loop-e.degree c.args.exponents.now (omega arith) c.loop-e.invariant.is in
    (omega (arith, d, c.if-degree-layout.true, ap (λ (l : WideLayout). l.limit) c.of-layout.ensures), d)

pub loop-e-2-init : goal.loop-e-2-init
loop-e-2-init g c =
    degree_added c.loop-e.e-index c.loop-e.degree c.args.exponents.now (omega arith) c.loop-e.invariant.is ∙ sym (front_start (bits_of g.row.N) c.args.exponents.now)
