use Rattle.std.proofs.Common.{◌≡◌, subst, sym, refl, ap, ◌∙◌, arith, ℕ, ◌+◌, ◌*◌, ◌^◌, ◌%◌, ◌<◌, ◌≤◌, get_or, List, length, take, sum}
use Rattle.std.proofs.lemmas.List.{take_all}
use Rattle.std.proofs.Math.Facts.{Fits-of_lt}
use Rattle.sdmp_laws.specs.Order.{degree}
use Rattle.packed_monomial.specs.Laws.{degree_added}
use Rattle.wide_monomial.specs.declared.layout.WideLayout.{WideLayout}
use Rattle.wide_monomial.specs.Layouts.{layout_of}
use Rattle.wide_monomial.specs.Packing.{bits_of, limit_of, cut_is}
use Rattle.wide_monomial.specs.Sums.{IsRevWide, rev_vector_of, rev_word_of, sums_word}
use Rattle.wide_monomial.specs.SumsLaws.{Pack, pack_is, holds_sums, vector_is}
use Rattle.wide_monomial.proofs.rev_wide.RevWideMonomial.pack.Goals as goal

pub returns-then-degree-layout : goal.returns-then-degree-layout
returns-then-degree-layout g c =
    let d = degree_added c.loop-e.e-index c.loop-e.degree c.args.exponents.now (omega arith) c.loop-e.invariant.is in
    (omega (arith, d, c.if-degree-layout.true, ap (λ (l : WideLayout). l.limit) c.of-layout.ensures), d)

-- one more exponent
step : (n : ℕ) (xs : List ℕ) (d i : ℕ) (l : WideLayout) → length xs ≡ n → l ≡ layout_of n → d ≡ degree xs → d ≤ l.limit → i < length xs → Pack 128 (bits_of n) (limit_of n) xs i (get_or xs i 0)
step n xs d i l e row is within h = pack_is (cut_is n) xs i (get_or xs i 0) e (omega (arith, is, within, ap (λ (k : WideLayout). k.limit) row)) h refl

-- what the code adds is the next sum in its place
adds : (n : ℕ) (xs : List ℕ) (i word sum_here place x : ℕ) → Pack 128 (bits_of n) (limit_of n) xs i x → word ≡ sums_word (bits_of n) (take i xs) → sum_here ≡ sum (take i xs) → place ≡ i * bits_of n → (word + (sum_here + x) * 2 ^ place % 2 ^ 128 ≡ sums_word (bits_of n) (take (i + 1) xs)) × (word + (sum_here + x) * 2 ^ place % 2 ^ 128 < 2 ^ 128)
adds n xs i word sum_here place x p w s q =
    let moved : (sum_here + x) * 2 ^ place % 2 ^ 128 ≡ (sum (take i xs) + x) * 2 ^ (i * bits_of n) = (λ k. (s k + x) * 2 ^ q k % 2 ^ 128) ∙ p.whole in
    (omega (arith, w, moved, p.next), omega (arith, w, moved, p.fits))

pub overflow_add-word : goal.overflow_add-word
overflow_add-word g c =
    let n : ℕ = g.row.N in
    let xs : List ℕ = c.args.exponents.now in
    let d = degree_added c.loop-e.e-index c.loop-e.degree xs (omega arith) c.loop-e.invariant.is in
    let i : ℕ = c.loop-e-2.e-index in
    let p = step n xs c.loop-e.degree i c.of-layout.result c.requires.vars c.of-layout.ensures d c.if-degree-layout.false c.loop-e-2-test.true in
    Fits-of_lt (adds n xs i c.loop-e-2.word c.loop-e-2.sum c.loop-e-2.place (get_or xs i 0) p c.loop-e-2.invariant.word_is c.loop-e-2.invariant.sum_is c.loop-e-2.invariant.place_is).1

pub loop-e-2-preserved : goal.loop-e-2-preserved
loop-e-2-preserved g c =
    let n : ℕ = g.row.N in
    let xs : List ℕ = c.args.exponents.now in
    let d = degree_added c.loop-e.e-index c.loop-e.degree xs (omega arith) c.loop-e.invariant.is in
    let i : ℕ = c.loop-e-2.e-index in
    let p = step n xs c.loop-e.degree i c.of-layout.result c.requires.vars c.of-layout.ensures d c.if-degree-layout.false c.loop-e-2-test.true in
    let bits : c.of-layout.result.bits ≡ bits_of n = ap (λ (l : WideLayout). l.bits) c.of-layout.ensures in
    let more : i * bits_of n + bits_of n ≡ (i + 1) * bits_of n = omega arith in
    record {
      word_is = (adds n xs i c.loop-e-2.word c.loop-e-2.sum c.loop-e-2.place (get_or xs i 0) p c.loop-e-2.invariant.word_is c.loop-e-2.invariant.sum_is c.loop-e-2.invariant.place_is).0;
      sum_is = ap (λ k. k + get_or xs i 0) c.loop-e-2.invariant.sum_is ∙ p.next_sum;
      place_is = (λ k. c.loop-e-2.invariant.place_is k + bits k) ∙ more;
    }

-- after all exponents
packed : (n : ℕ) (xs : List ℕ) (d i word : ℕ) (l : WideLayout) → length xs ≡ n → l ≡ layout_of n → d ≡ degree xs → d ≤ l.limit → length xs ≤ i → word ≡ sums_word (bits_of n) (take i xs) → IsRevWide n word × (degree xs ≤ limit_of n) × (rev_vector_of n word ≡ xs)
packed n xs d i word l e row is within all w =
    let fits : degree xs ≤ limit_of n = omega (arith, is, within, ap (λ (k : WideLayout). k.limit) row) in
    let same : word ≡ rev_word_of n xs = w ∙ ap (sums_word (bits_of n)) (take_all i xs all) in
    (subst (IsRevWide n) (sym same) (holds_sums (cut_is n) xs e (omega (arith, fits))), fits, ap (rev_vector_of n) same ∙ vector_is (cut_is n) xs e (omega (arith, fits)))

pub invariant_of-result : goal.invariant_of-result
invariant_of-result g c =
    let d = degree_added c.loop-e.e-index c.loop-e.degree c.args.exponents.now (omega arith) c.loop-e.invariant.is in
    record { packed = (packed g.row.N c.args.exponents.now c.loop-e.degree c.loop-e-2.e-index c.loop-e-2.word c.of-layout.result c.requires.vars c.of-layout.ensures d c.if-degree-layout.false c.loop-e-2-test.false c.loop-e-2.invariant.word_is).0 }

pub returns : goal.returns
returns g c =
    let d = degree_added c.loop-e.e-index c.loop-e.degree c.args.exponents.now (omega arith) c.loop-e.invariant.is in
    let all = packed g.row.N c.args.exponents.now c.loop-e.degree c.loop-e-2.e-index c.loop-e-2.word c.of-layout.result c.requires.vars c.of-layout.ensures d c.if-degree-layout.false c.loop-e-2-test.false c.loop-e-2.invariant.word_is in
    (all.1, all.2)
