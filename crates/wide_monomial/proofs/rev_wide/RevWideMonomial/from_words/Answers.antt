use Rattle.std.proofs.Common.{◌≡◌, subst, sym, ap, ◌∙◌, arith, ℕ, ◌-◌, ◌*◌, ◌^◌, ◌<◌, ◌≤◌, ◌/◌, ◌%◌, bit_and}
use Rattle.wide_monomial.specs.declared.layout.WideLayout.{WideLayout}
use Rattle.wide_monomial.specs.Packing.{bits_of, limit_of, cut_is, masked, halves-same}
use Rattle.wide_monomial.specs.Layouts.{layout_of}
use Rattle.wide_monomial.specs.Sums.{field, IsRevWide}
use Rattle.wide_monomial.specs.SumsLaws.{first_field, next_field, rising_more, holds_from, holds_top, exponent_is}
use Rattle.wide_monomial.proofs.rev_wide.RevWideMonomial.from_words.Goals as goal
use Rattle.wide_monomial.proofs.rev_wide.RevWideMonomial.from_words.Goals.{else-word-layout-eq0-via-then-word-layout-eq0+else-last-layout, else-word-layout-eq0-via-else-word-layout-eq0}

-- the field that the code reads
abbrev read : WideLayout → ℕ → ℕ → ℕ
read l w i = bit_and (w / 2 ^ (i * l.bits)) (1 * 2 ^ l.bits % 2 ^ 128 - 1)

read_is : (n w i : ℕ) (l : WideLayout) → l ≡ layout_of n → read l w i ≡ field (bits_of n) w i
read_is n w i l e = subst (λ k. read k w i ≡ field (bits_of n) w i) (sym e) (masked n (w / 2 ^ (i * bits_of n)))

pub loop-i-init : goal.loop-i-init
loop-i-init g c = record { last_is = first_field (bits_of g.row.N) c.join-word.result; rising = λ k h. absurd (omega (arith, h)) }

pub loop-i-preserved : goal.loop-i-preserved
loop-i-preserved g c =
    let n : ℕ = g.row.N in
    let b : ℕ = bits_of n in
    let w : ℕ = c.join-word.result in
    let i : ℕ = c.loop-i.i in
    let is = read_is n w i c.of-layout.result c.of-layout.ensures in
    record {
      last_is = is ∙ next_field b w i;
      rising = rising_more b w i c.loop-i.invariant.rising (omega (arith, c.if-field-last.false, c.loop-i.invariant.last_is, is));
    }

-- fields that fall are no sums
fallen : (n w i : ℕ) → IsRevWide n w → i < n → field (bits_of n) (w * 2 ^ bits_of n) i ≤ field (bits_of n) w i
fallen n w i p h = omega (arith, exponent_is (cut_is n) w i p h)

pub returns-then-field-last : goal.returns-then-field-last
returns-then-field-last g c = λ m e.
    let n : ℕ = g.row.N in
    let w : ℕ = c.join-word.result in
    let i : ℕ = c.loop-i.i in
    let same : m.word ≡ w = halves-same m.word w (e ∙ sym c.join-word.ensures) in
    let packed : IsRevWide n w = subst (IsRevWide n) same m.packed in
    absurd (omega (arith, fallen n w i packed c.loop-i-test.true, read_is n w i c.of-layout.result c.of-layout.ensures, c.if-field-last.true, c.loop-i.invariant.last_is))

-- after all fields
over_all : (n w last i : ℕ) (l : WideLayout) → l ≡ layout_of n → i ≤ n → n ≤ i → last ≡ field (bits_of n) (w * 2 ^ bits_of n) i → ((k : ℕ) → k < i → field (bits_of n) (w * 2 ^ bits_of n) k ≤ field (bits_of n) w k) → w / 2 ^ (n * l.bits) ≡ 0 → last ≤ 2 * l.limit → IsRevWide n w
over_all n w last i l e h j is rising none top =
    let all : i ≡ n = omega arith in
    let none_is : w / 2 ^ (n * bits_of n) ≡ 0 = subst (λ k. w / 2 ^ (n * k.bits) ≡ 0) e none in
    let top_is : last ≤ 2 * limit_of n = subst (λ k. last ≤ 2 * k.limit) e top in
    let last_is : last ≡ field (bits_of n) (w * 2 ^ bits_of n) n = is ∙ ap (field (bits_of n) (w * 2 ^ bits_of n)) all in
    holds_from (bits_of n) (limit_of n) n w (λ k m. rising k (omega (arith, all, m))) none_is (omega (arith, top_is, last_is))

pub invariant_of-result : goal.invariant_of-result
invariant_of-result g c = record {
  packed = over_all g.row.N c.join-word.result c.loop-i.last c.loop-i.i c.of-layout.result c.of-layout.ensures c.loop-i.auto.i-end c.loop-i-test.false c.loop-i.invariant.last_is c.loop-i.invariant.rising c.if-word-layout-eq0.true c.if-last-layout.true;
}

-- what each word that is packed passes
passes : (n w last i : ℕ) (l : WideLayout) → l ≡ layout_of n → i ≤ n → n ≤ i → last ≡ field (bits_of n) (w * 2 ^ bits_of n) i → IsRevWide n w → (w / 2 ^ (n * l.bits) ≡ 0) × (last ≤ 2 * l.limit)
passes n w last i l e h j is p =
    let all : i ≡ n = omega arith in
    let t = holds_top (cut_is n) w p in
    let last_is : last ≡ field (bits_of n) (w * 2 ^ bits_of n) n = is ∙ ap (field (bits_of n) (w * 2 ^ bits_of n)) all in
    subst (λ k. (w / 2 ^ (n * k.bits) ≡ 0) × (last ≤ 2 * k.limit)) (sym e) (t.0, omega (arith, t.1, last_is))

pub returns-else-word-layout-eq0 : goal.returns-else-word-layout-eq0
returns-else-word-layout-eq0 g c = λ m e.
    let n : ℕ = g.row.N in
    let w : ℕ = c.join-word.result in
    let same : m.word ≡ w = halves-same m.word w (e ∙ sym c.join-word.ensures) in
    let ok = passes n w c.loop-i.last c.loop-i.i c.of-layout.result c.of-layout.ensures c.loop-i.auto.i-end c.loop-i-test.false c.loop-i.invariant.last_is (subst (IsRevWide n) same m.packed) in
    elim c.else-word-layout-eq0.branch [
      | else-word-layout-eq0-via-then-word-layout-eq0+else-last-layout z ↦ absurd (omega (arith, ok.1, z.if-last-layout.false))
      | else-word-layout-eq0-via-else-word-layout-eq0 z ↦ absurd (z.if-word-layout-eq0.false ok.0)
    ]
