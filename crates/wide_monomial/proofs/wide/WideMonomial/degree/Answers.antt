use Rattle.std.proofs.Common.{subst, sym, ◌*◌, ◌<◌, ◌/◌, ◌^◌, Fits, arith, ◌≡◌, ◌∙◌, ap, ℕ}
use Rattle.std.specs.Int.{w64}
use Rattle.std.proofs.Math.Facts.{Fits-of_lt}
use Rattle.std.proofs.Math.Nat.{mul_comm}
use Rattle.sdmp_laws.specs.Order.{degree}
use Rattle.wide_monomial.specs.declared.layout.WideLayout.{WideLayout}
use Rattle.wide_monomial.specs.Packing.{cut_is, bits_of, vector_of, degree_small}
use Rattle.packed_monomial.specs.Laws.{shift_below}
use Rattle.wide_monomial.proofs.wide.WideMonomial.degree.Goals as goal

pub overflow_mul-result : goal.overflow_mul-result
overflow_mul-result g c =
    let P : WideLayout → Type 0 = λ l. Fits w64 (g.row.N * l.bits) in
    subst P (sym c.of.ensures) (Fits-of_lt (omega (arith, shift_below (cut_is g.row.N))))

pub overflow_shr-result : goal.overflow_shr-result
overflow_shr-result g c =
    let P : WideLayout → Type 0 = λ l. g.row.N * l.bits < 128 in
    subst P (sym c.of.ensures) (shift_below (cut_is g.row.N))

-- the highest field
highest : (n w : ℕ) → w / 2 ^ (bits_of n * n) ≡ degree (vector_of n w) → w / 2 ^ (n * bits_of n) ≡ degree (vector_of n w)
highest n w e = ap (λ k. w / 2 ^ k) (mul_comm n (bits_of n)) ∙ e

pub overflow_cast-result-3 : goal.overflow_cast-result-3
overflow_cast-result-3 g c =
    let n : ℕ = g.row.N in
    let w : ℕ = c.args.self.word in
    let P : WideLayout → Type 0 = λ l. Fits w64 (w / 2 ^ (n * l.bits)) in
    subst P (sym c.of.ensures) (Fits-of_lt (omega (arith, highest n w c.args.self.packed.0, degree_small n (degree (vector_of n w)) c.args.self.packed.1)))

pub returns : goal.returns
returns g c =
    let n : ℕ = g.row.N in
    let w : ℕ = c.args.self.word in
    let P : WideLayout → Type 0 = λ l. w / 2 ^ (n * l.bits) ≡ degree (vector_of n w) in
    subst P (sym c.of.ensures) (highest n w c.args.self.packed.0)
