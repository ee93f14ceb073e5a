use Rattle.std.proofs.Common.{subst, sym, ◌*◌, ◌-◌, ◌<◌, ◌/◌, ◌^◌, Fits, arith, ◌≡◌, ℕ}
use Rattle.std.specs.Int.{w64}
use Rattle.std.proofs.Math.Facts.{Fits-of_lt}
use Rattle.sdmp_laws.specs.Order.{degree}
use Rattle.wide_monomial.specs.declared.layout.WideLayout.{WideLayout}
use Rattle.wide_monomial.specs.Packing.{cut_is, degree_small}
use Rattle.wide_monomial.specs.Sums.{rev_vector_of}
use Rattle.wide_monomial.specs.SumsLaws.{degree_is}
use Rattle.packed_monomial.specs.Laws.{shift_below}
use Rattle.wide_monomial.proofs.rev_wide.RevWideMonomial.degree.Goals as goal

pub overflow_shr-result : goal.overflow_shr-result
overflow_shr-result g c =
    let P : WideLayout → Type 0 = λ l. g.row.N * l.bits - l.bits < 128 in
    subst P (sym c.of-bits.ensures) (omega (arith, shift_below (cut_is g.row.N)))

pub overflow_cast-result-2 : goal.overflow_cast-result-2
overflow_cast-result-2 g c =
    let n : ℕ = g.row.N in
    let w : ℕ = c.args.self.word in
    let P : WideLayout → Type 0 = λ l. Fits w64 (w / 2 ^ (n * l.bits - l.bits)) in
    subst P (sym c.of-bits.ensures) (Fits-of_lt (omega (arith, degree_is (cut_is n) w c.args.self.packed, degree_small n (degree (rev_vector_of n w)) c.args.self.packed.1)))

pub returns : goal.returns
returns g c =
    let n : ℕ = g.row.N in
    let w : ℕ = c.args.self.word in
    let P : WideLayout → Type 0 = λ l. w / 2 ^ (n * l.bits - l.bits) ≡ degree (rev_vector_of n w) in
    subst P (sym c.of-bits.ensures) (degree_is (cut_is n) w c.args.self.packed)
