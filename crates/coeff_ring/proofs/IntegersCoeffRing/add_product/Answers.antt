use Rattle.std.proofs.Common.{◌≤◌, ◌≡◌, ◌+ℤ◌, ◌*ℤ◌, ℤ, unsigned_abs, ap, subst, sym, ◌∙◌, arith}
use Rattle.std.specs.Int.{w128, cast_signed, cast_unsigned}
use Rattle.std.proofs.lemmas.Int.{to_z-of_z, fits_signed_from_abs}
use Rattle.sdmp_laws.specs.Limits.{greatest_norm}
use Rattle.coeff_ring.proofs.IntegersCoeffRing.add_product.Goals as goal

pub returns-clause-value : goal.returns-clause-value
returns-clause-value c =
    let begun : c.cast_signed.result ≡ cast_signed w128 c.args.sum = c.cast_signed.ensures in
    let small : unsigned_abs c.cast_signed.result ≤ greatest_norm = subst (λ (z : ℤ). unsigned_abs z ≤ greatest_norm) (sym begun) c.requires.begun in
    let s = to_z-of_z w128 c.cast_signed.result (fits_signed_from_abs w128 c.cast_signed.result (omega (arith, small))) in
    let a = to_z-of_z w128 c.args.a (fits_signed_from_abs w128 c.args.a (omega (arith, c.requires.left))) in
    let b = to_z-of_z w128 c.args.b (fits_signed_from_abs w128 c.args.b (omega (arith, c.requires.right))) in
    let whole : ℤ = cast_signed w128 c.args.sum +ℤ c.args.a *ℤ c.args.b in
    let fits : unsigned_abs whole ≤ greatest_norm = c.requires.sum_room in
    let same : c.sum_with.result ≡ whole = c.sum_with.ensures ∙ (λ i. (s ∙ begun) i +ℤ a i *ℤ b i) in
    let back = to_z-of_z w128 whole (fits_signed_from_abs w128 whole (omega (arith, fits))) in
    let bits = c.cast_unsigned.ensures ∙ ap (λ (z : ℤ). cast_unsigned w128 (cast_signed w128 (cast_unsigned w128 z))) same ∙ ap (cast_unsigned w128) back in
    ap (cast_signed w128) bits ∙ back

pub returns-clause-belongs : goal.returns-clause-belongs
returns-clause-belongs c = subst (λ (z : ℤ). unsigned_abs z ≤ greatest_norm) (sym (returns-clause-value c)) c.requires.sum_room
