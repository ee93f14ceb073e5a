use Rattle.std.proofs.Common.{◌≡◌, ◌*◌, ◌%◌, ◌^◌, ◌∙◌, arith}
use Rattle.std.proofs.Math.Nat.{mod-eq_of_lt}
use Rattle.std.specs.Int.Count.{count_leading_zeros}
use Rattle.coeff_residue.proofs.Estimates.{normal}
use Rattle.coeff_residue.proofs.Residues.new.Goals as goal

pub new-requires : goal.new-requires
new-requires c =
    let n = normal c.args.p (omega (arith, c.if-p-lt2.false)) c.ranges.p.fits in
    let whole : c.args.p * 2 ^ count_leading_zeros 64 c.args.p % 2 ^ 64 ≡ c.args.p * 2 ^ count_leading_zeros 64 c.args.p = mod-eq_of_lt n.2 in
    omega (arith, whole, n.1)

pub invariant_of-result : goal.invariant_of-result
invariant_of-result c =
    let n = normal c.args.p (omega (arith, c.if-p-lt2.false)) c.ranges.p.fits in
    record { large = omega (arith, c.if-p-lt2.false); word = c.ranges.p.fits; narrow = n.0; scaled = c.new.ensures ∙ mod-eq_of_lt n.2 }
