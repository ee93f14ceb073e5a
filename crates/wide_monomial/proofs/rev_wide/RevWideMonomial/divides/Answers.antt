use Rattle.std.proofs.Common.{◌≡◌, subst, sym, ℕ, bit_and, ◌↔◌, ◌/◌, ◌^◌}
use Rattle.std.proofs.lemmas.Bool.{eqb-true, eq-eqb}
use Rattle.sdmp_laws.specs.Order.{Divides}
use Rattle.wide_monomial.specs.declared.layout.WideLayout.{WideLayout}
use Rattle.wide_monomial.specs.Packing.{cut_is}
use Rattle.wide_monomial.specs.Sums.{rev_vector_of}
use Rattle.wide_monomial.specs.SumsLaws.{tells_is, gaps_word}
use Rattle.wide_monomial.proofs.rev_wide.RevWideMonomial.divides.Goals as goal

pub returns : goal.returns
returns g c =
    let n : ℕ = g.row.N in
    let v : ℕ = c.args.self.word in
    let w : ℕ = c.args.other.word in
    let P : WideLayout → Type 0 = λ l. (bit_and (gaps_word (2 ^ 128) l.bits (l.guards / 2 ^ l.bits) v w) (l.guards / 2 ^ l.bits) ≡ l.guards / 2 ^ l.bits) ↔ Divides (rev_vector_of n v) (rev_vector_of n w) in
    let is = subst P (sym c.of-layout.ensures) (tells_is (cut_is n) v w c.args.self.packed c.args.other.packed c.requires.left c.requires.right) in
    (λ h. is.0 (eqb-true _ _ h), λ d. eq-eqb _ _ (is.1 d))
