use Rattle.std.proofs.Common.{rules, ◌≡◌, ◌≤◌, ℤ, List, All, sym, refl, ◌∙◌, subst}
use Rattle.std.specs.Prelude.{unsigned_abs}
use Rattle.sdmp_laws.specs.Order.{Grlex}
use Rattle.sdmp_laws.specs.Poly.{Term, terms, times, part}
use Rattle.sdmp_laws.specs.Limits.{greatest_norm}
use Rattle.packed_monomial.specs.Packing.{vector_of}
use Rattle.packed_monomial.specs.declared.packed.Packed.{Packed}
use Rattle.whole_laws.specs.Notes.{Product, ProductScript, script_list}
use Rattle.term_ring.specs.Carried.{Fits, Carries, whole}
use Rattle.term_ring.specs.Ends.{script_in}
use Rattle.term_ring.proofs.Carrying.{carries_whole, fits_whole}
use Rattle.row_merge.proofs.ProductTerms.{all_listed}
use Rattle.thread_bench.proofs.passing.measure_ring.Goals as goal

-- the one worker of a product sends all of its terms
one_sends : (m : Product) (L : List Term) → L ≡ terms m.ord m.p (times m.f m.g) → L ≡ script_list (ProductScript m 1 0)
unfolding script_list
one_sends m L e = let its = terms m.ord m.p (part m.f m.g 1 0) in e ∙ sym (all_listed m.ord m.p m.f m.g its its refl refl)

pub across-sent-requires-clause-fits : goal.across-sent-requires-clause-fits
across-sent-requires-clause-fits g c κs within =
    let s = script_in c.in-Ok-new.made.0 in
    let is : c.deref.result.now ≡ whole c.terms.result.now = search rules in
    subst (All (Fits (λ _ (a : ℤ). unsigned_abs a ≤ greatest_norm) s)) (sym is) (fits_whole (λ _ (a : ℤ). unsigned_abs a ≤ greatest_norm) s c.terms.result.now c.terms.ensures.belongs)

pub across-sent-requires-clause-carries : goal.across-sent-requires-clause-carries
across-sent-requires-clause-carries g c κs within =
    let f = c.args.f.now in
    let m : Product = record { ord = Grlex; p = f.modulus; n = 4; f = f.list; g = c.args.g.now.list } in
    let is : c.deref.result.now ≡ whole c.terms.result.now = search rules in
    let list = one_sends m _ (c.terms.ensures.view ∙ c.in-Ok-product.ensures.terms) in
    subst (Carries (λ (p : Packed 4). vector_of 4 p.word) (λ (a : ℤ). a) (script_in c.in-Ok-new.made.0)) (sym is) (subst (λ s. Carries (λ (p : Packed 4). vector_of 4 p.word) (λ (a : ℤ). a) s (whole c.terms.result.now)) (sym c.in-Ok-new.ensures.script)
    (carries_whole (λ (p : Packed 4). vector_of 4 p.word) (λ (a : ℤ). a) m 1 0 c.terms.result.now list))
