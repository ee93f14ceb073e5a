use Rattle.std.proofs.Common.{◌∙◌, ◌+◌, ℕ, min, length, sym, ap}
use Rattle.std.proofs.lemmas.List.{length-map}
use Rattle.canonical_terms.specs.View.{term_of}
use Rattle.term_ring.specs.Names.{notes_count}
use Rattle.dividing_rounds.specs.Rounds.{progress}
use Rattle.divide_merge.specs.Merges.{DivideView}
use Rattle.divide_merge.specs.Inside.{taken_notes}
use Rattle.divide_merge.proofs.Reserving.{saturated}
use Rattle.divide_merge.proofs.merge.DivideMerge.progress.Goals as goal

pub returns : goal.returns
unfolding progress
returns g c =
    let h = c.self.inside in
    let most : ℕ = 18446744073709551615 in
    let notes : ℕ = notes_count (taken_notes g.M.Monomial.vector g.R.CoeffRing.value h.readers.items) in
    let k = c.self.invariant.counted in
    let q = c.len.ensures ∙ h.q.ok.0 in
    let l = length-map h.q.items (term_of g.M.Monomial.vector g.R.CoeffRing.value) in
    c.saturating_add-3.ensures
    ∙ ap (λ (x : ℕ). min (x + h.processed) most) (c.saturating_add-2.ensures ∙ ap (λ (x : ℕ). min (x + h.fronts) most) (c.saturating_add.ensures ∙ (λ i. min (k i + q i) most)))
    ∙ saturated notes (length h.q.items) h.fronts h.processed
    ∙ ap (λ (x : ℕ). min (notes + x + h.fronts + h.processed) most) (sym l)
    ∙ ap (λ (u : DivideView). min (progress u.run) most) c.self.view_is
