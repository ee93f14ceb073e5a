-- What the workers owe is what their rings hold and what they haven't sent, so all parts add up to the product.
use Rattle.std.proofs.Common.{◌≡◌, ℕ, zero, suc, ◌<◌, ℤ, List, ◌++◌, ◌+ℤ◌, sym, ap, ◌∙◌, subst, arith}
use Rattle.std.proofs.lemmas.List.{map-append}
use Rattle.std.proofs.lemmas.Int.{ints}
use Rattle.sdmp_laws.specs.Ring.{red}
use Rattle.sdmp_laws.specs.Poly.{Term, total, Same, times, sum_over}
use Rattle.sdmp_laws.proofs.PolyLemmas.{total_append, from_total, Same-refl, Same-trans, Same-append}
use Rattle.sdmp_laws.proofs.TermsLemmas.{total_nil}
use Rattle.whole_laws.specs.Notes.{Note, Script, terms_in, Carry, owed}
use Rattle.whole_laws.specs.Wholes.{MergeState, MergeWhole, head_terms, merge_script, notes_of as notes_at}
use Rattle.whole_laws.proofs.OwedLemmas.{owed_split}
use Rattle.term_ring.specs.declared.note.NoteOf.{NoteOf}
use Rattle.term_ring.specs.Spelling.{note_of, notes_of}
use Rattle.term_ring.specs.Carried.{Carries}
use Rattle.term_ring.proofs.EachMoment.{at_each_moment}
use Rattle.global_heap.specs.Merges.{MergeView, taken_of}
use Rattle.global_heap.specs.Moments.{all_parts, RingMoment, IsRingOf, ProductAtEachMoment, ProductWhileNobodyHolds}

-- a sum whose parts are split one by one
pub sum_split : (m : List ℕ) (F A B : ℕ → List Term) (k : ℕ) → ((w : ℕ) → w < k → F w ≡ A w ++ B w) → total (sum_over k A) m +ℤ total (sum_over k B) m ≡ total (sum_over k F) m
unfolding sum_over
sum_split m F A B zero h = omega (arith, ints, total_nil m)
sum_split m F A B (suc k) h =
    omega (
      arith,
      ints,
      total_append (sum_over k A) (A k) m,
      total_append (sum_over k B) (B k) m,
      total_append (sum_over k F) (F k) m,
      sum_split m F A B k (λ w l. h w (omega arith)),
      ap (λ L. total L m) (h k (omega arith)) ∙ total_append (A k) (B k) m,
    )

-- of a worker: what was sent may be sent, and is what was taken and what is inside
pub record IsShared (s : Script) (taken inside sent : List Note) : Type 0 where
  pub carried : Carry s sent
  pub sent_is : sent ≡ taken ++ inside

pub owed_is : (s : Script) (taken inside sent : List Note) → IsShared s taken inside sent → owed s taken ≡ terms_in inside ++ owed s sent
owed_is s taken inside sent h =
    subst (λ z. owed s taken ≡ terms_in inside ++ owed s z) (sym h.sent_is) (owed_split s taken inside (subst (Carry s) h.sent_is h.carried))

parts_add_up : (s : MergeState) (inside sent : ℕ → List Note) → MergeWhole s → ((w : ℕ) → w < s.workers → IsShared (merge_script s w) (notes_at s.taken w) (inside w) (sent w)) → Same s.product.p (all_parts s inside sent) (times s.product.f s.product.g)
parts_add_up s inside sent whole each =
    let p : ℕ = s.product.p in
    let product : List Term = times s.product.f s.product.g in
    let all : List Term = sum_over s.workers (λ w. owed (merge_script s w) (notes_at s.taken w)) in
    let held : List Term = sum_over s.workers (λ w. terms_in (inside w)) in
    let unsent : List Term = sum_over s.workers (λ w. owed (merge_script s w) (sent w)) in
    let split : Same p (held ++ unsent) all =
    from_total p (held ++ unsent) all (λ m.
    ap (red p) (total_append held unsent m ∙ sum_split m (λ w. owed (merge_script s w) (notes_at s.taken w)) (λ w. terms_in (inside w)) (λ w. owed (merge_script s w) (sent w)) s.workers (λ w l. owed_is (merge_script s w) (notes_at s.taken w) (inside w) (sent w) (each w l)))) in
    Same-trans p (s.out ++ (head_terms s.heads ++ (held ++ unsent))) (s.out ++ (head_terms s.heads ++ all)) product
    (Same-append p s.out s.out (head_terms s.heads ++ (held ++ unsent)) (head_terms s.heads ++ all) (Same-refl p s.out)
    (Same-append p (head_terms s.heads) (head_terms s.heads) (held ++ unsent) all (Same-refl p (head_terms s.heads)) split))
    whole.sum

module _ {M E : Type 0} (words : NoteOf M E → List ℕ) (fits : Script → NoteOf M E → Type 0) (vector : M → List ℕ) (value : E → ℤ) (lim : ℕ) where
  shared : (v : MergeView) (w : ℕ) (r : RingMoment M E) → IsRingOf words fits vector value v w r → IsShared (merge_script v.state w) (taken_of v w) (notes_of vector value r.inside) (notes_of vector value r.writer.notes)
  shared v w r h =
      let moment = at_each_moment words fits (Carries vector value) (merge_script v.state w) r.places r.state h.allowed h.writing.0 h.reading.0 r.writer r.reader h.writing.1 h.writing.2 h.reading.1 h.reading.2 in record {
        carried = moment.carried;
        sent_is = ap (notes_of vector value) h.sent ∙ map-append (note_of vector value) r.reader.notes r.inside ∙ ap (λ z. z ++ notes_of vector value r.inside) h.taken;
      }

  pub product_at_each_moment : ProductAtEachMoment words fits vector value lim
  product_at_each_moment v sound rings each =
      parts_add_up v.state (λ w. notes_of vector value (rings w).inside) (λ w. notes_of vector value (rings w).writer.notes) sound.whole
      (λ w l. shared v w (rings w) (each w l))

  pub product_while_nobody_holds : ProductWhileNobodyHolds words fits vector value lim
  product_while_nobody_holds made s k free = let home = k.3 free in (home.0, home.1, (home.2, product_at_each_moment home.0 home.2.2))
