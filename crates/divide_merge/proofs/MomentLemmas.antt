-- What the workers owe is what their rings hold and what they haven't sent, so all parts of a division add up.
use Rattle.std.proofs.Common.{◌≡◌, ℕ, ◌<◌, ℤ, List, ◌++◌, ◌+ℤ◌, neg_ℤ, sym, ap, ◌∙◌, arith}
use Rattle.std.proofs.lemmas.List.{map-append}
use Rattle.std.proofs.lemmas.Int.{ints}
use Rattle.sdmp_laws.specs.Ring.{red}
use Rattle.sdmp_laws.specs.Poly.{total, Same, minus, sum_over}
use Rattle.sdmp_laws.proofs.PolyLemmas.{total_append, total_minus, from_total, Same-trans}
use Rattle.whole_laws.specs.Notes.{Note, Script, terms_in, owed}
use Rattle.whole_laws.specs.Wholes.{head_terms, notes_of as notes_at}
use Rattle.divide_wholes.specs.Wholes.{DivideState, DivideWhole, divide_script, all_owed}
use Rattle.term_ring.specs.declared.note.NoteOf.{NoteOf}
use Rattle.term_ring.specs.Spelling.{note_of, notes_of}
use Rattle.term_ring.specs.Carried.{Carries}
use Rattle.term_ring.proofs.EachMoment.{at_each_moment}
use Rattle.global_heap.specs.Moments.{RingMoment}
use Rattle.global_heap.proofs.MomentLemmas.{sum_split, IsShared, owed_is}
use Rattle.divide_merge.specs.Merges.{DivideView, taken_of}
use Rattle.divide_merge.specs.Moments.{terms_out, terms_back, whole_of, IsDivideRing, DivisionAtEachMoment, DivisionWhileNobodyHolds}

-- what is owed, by its total
back_total : (s : DivideState) (inside sent : ℕ → List Note) (m : List ℕ) → ((w : ℕ) → w < s.workers → IsShared (divide_script s w) (notes_at s.taken w) (inside w) (sent w)) → total (terms_back s inside sent) m ≡ total (head_terms s.heads ++ all_owed s) m
unfolding all_owed
back_total s inside sent m each =
    let held = sum_over s.workers (λ w. terms_in (inside w)) in
    let unsent = sum_over s.workers (λ w. owed (divide_script s w) (sent w)) in
    let all = sum_over s.workers (λ w. owed (divide_script s w) (notes_at s.taken w)) in
    omega (
      arith,
      ints,
      total_append (head_terms s.heads) (held ++ unsent) m,
      total_append held unsent m,
      total_append (head_terms s.heads) all m,
      sum_split m (λ w. owed (divide_script s w) (notes_at s.taken w)) (λ w. terms_in (inside w)) (λ w. owed (divide_script s w) (sent w)) s.workers (λ w l. owed_is (divide_script s w) (notes_at s.taken w) (inside w) (sent w) (each w l)),
    )

parts_add_up : (s : DivideState) (inside sent : ℕ → List Note) → DivideWhole s → ((w : ℕ) → w < s.workers → IsShared (divide_script s w) (notes_at s.taken w) (inside w) (sent w)) → Same s.division.p (minus (terms_out s) (terms_back s inside sent)) (whole_of s)
parts_add_up s inside sent whole each =
    Same-trans s.division.p (minus (terms_out s) (terms_back s inside sent)) (minus (terms_out s) (head_terms s.heads ++ all_owed s)) (whole_of s)
    (from_total s.division.p (minus (terms_out s) (terms_back s inside sent)) (minus (terms_out s) (head_terms s.heads ++ all_owed s)) (λ m.
    ap (red s.division.p) (total_minus (terms_out s) (terms_back s inside sent) m
    ∙ ap (λ (n : ℤ). total (terms_out s) m +ℤ neg_ℤ n) (back_total s inside sent m each)
    ∙ sym (total_minus (terms_out s) (head_terms s.heads ++ all_owed s) m))))
    whole.sum

module _ {M E : Type 0} (words : NoteOf M E → List ℕ) (fits : Script → NoteOf M E → Type 0) (vector : M → List ℕ) (value : E → ℤ) (lim : ℕ) where
  shared : (v : DivideView) (w : ℕ) (r : RingMoment M E) → IsDivideRing words fits vector value v w r → IsShared (divide_script v.run.state w) (taken_of v w) (notes_of vector value r.inside) (notes_of vector value r.writer.notes)
  shared v w r h =
      let moment = at_each_moment words fits (Carries vector value) (divide_script v.run.state w) r.places r.state h.allowed h.writing.0 h.reading.0 r.writer r.reader h.writing.1 h.writing.2 h.reading.1 h.reading.2 in record {
        carried = moment.carried;
        sent_is = ap (notes_of vector value) h.sent ∙ map-append (note_of vector value) r.reader.notes r.inside ∙ ap (λ z. z ++ notes_of vector value r.inside) h.taken;
      }

  pub division_at_each_moment : DivisionAtEachMoment words fits vector value lim
  division_at_each_moment v sound rings each =
      parts_add_up v.run.state (λ w. notes_of vector value (rings w).inside) (λ w. notes_of vector value (rings w).writer.notes) sound.whole.whole
      (λ w l. shared v w (rings w) (each w l))

  pub division_while_nobody_holds : DivisionWhileNobodyHolds words fits vector value lim
  division_while_nobody_holds made s k free = let home = k.3 free in (home.0, home.1, (home.2, division_at_each_moment home.0 home.2.2))
