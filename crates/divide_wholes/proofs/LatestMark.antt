-- What the latest mark among the notes says of the terms sent.
use Rattle.std.proofs.Common.{◌≡◌, ◌≢◌, ℕ, true, List, [], ◌∷◌, ◌++◌, length, take, Option, None, pos, sym, ap, ◌∙◌, subst, append_assoc, append-nil}
use Rattle.sdmp_laws.specs.Poly.{Term, coef, times}
use Rattle.sdmp_laws.specs.Ring.{red}
use Rattle.sdmp_laws.proofs.Ints.{red_zero}
use Rattle.sdmp_laws.specs.Division.{Division}
use Rattle.sdmp_laws.specs.LongDivision.{quotient_list}
use Rattle.whole_laws.specs.Notes.{Note, TermNote, MarkNote, EndNote, QuotientScript, divisor_rows, terms_in, has, AboveTop, IsMark, MarkMayFollow, MayFollow, CarryAfter, Carry}
use Rattle.divide_wholes.specs.Wholes.{mark_after, latest_mark}
use Rattle.sdmp_laws.proofs.TermsLemmas.{total_nil}
use Rattle.whole_laws.proofs.NotesLemmas.{terms_in-append, terms_in-mark, terms_in-end, has-append_left}

-- all known products above the top are among the terms A
unfoldable pub IsSent : Division → ℕ → ℕ → ℕ × Option (List ℕ) → List Term → Type 0
IsSent d W w mark A = (m : List ℕ) → length m ≡ d.n → AboveTop d.ord mark.1 m → coef d.p (times (take mark.0 (quotient_list d)) (divisor_rows d.g W w)) m ≢ pos 0 → has m A ≡ true

sent_more : (d : Division) (W w : ℕ) (mark : ℕ × Option (List ℕ)) (A B : List Term) → IsSent d W w mark A → IsSent d W w mark (A ++ B)
unfolding IsSent
sent_more d W w mark A B h m l a c = has-append_left m A B (h m l a c)

sent_from_mark : (d : Division) (W w k : ℕ) (top : Option (List ℕ)) (before : List Note) → IsMark d W w k top before → IsSent d W w (k, top) (terms_in before)
unfolding IsSent
sent_from_mark d W w k top before i = i.sent

marks_sent : (d : Division) (W w : ℕ) (before notes : List Note) (mark : ℕ × Option (List ℕ)) → CarryAfter (QuotientScript d W w) before notes → IsSent d W w mark (terms_in before) → IsSent d W w (mark_after mark notes) (terms_in (before ++ notes))
unfolding CarryAfter MayFollow MarkMayFollow mark_after terms_in
marks_sent d W w before [] mark c h = subst (λ (b : List Note). IsSent d W w mark (terms_in b)) (sym (append-nil before)) h
marks_sent d W w before (TermNote t ∷ notes) mark c h =
    subst (λ (b : List Note). IsSent d W w (mark_after mark notes) (terms_in b)) (append_assoc before (TermNote t ∷ []) notes)
    (marks_sent d W w (before ++ TermNote t ∷ []) notes mark c.1
    (subst (λ (L : List Term). IsSent d W w mark L) (sym (terms_in-append before (TermNote t ∷ []))) (sent_more d W w mark (terms_in before) (t ∷ []) h)))
marks_sent d W w before (MarkNote k top ∷ notes) mark c h =
    subst (λ (b : List Note). IsSent d W w (mark_after (k, top) notes) (terms_in b)) (append_assoc before (MarkNote k top ∷ []) notes)
    (marks_sent d W w (before ++ MarkNote k top ∷ []) notes (k, top) c.1
    (subst (λ (L : List Term). IsSent d W w (k, top) L) (sym (terms_in-mark before k top)) (sent_from_mark d W w k top before c.0.1)))
marks_sent d W w before (EndNote ∷ notes) mark c h =
    subst (λ (b : List Note). IsSent d W w (mark_after mark notes) (terms_in b)) (append_assoc before (EndNote ∷ []) notes)
    (marks_sent d W w (before ++ EndNote ∷ []) notes mark c.1
    (subst (λ (L : List Term). IsSent d W w mark L) (sym (terms_in-end before)) h))

nothing_known : (d : Division) (W w : ℕ) → IsSent d W w (0, None) (terms_in [])
unfolding IsSent times coef
nothing_known d W w m l a c = absurd (c (ap (red d.p) (total_nil m) ∙ red_zero d.p))

pub latest_sent : (d : Division) (W w : ℕ) (notes : List Note) → Carry (QuotientScript d W w) notes → IsSent d W w (latest_mark notes) (terms_in notes)
unfolding latest_mark
latest_sent d W w notes c = marks_sent d W w [] notes (0, None) c (nothing_known d W w)
