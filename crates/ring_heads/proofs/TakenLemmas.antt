-- The heads of the rows that were taken from the heap, added up.
use Rattle.std.proofs.Common.{◌≡◌, ℕ, ◌<◌, ◌≤◌, ℤ, pos, ◌+ℤ◌, Bool, true, false, cond, List, [], ◌∷◌, length, get_or, set, map, All, unsigned_abs, refl, sym, ap, ◌∙◌, subst}
use Rattle.std.proofs.lemmas.List.Elements.{All-set}
use Rattle.std.specs.declared.cmp.Ordering.{Ordering}
use Rattle.std.specs.Ordering.{is_eq}
use Rattle.sdmp_laws.specs.Order.{alike}
use Rattle.sdmp_laws.specs.Ring.{red, IsReduced}
use Rattle.sdmp_laws.specs.Poly.{total, coef}
use Rattle.sdmp_laws.specs.Limits.{greatest_norm}
use Rattle.canonical_terms.specs.View.{term_of}
use Rattle.canonical_terms.specs.declared.term.TermOf.{TermOf}
use Rattle.chained_heap.specs.declared.node.Place.{Place}
use Rattle.chained_heap.specs.declared.node.Place.TheVariants.{Out, Taken}
use Rattle.chained_heap.specs.Shape.{place_at, is_taken}
use Rattle.sdmp_laws.proofs.TermsLemmas.{total_one}
use Rattle.ring_heads.specs.declared.head.HeadOf.{HeadOf}
use Rattle.ring_heads.specs.declared.head.HeadOf.TheVariants as head
use Rattle.ring_heads.specs.Heads.{live, size_at, missing_at, HeadBelongs}
use Rattle.ring_heads.specs.Places.{place_of, place_in}
use Rattle.ring_heads.proofs.HeadLemmas.{stands, taken_is_head, out_places, cleared_again, none_taken, total_less, size_less, cleared_total}
use Rattle.ring_heads.proofs.Summing.{Rest, OneMore, rest_begins, rest_fits, rest_step, rest_ends}

module _ {M E : Type 0} (cmp : M → M → Ordering) (vector : M → List ℕ) (value : E → ℤ) (belongs : E → Type 0) (p : ℕ) (x : M) where
  -- the taken rows are those of the heads at x that are left
  pub record Summing (all hs : List (HeadOf M E)) (places : List (Place M)) (c : E) : Type 0 where
    pub placed : places ≡ map (place_in cmp x) hs
    pub each : All (HeadBelongs belongs) hs
    pub cleared : map (missing_at cmp x) hs ≡ map (missing_at cmp x) all
    pub rest : Rest cmp vector value belongs p x all hs c

  pub sum_begins : (all : List (HeadOf M E)) (places : List (Place M)) (c : E) → places ≡ map (place_in cmp x) all → All (HeadBelongs belongs) all → belongs c → value c ≡ pos 0 → Summing all all places c
  sum_begins all places c e a b z = record { placed = e; each = a; cleared = refl; rest = rest_begins cmp vector value belongs p x all c b z }

  -- the head of a taken row
  pub taken_head : (all hs : List (HeadOf M E)) (places : List (Place M)) (c : E) (r : ℕ) → Summing all hs places c → place_at places r ≡ Taken → (r < length hs) × ((t : TermOf M E) × ((d : HeadOf M E) → get_or hs r d ≡ head.Term t) × (is_eq (cmp t.mono x) ≡ true))
  taken_head all hs places c r s e = taken_is_head cmp x hs r (ap (λ (ps : List (Place M)). place_at ps r) (sym s.placed) ∙ e)

  -- what was read of the list at a taken row
  pub read_head : (all hs : List (HeadOf M E)) (places : List (Place M)) (c : E) (r : ℕ) (y : HeadOf M E) (t : TermOf M E) → Summing all hs places c → place_at places r ≡ Taken → y ≡ get_or hs r y → y ≡ head.Term t → get_or hs r head.Missing ≡ head.Term t
  read_head all hs places c r y t s e at is = let k = taken_head all hs places c r s e in k.1.1 head.Missing ∙ sym (k.1.1 y) ∙ sym at ∙ is

  pub head_belongs : (all hs : List (HeadOf M E)) (places : List (Place M)) (c : E) (r : ℕ) (t : TermOf M E) → Summing all hs places c → place_at places r ≡ Taken → get_or hs r head.Missing ≡ head.Term t → belongs t.coef
  head_belongs all hs places c r t s e h = subst (HeadBelongs belongs) h (s.each r head.Missing (taken_head all hs places c r s e).0)

  -- it stands at x
  taken_at_x : (all hs : List (HeadOf M E)) (places : List (Place M)) (c : E) (r : ℕ) (t : TermOf M E) → Summing all hs places c → place_at places r ≡ Taken → get_or hs r head.Missing ≡ head.Term t → is_eq (cmp t.mono x) ≡ true
  taken_at_x all hs places c r t s e h =
      let taken = taken_head all hs places c r s e in
      let same : head.Term taken.1.0 ≡ head.Term t = sym (taken.1.1 head.Missing) ∙ h in
      sym (ap (stands cmp x) same) ∙ taken.1.2

  pub one_taken : (all hs : List (HeadOf M E)) (places : List (Place M)) (c : E) (r : ℕ) (t : TermOf M E) → Summing all hs places c → place_at places r ≡ Taken → get_or hs r head.Missing ≡ head.Term t
      → ((a b : M) → is_eq (cmp a b) ≡ alike (vector a) (vector b)) → OneMore cmp vector value belongs p x hs (set hs r head.Missing) t.coef
  one_taken all hs places c r t s e h law =
      let at : alike (vector t.mono) (vector x) ≡ true = sym (law t.mono x) ∙ taken_at_x all hs places c r t s e h in
      let one : total (term_of vector value t ∷ []) (vector x) ≡ value t.coef = total_one (term_of vector value t) (vector x) ∙ ap (λ (q : Bool). cond q (value t.coef) (pos 0)) at in
      record {
        total_is = total_less vector value hs r t (vector x) h ∙ ap (λ (n : ℤ). n +ℤ total (live vector value (set hs r head.Missing)) (vector x)) one;
        size_is = size_less vector value (vector x) hs r t h at;
      }

  -- the next partial sum fits
  pub sum_fits : (all hs : List (HeadOf M E)) (places : List (Place M)) (c : E) (r : ℕ) (t : TermOf M E) → Summing all hs places c → place_at places r ≡ Taken → get_or hs r head.Missing ≡ head.Term t
      → ((a b : M) → is_eq (cmp a b) ≡ alike (vector a) (vector b)) → (p ≡ 0 → size_at (vector x) (live vector value all) ≤ greatest_norm) → p ≡ 0 → unsigned_abs (value c +ℤ value t.coef) ≤ greatest_norm
  sum_fits all hs places c r t s e h law b = rest_fits cmp vector value belongs p x all hs (set hs r head.Missing) c t.coef s.rest (one_taken all hs places c r t s e h law) b

  pub sum_step : (all hs : List (HeadOf M E)) (places after : List (Place M)) (c d : E) (r : ℕ) (t : TermOf M E) → Summing all hs places c → place_at places r ≡ Taken → get_or hs r head.Missing ≡ head.Term t
      → ((a b : M) → is_eq (cmp a b) ≡ alike (vector a) (vector b)) → belongs d → value d ≡ red p (value c +ℤ value t.coef) → after ≡ set places r Out
      → Summing all (set hs r head.Missing) after d
  sum_step all hs places after c d r t s e h law b v moved = record {
    placed = moved ∙ ap (λ (ps : List (Place M)). set ps r Out) s.placed ∙ out_places cmp x hs r;
    each = All-set (HeadBelongs belongs) hs r head.Missing tt s.each;
    cleared = cleared_again cmp x hs r t h (taken_at_x all hs places c r t s e h) ∙ s.cleared;
    rest = rest_step cmp vector value belongs p x all hs (set hs r head.Missing) c d t.coef s.rest (one_taken all hs places c r t s e h law) b v;
  }

  -- no row is taken any more
  pub record Summed (all hs : List (HeadOf M E)) (places : List (Place M)) (c : E) : Type 0 where
    pub sum : value c ≡ coef p (live vector value all) (vector x)
    pub heads : hs ≡ map (missing_at cmp x) all
    pub heap : places ≡ map place_of hs

  pub sum_ends : (all hs : List (HeadOf M E)) (places : List (Place M)) (c : E) → Summing all hs places c → ((r : ℕ) → is_taken (place_at places r) ≡ false) → ((a b : M) → is_eq (cmp a b) ≡ alike (vector a) (vector b)) → IsReduced p (value c) → Summed all hs places c
  sum_ends all hs places c s n law reduced =
      let left = none_taken cmp x hs (λ r. ap (λ (ps : List (Place M)). is_taken (place_at ps r)) (sym s.placed) ∙ n r) in
      record {
        sum = rest_ends cmp vector value belongs p x all hs c s.rest (cleared_total vector value cmp x law hs left.0) reduced;
        heads = sym left.0 ∙ s.cleared;
        heap = s.placed ∙ left.1;
      }
