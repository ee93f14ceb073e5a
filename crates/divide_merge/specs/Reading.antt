-- What a merge of a division reads next.
use Rattle.std.specs.Prelude.{◌≡◌, ◌⊎◌, ℕ, true, false, List, ◌∷◌, Option, Some, None}
use Rattle.sdmp_laws.specs.Order.{Order, Below}
use Rattle.sdmp_laws.specs.Poly.{Term, AllBelow}
use Rattle.sdmp_laws.specs.Division.{AtOrAbove}
use Rattle.whole_laws.specs.Wholes.{head_terms}
use Rattle.divide_wholes.specs.Wholes.{DivideState}
use Rattle.dividing_rounds.specs.Stalls.{IsGreatestRead}
use Rattle.ring_heads.specs.Heads.{IsTopOf}
use Rattle.divide_merge.specs.declared.mark.Next.{Next}

-- the list begins with a term at m
abbrev pub BeginsAt : List ℕ → List Term → Type 0
BeginsAt m L = (t : Term) × (rest : List Term) × (L ≡ t ∷ rest) × (t.monomial ≡ m)

-- it is the greatest monomial that was read, and says where it stands
pub record IsReadNext {M : Type 0} (vector : M → List ℕ) (s : DivideState) (x : Next M) : Type 0 where
  pub greatest : IsGreatestRead s (Some (vector x.mono))
  pub unread : x.unread ≡ true → BeginsAt (vector x.mono) s.unread
  pub no_unread : x.unread ≡ false → AllBelow s.division.ord (vector x.mono) s.unread
  pub headed : x.headed ≡ true → IsTopOf s.division.ord s.heads (vector x.mono)
  pub no_head : x.headed ≡ false → AllBelow s.division.ord (vector x.mono) (head_terms s.heads)

-- the greater of the two, and what there is where one is missing
unfoldable pub IsGreatest : Order → Option (List ℕ) → Option (List ℕ) → Option (List ℕ) → Type 0
IsGreatest ord None b c = c ≡ b
IsGreatest ord (Some x) None c = c ≡ Some x
IsGreatest ord (Some x) (Some y) c = ((c ≡ Some x) × AtOrAbove ord y x) ⊎ ((c ≡ Some y) × AtOrAbove ord x y)

-- the top of a mark is below what is read next; where that is nothing, there is none
unfoldable pub IsLowTop : Order → Option (List ℕ) → Option (List ℕ) → Type 0
IsLowTop ord next None = Unit {0}
IsLowTop ord None (Some top) = ⊥
IsLowTop ord (Some x) (Some top) = Below ord top x

-- of the two that are there, an unread monomial and the greatest head, the greater one is read next
pub record IsGreater {M : Type 0} (vector : M → List ℕ) (ord : Order) (unread top : M) (x : Next M) : Type 0 where
  pub unread_at : x.unread ≡ true → vector x.mono ≡ vector unread
  pub unread_below : x.unread ≡ false → Below ord (vector unread) (vector x.mono)
  pub head_at : x.headed ≡ true → vector x.mono ≡ vector top
  pub head_below : x.headed ≡ false → Below ord (vector top) (vector x.mono)
  pub some : (x.unread ≡ true) ⊎ (x.headed ≡ true)

abbrev pub next_mono : {M : Type 0} → Option (Next M) → Option M
next_mono None = None
next_mono (Some x) = Some x.mono
