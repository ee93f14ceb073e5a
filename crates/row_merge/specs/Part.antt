-- What is left of the part of a worker.
use Rattle.std.specs.Prelude.{◌≡◌, ℕ, ◌-◌, ◌^◌, ◌<◌, Bool, List, length}
use Rattle.std.specs.Int.{div_ceil}
use Rattle.sdmp_laws.specs.Order.{Order}
use Rattle.sdmp_laws.specs.Poly.{Term}
use Rattle.sdmp_laws.specs.Limits.{HasRoom}
use Rattle.chained_heap.specs.declared.node.Place.{Place}
use Rattle.row_merge.specs.Rows.{strided, IsFalling, IsRows}

-- the factors, the worker, the terms that were not handed out, and how many products were made and how many have come into the heap
pub record Remaining : Type 0 where
  pub modulus : ℕ
  pub f : List Term
  pub g : List Term
  pub workers : ℕ
  pub worker : ℕ
  pub rest : List Term
  pub made : ℕ
  pub entered : ℕ

-- how many of len places are w modulo W
abbrev pub row_count : ℕ → ℕ → ℕ → ℕ
row_count len W w = div_ceil (len - w) W

-- the rows A are those of worker w of W
pub record IsPart {M : Type 0} (vector : M → List ℕ) (ord : Order) (n lim p q : ℕ) (f g : List Term) (W w : ℕ) (A : List Term) (reads : List ℕ) (places : List (Place M)) (begun : Bool) : Type 0 where
  pub modulus : p ≡ q
  pub worker : w < W
  pub room : HasRoom lim p f g
  pub few : length reads < 2 ^ 32
  pub count : length reads ≡ row_count (length f) W w
  pub terms : A ≡ strided f w W (length reads)
  pub falls : IsFalling ord n lim A
  pub rows : IsRows vector ord A g reads places begun
