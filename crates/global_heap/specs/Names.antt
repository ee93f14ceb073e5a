-- Which ring a merge reads, and which product it makes.
use Rattle.std.specs.Prelude.{◌≡◌, ℕ, zero, suc, ◌+◌, ◌<◌, ◌^◌, List, [], ◌∷◌, length, slice_index_or}
use Rattle.sdmp_laws.specs.Order.{Grlex}
use Rattle.sdmp_laws.specs.Limits.{HasRoom}
use Rattle.sdmp_laws.specs.Canonical.{IsCanonical}
use Rattle.whole_laws.specs.Notes.{Product, Script, ProductScript, QuotientScript, script_list}
use Rattle.term_ring.specs.Names.{RingName}

-- the product that a script is of
abbrev pub script_product : Script → Product
script_product (ProductScript m W w) = m
script_product (QuotientScript d W w) = record { ord = d.ord; p = d.p; n = d.n; f = d.f; g = d.g }

-- the product of the first ring
abbrev pub first_product : List RingName → Product
first_product [] = record { ord = Grlex; p = 0; n = 0; f = []; g = [] }
first_product (a ∷ rings) = script_product a.script

-- the rings are those of all the workers of the product, in order
abbrev pub HasScripts : Product → List RingName → Type 0
HasScripts m rings = (w : ℕ) (d : RingName) → w < length rings → (slice_index_or rings w d).script ≡ ProductScript m (length rings) w

-- the operands are polynomials of fewer than 2^30 terms each, and their product has room
pub record IsFit (lim : ℕ) (m : Product) : Type 0 where
  pub left : IsCanonical m.ord m.p m.n lim m.f
  pub right : IsCanonical m.ord m.p m.n lim m.g
  pub room : HasRoom lim m.p m.f m.g
  pub few_left : length m.f < 2 ^ 30
  pub few_right : length m.g < 2 ^ 30

-- how many notes the workers from w on send, of whom there are k: the terms of their lists and an end each
unfoldable pub notes_from : Product → ℕ → ℕ → ℕ → ℕ
notes_from m W w zero = 0
notes_from m W w (suc k) = length (script_list (ProductScript m W w)) + 1 + notes_from m W (suc w) k

-- how many notes all workers send
unfoldable pub notes_total : Product → ℕ → ℕ
notes_total m W = notes_from m W 0 W
