-- What a merge keeps of its division.
use Rattle.std.specs.Prelude.{◌≡◌, ◌↔◌, ℕ, ℤ, List, length, IsTrue}
use Rattle.sdmp_laws.specs.Poly.{norm}
use Rattle.sdmp_laws.specs.Division.{Division}
use Rattle.divide_core.specs.Dividing.{IsLeading}
use Rattle.divide_merge.specs.declared.divisor.Divisor.{Divisor}

pub record IsDivisor {M E : Type 0} (vector : M → List ℕ) (value : E → ℤ) (Belongs : E → Type 0) (lim : ℕ) (d : Division) (a : Divisor M E) : Type 0 where
  pub mode : a.mode ≡ d.mode
  pub leading : IsLeading vector value Belongs lim (record { modulus = d.p; list = d.g }) a.lead
  pub terms : a.terms ≡ length d.g
  pub integers : IsTrue a.norms.integers ↔ d.p ≡ 0
  pub dividend : a.norms.dividend ≡ norm d.f
  pub divisor : a.norms.divisor ≡ norm d.g
