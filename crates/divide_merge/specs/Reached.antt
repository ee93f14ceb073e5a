-- The name of a merge of a division, and how far it has come.
use Rattle.std.specs.Prelude.{◌≡◌, ◌⊎◌, ℕ, ◌<◌, true, false, List, [], Option}
use mathlib.Core.List.{IsPrefix}
use Rattle.std.proofs.Common.{inl, refl}
use Rattle.term_ring.specs.Names.{RingName}
use Rattle.divide_merge.specs.Names.{RowIdentity}
use Rattle.dividing_rounds.specs.Runs.{DivideRun}
use Rattle.dividing_rounds.specs.Rounds.{progress}
use Rattle.divide_merge.specs.Verdicts.{Verdict}
use Rattle.divide_merge.specs.Merges.{DivideView}

-- its rings in order, whose scripts say which division it is of, and its row
pub record DivideName : Type 0 where
  pub rings : List RingName
  pub row : RowIdentity

abbrev pub divide_name : DivideView → DivideName
divide_name v = record { rings = v.rings; row = v.row }

-- all that it holds and has done, what it answered where it is over, and for how many more terms there is room
pub record DivideReach : Type 0 where
  pub run : DivideRun
  pub answer : Option Verdict
  pub spare : ℕ

abbrev pub divide_reached : DivideView → DivideReach
divide_reached v = record { run = v.run; answer = v.answer; spare = v.spare }

-- b has the notes of a's row, and perhaps more; while the row has none, the front is still that of a
pub record RowGrows (a b : DivideRun) : Type 0 where
  pub notes : IsPrefix a.notes b.notes
  pub front : b.notes ≡ [] → b.state.front ≡ a.state.front

-- b is a; or a wasn't over, and b is, or has come farther, in the same row
abbrev pub Follows : DivideReach → DivideReach → Type 0
Follows a b = (b ≡ a) ⊎ ((a.run.over ≡ false) × ((b.run.over ≡ true) ⊎ (progress a.run < progress b.run)) × RowGrows a.run b.run)

pub Follows-itself : (a : DivideReach) → Follows a a
Follows-itself a = inl refl
