use Rattle.std.proofs.Common.{◌≡◌, ℕ, ◌<◌, slice_index_or}
use Rattle.turnstile.specs.Passes.{made_with, passes_out, HasPass, SameTeam}
use Rattle.turnstile.proofs.members.hand_out.Given as goal

abbrev pub invariant-loop-member : goal.invariant-loop-member
invariant-loop-member g l = record {
  made : made_with l.turnstile ≡ made_with l.initial.turnstile;
  out : passes_out l.turnstile ≡ l.member;
  workers : SameTeam l.initial.members l.members;
  have : (k : ℕ) (d : _) → k < l.member → HasPass l.turnstile (slice_index_or l.members k d).pass;
}
