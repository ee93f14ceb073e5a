use Rattle.std.proofs.Common.{◌≡◌, ℕ, ◌<◌, ◌≤◌, All, length, slice_index_or, vec_len, vec_capacity}
use Rattle.turnstile.specs.Passes.{IsPassOf, IsOutside, HasPass, SameTeam}
use Rattle.turnstile.proofs.members.collect.Given as goal

abbrev pub invariant-loop-member : goal.invariant-loop-member
invariant-loop-member g l = record {
  count : vec_len l.passes ≡ l.member;
  room : length l.members ≤ vec_capacity l.passes;
  each : All (λ p. IsPassOf l.turnstile p × IsOutside p) l.passes.items;
  workers : SameTeam l.initial.members l.members;
  have : (k : ℕ) (d : _) → l.member ≤ k → k < length l.members → HasPass l.turnstile (slice_index_or l.members k d).pass;
}
