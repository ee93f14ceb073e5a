use Rattle.std.proofs.Common.{◌+◌, ◌-◌, length}
use Rattle.whole_laws.specs.Notes.{script_list}
use Rattle.mul_workers.proofs.BetweenSends.{GoesOn}
use Rattle.mul_workers.proofs.part.work.Given as goal

abbrev pub invariant-loop-sender : goal.invariant-loop-sender
invariant-loop-sender g l = GoesOn l.turnstile l.initial.pass l.pass l.initial.sender l.sender

abbrev pub decreases-loop-sender : goal.decreases-loop-sender
decreases-loop-sender g l = length (script_list l.sender.ring.script) + 1 - length l.sender.sent
