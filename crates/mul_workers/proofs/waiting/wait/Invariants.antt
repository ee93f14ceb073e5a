use Rattle.std.proofs.Common.{◌≡◌, map}
use Rattle.whole_laws.specs.Notes.{NoEnd, Carry}
use Rattle.term_ring.specs.Names.{ring_name}
use Rattle.term_ring.specs.Sending.{IsRefused}
use Rattle.mul_workers.specs.Workers.{IsReceipt}
use Rattle.mul_workers.proofs.BetweenSends.{GoesOn}
use Rattle.mul_workers.proofs.waiting.wait.Given as goal

abbrev pub invariant-loop-turn : goal.invariant-loop-turn
invariant-loop-turn g l = record {
  goes_on : GoesOn l.turnstile l.initial.pass l.pass l.initial.sender l.sender;
  same : l.sender.sent ≡ l.initial.sender.sent;
  carried : Carry l.sender.ring.script l.sender.sent;
  clear : NoEnd l.sender.sent;
  refused : IsRefused l.sender;
  receipt : IsReceipt (map ring_name l.rings) l.turn l.initial.pass l.pass l.receipt;
}
