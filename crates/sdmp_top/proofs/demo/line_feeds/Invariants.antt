use Rattle.std.proofs.Common.{◌≡◌, ◌==◌, ◌≤◌, take, count_by}
use Rattle.sdmp_top.proofs.demo.line_feeds.Given as goal

abbrev pub invariant-loop-byte : goal.invariant-loop-byte
invariant-loop-byte l = record {
  counted : l.count ≡ count_by (λ byte. byte == 10) (take l.byte-index l.bytes);
  small : l.count ≤ l.byte-index;
}
