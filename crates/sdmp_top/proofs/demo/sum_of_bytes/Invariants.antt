use Rattle.std.proofs.Common.{◌≡◌, ◌*◌, ◌≤◌, take, sum}
use Rattle.sdmp_top.proofs.demo.sum_of_bytes.Given as goal

abbrev pub invariant-loop-byte : goal.invariant-loop-byte
invariant-loop-byte l = record {
  summed : l.total ≡ sum (take l.byte-index l.bytes);
  small : l.total ≤ 255 * l.byte-index;
}
