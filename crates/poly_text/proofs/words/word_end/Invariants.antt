use Rattle.std.proofs.Common.{◌≡◌, ◌≤◌, ◌<◌, ◌-◌, length, take, true}
use Rattle.std.specs.List.{list_all}
use Rattle.poly_text.proofs.WordLemmas.{is_solid}
use Rattle.poly_text.proofs.words.word_end.Given as goal

abbrev pub invariant-loop-end : goal.invariant-loop-end
invariant-loop-end l = record {
  solid : list_all is_solid (take l.end l.bytes) ≡ true;
  some : 0 < l.end;
  within : l.end ≤ length l.bytes;
}

abbrev pub decreases-loop-end : goal.decreases-loop-end
decreases-loop-end l = length l.bytes - l.end
