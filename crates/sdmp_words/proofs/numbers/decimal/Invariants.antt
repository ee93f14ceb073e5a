use Rattle.std.proofs.Common.{◌≡◌, ◌+◌, ◌*◌, ◌-◌, ◌<◌, ◌^◌, fold, take, true}
use Rattle.std.specs.List.{list_all}
use Rattle.sdmp_words.specs.Words.{is_digit}
use Rattle.sdmp_words.proofs.numbers.decimal.Given as goal

abbrev pub invariant-loop-byte : goal.invariant-loop-byte
invariant-loop-byte l = record {
  value : l.number ≡ fold (λ n byte. n * 10 + (byte - 48)) 0 (take l.byte-index l.text);
  digits : list_all is_digit (take l.byte-index l.text) ≡ true;
  small : l.number < 10 ^ l.byte-index;
}
