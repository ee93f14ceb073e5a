use Rattle.std.proofs.Common.{◌≡◌, ◌≤◌, take, true}
use Rattle.std.specs.List.{list_all}
use Rattle.poly_text.specs.Names.{is_digit}
use Rattle.calc_session.specs.Header.{number_of}
use Rattle.calc_session.proofs.ring_line.parse_modulus.Given as goal

abbrev pub invariant-loop-byte : goal.invariant-loop-byte
invariant-loop-byte l = record {
  number : l.n ≡ number_of (take l.byte-index l.word);
  fits : l.n ≤ 18446744073709551615;
  digits : list_all is_digit (take l.byte-index l.word) ≡ true;
}
