use Rattle.std.proofs.Common.{◌≡◌, length, map, All}
use Rattle.poly_text.specs.Words.{words_of}
use Rattle.calc_session.specs.View.{held}
use Rattle.calc_session.proofs.Operands.{IsFound}
use Rattle.calc_session.proofs.session.BodySession.polynomials.Given as goal

abbrev pub invariant-loop-name : goal.invariant-loop-name
invariant-loop-name g l = record {
  found : IsFound (held l.self.defined) (words_of l.names) (map (λ f. f.now.list) l.found.items) (words_of l.rest);
  modulus : All (λ f. f.now.modulus ≡ l.self.setting.modulus) l.found.items;
}

abbrev pub decreases-loop-name : goal.decreases-loop-name
decreases-loop-name g l = length l.rest
