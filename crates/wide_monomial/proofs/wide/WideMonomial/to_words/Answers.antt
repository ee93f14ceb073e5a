use Rattle.std.proofs.Common.{sym, ap, ◌∙◌}
use Rattle.wide_monomial.specs.Packing.{bits_of, limit_of, halves}
use Rattle.packed_monomial.specs.Cuts.{word_is}
use Rattle.wide_monomial.proofs.wide.WideMonomial.to_words.Goals as goal

pub returns-clause-word : goal.returns-clause-word
returns-clause-word g c = c.split.ensures ∙ ap halves (sym (word_is (bits_of g.row.N) (limit_of g.row.N) g.row.N c.args.self.word c.args.self.packed))
