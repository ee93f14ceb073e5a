use Rattle.std.proofs.Common.{rules, ◌≡◌, ◌≢◌, Err, ◌++◌, [], ℕ, List, map, string_bytes, ap, sym, ◌∙◌, append-nil}
use Rattle.poly_text.specs.Words.{words_of}
use Rattle.poly_text.specs.Names.{names_of, fault_behind}
use Rattle.poly_text.proofs.Results.{passed_up}
use Rattle.poly_text.proofs.NameLemmas.{refused_by, accepted, one_more}
use Rattle.poly_text.specs.declared.names.NamesFault.TheVariants.{NoMemory}
use Rattle.poly_text.proofs.names.Names.new.Goals as goal

pub returns-in_err-add_name-clause-refused : goal.returns-in_err-add_name-clause-refused
returns-in_err-add_name-clause-refused c =
    passed_up c.from_residual.result c.in_err-add_name.field-0.0 (λ fault. fault ≢ NoMemory → names_of (words_of c.args.words.now) ≡ Err fault) c.from_residual.ensures.1
    (λ other. refused_by (words_of c.args.words.now) (map string_bytes c.loop-word.names.items) (words_of c.loop-word.rest.now) (words_of c.in-Some.later.now) c.in-Some.word.now
    c.in_err-add_name.field-0.0 (search rules) (search rules) c.loop-word.invariant.fault c.in-Some.ensures.words (c.in_err-add_name.ensures.refused other))

pub loop-word-preserved : goal.loop-word-preserved
loop-word-preserved c =
    one_more (words_of c.args.words.now) (map string_bytes c.loop-word.names.items) (words_of c.loop-word.rest.now) (words_of c.in-Some.later.now)
    (map string_bytes c.add_name.new.names.items) c.in-Some.word.now c.loop-word.invariant c.in-Some.ensures.words c.in_ok-add_name.ensures.added.0 c.in_ok-add_name.ensures.added.1

pub returns-clause-names : goal.returns-clause-names
returns-clause-names c =
    let none : words_of c.loop-word.rest.now ≡ [] = search rules in
    let all : map string_bytes c.loop-word.names.items ≡ words_of c.args.words.now =
    sym (append-nil (map string_bytes c.loop-word.names.items)) ∙ ap (λ (ws : List (List ℕ)). map string_bytes c.loop-word.names.items ++ ws) (sym none) ∙ c.loop-word.invariant.cut in
    accepted (words_of c.args.words.now) (map string_bytes c.loop-word.names.items) (search rules) (search rules)
    (ap (fault_behind (map string_bytes c.loop-word.names.items)) (sym none) ∙ c.loop-word.invariant.fault) all
