-- Lemmas on the command.
use Rattle.std.proofs.Common.{Result, Err, IsErrOf, inl, inr, ◌≡◌, ℕ, List, [], true, ap, subst}
use Rattle.clap.specs.Words.{App, Kinds, fault_of, is_simple, is_simple_and_free, matches_of, IsAmong, HasKind, kind_of}
use Rattle.clap.specs.declared.error.Error.{Error}
use Rattle.clap.specs.declared.error.kind.ErrorKind.TheVariants.{OutOfMemory}
use Rattle.sdmp_words.specs.declared.fault.WordsFault.TheVariants.{BadWords, NoMemory}
use Rattle.sdmp_words.specs.declared.fault.WordsFault.{WordsFault}
use Rattle.clap.specs.declared.parser.matches.ArgMatches.{ArgMatches}
use Rattle.clap.specs.declared.error.kind.ErrorKind.{ErrorKind}
use Rattle.sdmp_words.specs.Command.{bare, sdmp, found_in, refused_for}

pub sdmp_simple : (a : App) → a ≡ sdmp → is_simple a ≡ true
unfolding sdmp bare
sdmp_simple a e = ap is_simple e

pub sdmp_free : (a : App) → a ≡ sdmp → is_simple_and_free a ≡ true
unfolding sdmp bare
sdmp_free a e = ap is_simple_and_free e

pub found_of_app : (a : App) (words : List (List ℕ)) → a ≡ sdmp → matches_of a words ≡ found_in words
unfolding found_in
found_of_app a words e = ap (λ (b : App). matches_of b words) e

pub refused_of_app : (a : App) (words : List (List ℕ)) → a ≡ sdmp → fault_of a words ≡ refused_for words
unfolding refused_for
refused_of_app a words e = ap (λ (b : App). fault_of b words) e

pub not_none : (kind : ErrorKind) (kinds : Kinds) → IsAmong kind kinds → kinds ≡ [] → ⊥
not_none kind kinds h e = subst (IsAmong kind) e h

pub only_memory : (kinds : Kinds) (error : Error) → HasKind kinds error → kinds ≡ [] → kind_of error ≡ OutOfMemory
only_memory kinds error h e =
    let at_none : HasKind [] error = subst (λ (k : Kinds). HasKind k error) e h in
    elim at_none [ inl memory ↦ memory | inr among ↦ absurd among ]

pub memory_no_words : (f : WordsFault) → f ≡ NoMemory → IsErrOf {T = ArgMatches} (Err f) BadWords → ⊥
memory_no_words f e h =
    let at_memory : ◌≡◌ {A = Result ArgMatches WordsFault} (Err NoMemory) (Err BadWords) = subst (λ (x : WordsFault). IsErrOf {T = ArgMatches} (Err x) BadWords) e h in
    cc
