-- Lemmas on names and what they stand for.
use Rattle.std.proofs.Common.{◌≡◌, ◌∷◌, [], ℕ, Bool, true, false, cond, List, map, Option, Some, None, Ok, Err, Ordering, Less, Equal, Greater, refl, sym, ap, ◌∙◌, arith}
use Rattle.std.specs.Cmp.Lexicographic.{slice_cmp, nat_list_eq_equiv}
use Rattle.std.specs.Global.{Vec}
use Rattle.std.specs.List.{All}
use Rattle.std.specs.Map.{lookup, values_of}
use Rattle.std.specs.BTreeMap.{insert_entry, is_at}
use Rattle.std.specs.Ordering.{is_eq, nat_cmp, match_ordering}
use Rattle.std.specs.Str.{bytes_eq}
use Rattle.std.specs.Option.{IfSome}
use Rattle.std.proofs.lemmas.List.Elements.{All-cons, All-head, All-tail}
use Rattle.std.proofs.lemmas.Map.Lookups.{exact_bytes}
use Rattle.std.proofs.lemmas.Map.Text.{is_eq-slice_cmp}
use Rattle.std.proofs.lemmas.Map.Views.{All-values-insert_entry, IfSome-lookup_from_All}
use Rattle.std.proofs.lemmas.Slice.Eq.{bytes_eq-Decides}
use Rattle.sdmp_laws.specs.Poly.{Term}
use Rattle.sdmp_laws.specs.Canonical.{Polynomial}
use Rattle.calc_session.specs.Definitions.{Definition, definitions_of}
use Rattle.calc_session.specs.Session.{define, known}
use Rattle.calc_session.specs.View.{held, plain}
use Rattle.calc_session.specs.declared.fault.LineFault.TheVariants.{UnknownName}

same : (a b : List ℕ) → bytes_eq a b ≡ true → a ≡ b
same a b e = (bytes_eq-Decides a b).0 e

equal : (a b : List ℕ) → a ≡ b → bytes_eq a b ≡ true
equal a b e = (bytes_eq-Decides a b).1 e

-- two names that differ are told apart in any order
swap_where : {X : Type 0} (a n o : List ℕ) (x p y : X) (s t : Bool) → bytes_eq a n ≡ false → bytes_eq a o ≡ s → bytes_eq n o ≡ t
    → cond s x (cond t p y) ≡ cond t p (cond s x y)
swap_where a n o x p y true true apart es et =
    let wrong : true ≡ false = sym (equal a n (same a o es ∙ sym (same n o et))) ∙ apart in absurd cc
swap_where a n o x p y true false apart es et = refl
swap_where a n o x p y false t apart es et = refl

swap : {X : Type 0} (a n o : List ℕ) (x p y : X) → bytes_eq a n ≡ false
    → cond (bytes_eq a o) x (cond (bytes_eq n o) p y) ≡ cond (bytes_eq n o) p (cond (bytes_eq a o) x y)
swap a n o x p y apart = swap_where a n o x p y (bytes_eq a o) (bytes_eq n o) apart refl refl

twice : {X : Type 0} (b : Bool) (p x y : X) → cond b p y ≡ cond b p (cond b x y)
twice true p x y = refl
twice false p x y = refl

-- ---- a name in the map
abbrev pub name_cmp : Vec ℕ → Vec ℕ → Ordering
name_cmp a b = slice_cmp nat_cmp a.items b.items

abbrev pub is_name_at : List ℕ → Vec ℕ → Bool
is_name_at name = is_at (λ (k : Vec ℕ). slice_cmp nat_cmp name k.items)

finds : (name : List ℕ) (k : Vec ℕ) → bytes_eq k.items name ≡ is_name_at name k
finds name k = nat_list_eq_equiv.symm k.items name ∙ sym (is_eq-slice_cmp name k.items)

abbrev list_in : Option Polynomial → Option (List Term)
list_in None = None
list_in (Some p) = Some p.list

choose : (b : Bool) (p : Polynomial) (o : Option Polynomial) → cond b (Some p.list) (list_in o) ≡ list_in (cond b (Some p) o)
choose true p o = refl
choose false p o = refl

held_is : (es : List (Vec ℕ × Polynomial)) (name : List ℕ) → held (map plain (definitions_of es)) name ≡ list_in (lookup (is_name_at name) es)
held_is [] name = refl
held_is (e ∷ es) name =
    ap (λ (o : Option (List Term)). cond (bytes_eq e.0.items name) (Some e.1.list) o) (held_is es name)
    ∙ choose (bytes_eq e.0.items name) e.1 (lookup (is_name_at name) es)
    ∙ ap (λ (b : Bool). list_in (cond b (Some e.1) (lookup (is_name_at name) es))) (finds name e.0)

pub known_found : (es : List (Vec ℕ × Polynomial)) (name : List ℕ) (p : Polynomial) → lookup (is_name_at name) es ≡ Some p
    → known (held (map plain (definitions_of es)) name) ≡ Ok p.list
known_found es name p e = ap known (held_is es name ∙ ap list_in e)

pub known_none : (es : List (Vec ℕ × Polynomial)) (name : List ℕ) → lookup (is_name_at name) es ≡ None
    → known (held (map plain (definitions_of es)) name) ≡ Err UnknownName
known_none es name e = ap known (held_is es name ∙ ap list_in e)

-- ---- a name that is defined
inserted_where : (e : Vec ℕ × Polynomial) (es : List (Vec ℕ × Polynomial)) (k : Vec ℕ) (v : Polynomial) (other : List ℕ) (o : Ordering) → name_cmp k e.0 ≡ o
    → held (map plain (definitions_of (insert_entry name_cmp es k v))) other ≡ define k.items v.list (held (map plain (definitions_of es))) other
    → held (map plain (definitions_of (match_ordering o ((k, v) ∷ e ∷ es) ((e.0, v) ∷ es) (e ∷ insert_entry name_cmp es k v)))) other
    ≡ define k.items v.list (held (map plain (definitions_of (e ∷ es)))) other
inserted_where e es k v other Less compared rest = refl
inserted_where e es k v other Equal compared rest =
    let same : k.items ≡ e.0.items = exact_bytes k.items e.0.items compared in
    ap (λ (n : List ℕ). cond (bytes_eq n other) (Some v.list) (held (map plain (definitions_of es)) other)) (sym same)
    ∙ twice (bytes_eq k.items other) (Some v.list) (Some e.1.list) (held (map plain (definitions_of es)) other)
    ∙ ap (λ (n : List ℕ). cond (bytes_eq k.items other) (Some v.list) (cond (bytes_eq n other) (Some e.1.list) (held (map plain (definitions_of es)) other))) same
inserted_where e es k v other Greater compared rest =
    let apart : bytes_eq e.0.items k.items ≡ false = finds k.items e.0 ∙ ap is_eq compared in
    ap (λ (o : Option (List Term)). cond (bytes_eq e.0.items other) (Some e.1.list) o) rest
    ∙ swap e.0.items k.items other (Some e.1.list) (Some v.list) (held (map plain (definitions_of es)) other) apart

inserted : (es : List (Vec ℕ × Polynomial)) (k : Vec ℕ) (v : Polynomial) (other : List ℕ)
    → held (map plain (definitions_of (insert_entry name_cmp es k v))) other ≡ define k.items v.list (held (map plain (definitions_of es))) other
inserted [] k v other = refl
inserted (e ∷ es) k v other = inserted_where e es k v other (name_cmp k e.0) refl (inserted es k v other)

pub defines : (es : List (Vec ℕ × Polynomial)) (k : Vec ℕ) (v : Polynomial)
    → held (map plain (definitions_of (insert_entry name_cmp es k v))) ≡ define k.items v.list (held (map plain (definitions_of es)))
defines es k v = λ i other. inserted es k v other i

-- ---- what holds of each polynomial
module _ (Q : Polynomial → Type 0) where
  to_values : (es : List (Vec ℕ × Polynomial)) → All (λ d. Q d.poly) (definitions_of es) → All Q (values_of es)
  to_values [] h = λ k d below. absurd (omega (arith, below))
  to_values (e ∷ es) h =
      All-cons Q e.1 (values_of es) (All-head (λ (d : Definition). Q d.poly) (record { name = e.0.items; poly = e.1 }) (definitions_of es) h)
      (to_values es (All-tail (λ (d : Definition). Q d.poly) (record { name = e.0.items; poly = e.1 }) (definitions_of es) h))

  from_values : (es : List (Vec ℕ × Polynomial)) → All Q (values_of es) → All (λ d. Q d.poly) (definitions_of es)
  from_values [] h = λ k d below. absurd (omega (arith, below))
  from_values (e ∷ es) h =
      All-cons (λ (d : Definition). Q d.poly) (record { name = e.0.items; poly = e.1 }) (definitions_of es) (All-head Q e.1 (values_of es) h)
      (from_values es (All-tail Q e.1 (values_of es) h))

  pub all_inserted : (es : List (Vec ℕ × Polynomial)) (k : Vec ℕ) (v : Polynomial) → Q v → All (λ d. Q d.poly) (definitions_of es)
      → All (λ d. Q d.poly) (definitions_of (insert_entry name_cmp es k v))
  all_inserted es k v here h = from_values (insert_entry name_cmp es k v) (All-values-insert_entry name_cmp k v Q es (to_values es h) here)

  pub all_found : (es : List (Vec ℕ × Polynomial)) (name : List ℕ) → All (λ d. Q d.poly) (definitions_of es) → IfSome (lookup (is_name_at name) es) Q
  all_found es name h = IfSome-lookup_from_All Q (is_name_at name) es (to_values es h)
