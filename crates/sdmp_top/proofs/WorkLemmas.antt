-- Lemmas on what a session makes, and on what has been counted of it.
use Rattle.std.proofs.Common.{◌≡◌, ◌+◌, ◌<◌, ◌≤◌, ℕ, Bool, true, false, cond, leb, min, List, [], ◌∷◌, ◌++◌, length, Option, Some, None, Result, Ok, Err, OnOk, refl, sym, ap, subst, ◌∙◌, arith, append-nil, append_assoc}
use Rattle.std.proofs.lemmas.List.Sums.{sum_by-append}
use Rattle.sdmp_laws.specs.Order as monomials
use Rattle.sdmp_laws.specs.Poly.{Term}
use Rattle.sdmp_laws.specs.Division.{Division}
use Rattle.sdmp_laws.specs.LongDivision.{quotient_list}
use Rattle.sdmp_laws.specs.declared.Mode.{Mode}
use Rattle.sdmp_laws.specs.declared.Mode.TheVariants.{Exact, Remainder}
use Rattle.division_laws.specs.Outcome.{division}
use Rattle.whole_laws.specs.Notes.{Product}
use Rattle.global_heap.specs.Names.{notes_total}
use Rattle.wide_monomial.specs.Packing.{limit_of}
use Rattle.calc_session.specs.Lines.{lines}
use Rattle.calc_session.specs.Header.{characteristic_of, monomial_order}
use Rattle.calc_session.specs.Body.{Form, Ask, form_of}
use Rattle.calc_session.specs.Heads.{Head, head_of}
use Rattle.calc_session.specs.Session.{Setting, Defined, setting_by, setting_in, setting_of, undefined, polynomials_of, division_in, answer_to}
use Rattle.calc_session.specs.View.{Body, IsSettingOf, held}
use Rattle.calc_session.specs.declared.commands.Command.{Command}
use Rattle.calc_session.specs.declared.commands.Command.TheVariants.{Mul, Div, Rem}
use Rattle.calc_session.specs.declared.fault.LineFault.{LineFault}
use Rattle.calc_session.specs.declared.header.HeaderFault.{HeaderFault}
use Rattle.calc_session.specs.declared.order.Order.{Order}
use Rattle.calc_session.specs.declared.ring.RingChoice.{RingChoice}
use Rattle.calc_session.proofs.EffectiveLemmas.{no_lines}
use Rattle.calc_session.specs.Demo.{demo_input}
use Rattle.sdmp_words.specs.declared.settings.Settings.{Settings}
use Rattle.sdmp_top.specs.Outside.{last_count}
use Rattle.sdmp_top.specs.Work.{Calculation, MakesProduct, MakesDivision, by_fewer_rows, calculations_of, calculations_asked, calculations_said, line_calculations, body_calculations, calculations_by, head_calculations, calculations, Work, work_of, total, IsRaised, IsTallied, IsTalliedUpTo, IsTalliedRun, input_of}

-- ---- counts
raised_none : (n : ℕ) → IsRaised 0 n n
raised_none n = λ room. omega arith

raised_min : (n before after : ℕ) → after ≡ min (before + n) last_count → IsRaised n before after
raised_min n before after e = λ room. omega (arith, e, room)

raised_more : (part : Work → ℕ) (W : ℕ) (xs ys : List Calculation) (a b c : ℕ) → IsRaised (total part W xs) a b → IsRaised (total part W ys) b c → IsRaised (total part W (xs ++ ys)) a c
raised_more part W xs ys a b c h k = λ room.
    let whole : total part W (xs ++ ys) ≡ total part W xs + total part W ys = sum_by-append (λ (x : Calculation). part (work_of W x)) xs ys in
    let first : b ≡ a + total part W xs = h (omega (arith, whole, room)) in
    let second : c ≡ b + total part W ys = k (omega (arith, whole, room, first)) in
    omega (arith, whole, first, second)

pub tallied_none : (W : ℕ) (a : Work) → IsTallied W [] a a
tallied_none W a = record { products = raised_none a.products; notes = raised_none a.notes; divisions = raised_none a.divisions; terms = raised_none a.terms }

tallied_more : (W : ℕ) (xs ys : List Calculation) (a b c : Work) → IsTallied W xs a b → IsTallied W ys b c → IsTallied W (xs ++ ys) a c
tallied_more W xs ys a b c h k = record {
  products = raised_more (λ w. w.products) W xs ys a.products b.products c.products h.products k.products;
  notes = raised_more (λ w. w.notes) W xs ys a.notes b.notes c.notes h.notes k.notes;
  divisions = raised_more (λ w. w.divisions) W xs ys a.divisions b.divisions c.divisions h.divisions k.divisions;
  terms = raised_more (λ w. w.terms) W xs ys a.terms b.terms c.terms h.terms k.terms;
}

raised_same : (before after : ℕ) → after ≡ before → IsRaised 0 before after
raised_same before after e = λ room. omega (arith, e)

-- the last receipt of a product was added
pub tallied_product : (W : ℕ) (m : Product) (notes : ℕ) (a b : Work) → notes ≡ notes_total m W
    → b.products ≡ min (a.products + 1) last_count → b.notes ≡ min (a.notes + notes) last_count → b.divisions ≡ a.divisions → b.terms ≡ a.terms
    → IsTallied W (MakesProduct m ∷ []) a b
tallied_product W m notes a b all products counted divisions terms = record {
  products = raised_min 1 a.products b.products products;
  notes = subst (λ (n : ℕ). IsRaised n a.notes b.notes) (let whole : notes ≡ 0 + notes_total m W = omega (arith, all) in whole) (raised_min notes a.notes b.notes counted);
  divisions = raised_same a.divisions b.divisions divisions;
  terms = raised_same a.terms b.terms terms;
}

-- that of a division was
pub tallied_division : (W : ℕ) (d : Division) (terms : ℕ) (a b : Work) → terms ≡ length (quotient_list d)
    → b.divisions ≡ min (a.divisions + 1) last_count → b.terms ≡ min (a.terms + terms) last_count → b.products ≡ a.products → b.notes ≡ a.notes
    → IsTallied W (MakesDivision d ∷ []) a b
tallied_division W d terms a b all divisions counted products notes = record {
  products = raised_same a.products b.products products;
  notes = raised_same a.notes b.notes notes;
  divisions = raised_min 1 a.divisions b.divisions divisions;
  terms = subst (λ (n : ℕ). IsRaised n a.terms b.terms) (let whole : terms ≡ 0 + length (quotient_list d) = omega (arith, all) in whole) (raised_min terms a.terms b.terms counted);
}

-- ---- line after line
pub up_to_none : (W : ℕ) (all : List Calculation) (a : Work) → IsTalliedUpTo W all all a a
up_to_none W all a = record { made = []; whole = refl; tallied = tallied_none W a }

pub up_to_more : (W : ℕ) (all later rest : List Calculation) (a b c : Work) → IsTalliedUpTo W all later a b → IsTalliedUpTo W later rest b c → IsTalliedUpTo W all rest a c
up_to_more W all later rest a b c h k = record {
  made = h.made ++ k.made;
  whole = h.whole ∙ ap (λ (xs : List Calculation). h.made ++ xs) k.whole ∙ sym (append_assoc h.made k.made rest);
  tallied = tallied_more W h.made k.made a b c h.tallied k.tallied;
}

pub up_to_end : (W : ℕ) (all rest : List Calculation) (a b : Work) → IsTalliedUpTo W all rest a b → rest ≡ [] → IsTallied W all a b
up_to_end W all rest a b h none =
    subst (λ (xs : List Calculation). IsTallied W xs a b) (sym (h.whole ∙ ap (λ (xs : List Calculation). h.made ++ xs) none ∙ append-nil h.made)) h.tallied

body_more : (setting : Setting) (old now : Defined) (line piece : List ℕ) → answer_to setting old line ≡ Ok (now, piece)
    → (later : List (List ℕ)) → body_calculations setting old (line ∷ later) ≡ line_calculations setting old line ++ body_calculations setting now later
unfolding body_calculations
body_more setting old now line piece e later =
    ap (λ (r : Result (Defined × List ℕ) LineFault). elim r [
      | Ok answer ↦ line_calculations setting old line ++ body_calculations setting answer.0 later
      | Err fault ↦ []
    ]) e

body_refused : (setting : Setting) (old : Defined) (line : List ℕ) (fault : LineFault) → answer_to setting old line ≡ Err fault
    → (later : List (List ℕ)) → body_calculations setting old (line ∷ later) ≡ []
unfolding body_calculations
body_refused setting old line fault e later =
    ap (λ (r : Result (Defined × List ℕ) LineFault). elim r [
      | Ok answer ↦ line_calculations setting old line ++ body_calculations setting answer.0 later
      | Err fault ↦ []
    ]) e

pub line_more : (W : ℕ) (old now : Body) (line piece : List ℕ) (a b : Work) → answer_to old.setting (held old.defined) line ≡ Ok (held now.defined, piece) → now.setting ≡ old.setting
    → IsTallied W (line_calculations old.setting (held old.defined) line) a b → (later : List (List ℕ)) → IsTalliedUpTo W (calculations_by old (line ∷ later)) (calculations_by now later) a b
line_more W old now line piece a b e same h later = record {
  made = line_calculations old.setting (held old.defined) line;
  whole = body_more old.setting (held old.defined) (held now.defined) line piece e later
      ∙ ap (λ (s : Setting). line_calculations old.setting (held old.defined) line ++ body_calculations s (held now.defined) later) (sym same);
  tallied = h;
}

pub line_refused : (W : ℕ) (old : Body) (line : List ℕ) (fault : LineFault) (a b : Work) → answer_to old.setting (held old.defined) line ≡ Err fault → b ≡ a
    → (later : List (List ℕ)) → IsTalliedUpTo W (calculations_by old (line ∷ later)) [] a b
line_refused W old line fault a b e same later = record {
  made = [];
  whole = body_refused old.setting (held old.defined) line fault e later;
  tallied = subst (IsTallied W [] a) (sym same) (tallied_none W a);
}

body_end : (setting : Setting) (defined : Defined) → body_calculations setting defined [] ≡ []
unfolding body_calculations
body_end setting defined = refl

pub no_more_made : (session : Body) (rest : List ℕ) → length rest ≡ 0 → calculations_by session (lines rest) ≡ []
no_more_made session rest none = ap (calculations_by session) (no_lines rest none) ∙ body_end session.setting (held session.defined)

-- ---- the header
pub made_after_head : (bytes : List ℕ) (head : Head) → head_of bytes ≡ Ok head → calculations bytes ≡ body_calculations (setting_of head) undefined head.body
unfolding calculations
made_after_head bytes head e = ap head_calculations e

pub none_made : (bytes : List ℕ) (fault : HeaderFault) → head_of bytes ≡ Err fault → calculations bytes ≡ []
unfolding calculations
none_made bytes fault e = ap head_calculations e

-- what the session that a header asks for makes
pub asked_of : (ring : RingChoice) (chosen : Order) (session : Body) (ord : monomials.Order) (names : List (List ℕ)) (lim p : ℕ) (lines : List (List ℕ))
    → session ≡ record { setting = setting_in ord names lim p; defined = [] }
    → ord ≡ monomial_order chosen → lim ≡ limit_of (length names) → p ≡ characteristic_of ring
    → calculations_by session lines ≡ body_calculations (setting_by names ring chosen) undefined lines
asked_of ring chosen session ord names lim p lines e o l m =
    ap (λ (s : Body). calculations_by s lines) e
    ∙ (λ i. body_calculations (setting_in (o i) names (l i) (m i)) undefined lines)

-- ---- commands
pub line_makes : (setting : Setting) (defined : Defined) (line : List ℕ) (form : Form) → form_of setting.variables line ≡ Ok form
    → line_calculations setting defined line ≡ calculations_said setting defined (Ok form)
unfolding line_calculations
line_makes setting defined line form e = ap (calculations_said setting defined) e

-- what a command makes of polynomials is what the line makes that asks it
pub tallied_by : {T : Type 0} (r : Result T LineFault) (W : ℕ) (setting : Setting) (defined : Defined) (line : List ℕ) (command : Command) (names : List (List ℕ)) (fs : List (List Term)) (before after : Work)
    → form_of setting.variables line ≡ Ok (Ask command names) → polynomials_of defined names ≡ Ok fs → OnOk r (IsTallied W (calculations_of setting command fs) before after)
    → OnOk r (IsTallied W (line_calculations setting defined line) before after)
tallied_by (Ok x) W setting defined line command names fs before after said known h =
    subst (λ (made : List Calculation). IsTallied W made before after)
    (sym (line_makes setting defined line (Ask command names) said ∙ ap (calculations_asked setting command) known)) h
tallied_by (Err fault) W setting defined line command names fs before after said known h = tt

module _ (ord : monomials.Order) (lim n : ℕ) (setting : Setting) (is : IsSettingOf ord lim n setting) (p : ℕ) (f g : List Term) (modulus : p ≡ setting.modulus) where
  pub mul_makes : MakesProduct (by_fewer_rows ord p n f g) ∷ [] ≡ calculations_of setting Mul (f ∷ g ∷ [])
  mul_makes = λ i. MakesProduct (by_fewer_rows (sym is.order i) (modulus i) (sym is.variables i) f g) ∷ []

  divides : (mode : Mode) → MakesDivision (division mode ord n p f g) ∷ [] ≡ MakesDivision (division_in setting mode f g) ∷ []
  divides mode = λ i. MakesDivision (division mode (sym is.order i) (sym is.variables i) (modulus i) f g) ∷ []

  pub div_makes : MakesDivision (division Exact ord n p f g) ∷ [] ≡ calculations_of setting Div (f ∷ g ∷ [])
  div_makes = divides Exact

  pub rem_makes : MakesDivision (division Remainder ord n p f g) ∷ [] ≡ calculations_of setting Rem (f ∷ g ∷ [])
  rem_makes = divides Remainder

-- what was made was counted, whatever comes after
pub made_of : {T : Type 0} (r : Result T LineFault) (W : ℕ) (setting : Setting) (command : Command) (fs both : List (List Term)) (made : List Calculation) (before after : Work)
    → IsTallied W made before after → made ≡ calculations_of setting command both → fs ≡ both → OnOk r (IsTallied W (calculations_of setting command fs) before after)
made_of (Ok x) W setting command fs both made before after h e is = subst (λ (l : List Calculation). IsTallied W l before after) (e ∙ sym (ap (calculations_of setting command) is)) h
made_of (Err fault) W setting command fs both made before after h e is = tt

-- ---- which factor gives the rows
module _ (ord : monomials.Order) (p q n : ℕ) (f g : List Term) where
  pub left_rows : length f ≤ length g → by_fewer_rows ord p n f g ≡ record { ord = ord; p = p; n = n; f = f; g = g }
  left_rows few = let e : leb (length f) (length g) ≡ true = search (arith, few) in ap (λ (b : Bool). cond b (let m : Product = record { ord = ord; p = p; n = n; f = f; g = g } in m) (let m : Product = record { ord = ord; p = p; n = n; f = g; g = f } in m)) e

  pub right_rows : length g < length f → p ≡ q → by_fewer_rows ord p n f g ≡ record { ord = ord; p = q; n = n; f = g; g = f }
  right_rows few same =
      let e : leb (length f) (length g) ≡ false = search (arith, few) in
      ap (λ (b : Bool). cond b (let m : Product = record { ord = ord; p = p; n = n; f = f; g = g } in m) (let m : Product = record { ord = ord; p = p; n = n; f = g; g = f } in m)) e
      ∙ (λ i. let m : Product = record { ord = ord; p = same i; n = n; f = g; g = f } in m)

-- ---- the demo
some_is : (a b : List ℕ) → Some a ≡ Some b → a ≡ b
some_is a b e = cc

pub demo_tallied : (told settings : Settings) (seed : ℕ) (left : Option (List ℕ)) (before after : Work) → told ≡ settings → told.demo ≡ Some seed
    → IsTallied told.workers (calculations (demo_input seed)) before after → IsTalliedRun settings left before after
demo_tallied told settings seed left before after same demo h = λ input e.
    let asked : settings.demo ≡ Some seed = ap (λ (s : Settings). s.demo) (sym same) ∙ demo in
    let is : demo_input seed ≡ input = some_is (demo_input seed) input (ap (λ (d : Option ℕ). input_of d left) (sym asked) ∙ e) in
    subst (λ (bytes : List ℕ). IsTallied settings.workers (calculations bytes) before after) is
    (subst (λ (s : Settings). IsTallied s.workers (calculations (demo_input seed)) before after) same h)
