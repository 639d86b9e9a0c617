-- Whether a derivation turns to a proof is decided by a test, and so is what may be written for a book of derivations.
use Rattle.std.proofs.Common.{◌≡◌, ℕ, Bool, true, false, ◌&&◌, ◌||◌, not, List, [], ◌∷◌, ◌++◌, Option, Some, None, inl, inr, refl, sym, ap, ◌∙◌, codes, is_none}
use Rattle.std.proofs.lemmas.Bool.{true≢false, and_parts, or_cases}
use Rattle.mw_model.specs.Terms.Object.{Name, Object, Natural, Symbol, Pair, same_object, NIL}
use Rattle.mw_model.specs.Terms.Term.{Formula, ArityTable}
use Rattle.mw_model.specs.Terms.Same.{same_formula}
use Rattle.mw_model.specs.Values.Primitive.{Profile}
use Rattle.mw_model.specs.Values.Definition.{arity_table}
use Rattle.mw_model.specs.Proofs.Judgment.{judge}
use Rattle.mw_model.specs.Events.Theory.{Theory}
use Rattle.mw_model.specs.Events.Refusal.{Fate, Accepted, Refused}
use Rattle.mw_model.specs.Events.Fate.{EventWord, event_word, is_out_of_range}
use Rattle.mw_model.specs.Events.Demand.{proofs_of, with_proofs}
use Rattle.mw_model.specs.Texts.Printing.{text_of}
use Rattle.mw_model.specs.Reports.Report.{line}
use Rattle.mw_model.specs.Texts.Pieces.{InOrder}
use Rattle.mw_model.proofs.Names.{same_object-eq}
use Rattle.mw_model.proofs.SameTerms.{same_formula-eq}
use Rattle.mw_model.proofs.Judging.{judge_good, good_judge}
use Rattle.mw_commands.specs.Commands.Transition.{Transition}
use Rattle.mw_commands.specs.Commands.Derivation.{Turns}
use Rattle.mw_commands.specs.Commands.DerivationTest.{derive}
use Rattle.mw_commands.specs.Commands.Lowering.{EachTurns, IsLoweredBy, OwesByFate, OwesLowered}
use Rattle.mw_commands.proofs.Deriving.{derive_good}
use Rattle.mw_commands.proofs.WrittenData.{is_short, short_line}

abbrev pub are_same : Option Formula → Option Formula → Bool
are_same (Some F) (Some G) = same_formula F G
are_same _ _ = false

abbrev pub is_turned_to : Object → Object → ArityTable → Profile → Object → Object → Bool
is_turned_to ax th A P p q = are_same (derive ax th A P p) (judge ax th A P q) && ((is_none (judge ax th A P p) || same_object q p) && (not (is_out_of_range q) || is_out_of_range p))

same_both : (o r : Option Formula) → are_same o r ≡ true → (F : Formula) × (o ≡ Some F) × (r ≡ Some F)
same_both None r h = cc
same_both (Some F) None h = cc
same_both (Some F) (Some G) h = (F, refl, ap Some (sym (same_formula-eq F G h)))

in_range_too : (a b : Bool) → (not a || b) ≡ true → b ≡ false → a ≡ false
in_range_too true b h k = absurd (true≢false (sym h ∙ k))
in_range_too false b h k = refl

no_formula : (o : Option Formula) (F : Formula) → is_none o ≡ true → o ≡ Some F → ⊥
no_formula None F h k = cc
no_formula (Some G) F h k = cc

pub turned : (ax th : Object) (A : ArityTable) (P : Profile) (p q : Object) → is_turned_to ax th A P p q ≡ true → Turns ax th A P p q
turned ax th A P p q h =
    let a = and_parts (are_same (derive ax th A P p) (judge ax th A P q)) ((is_none (judge ax th A P p) || same_object q p) && (not (is_out_of_range q) || is_out_of_range p)) h in
    let b = and_parts (is_none (judge ax th A P p) || same_object q p) (not (is_out_of_range q) || is_out_of_range p) a.1 in
    let c = same_both (derive ax th A P p) (judge ax th A P q) a.0 in
    record {
      formula = c.0;
      derived = derive_good ax th A P p c.0 c.1;
      proved = judge_good ax th A P q c.0 c.2;
      stays = λ g. elim (or_cases (is_none (judge ax th A P p)) (same_object q p) b.0) as (λ o. q ≡ p) [ inl n ↦ absurd (no_formula (judge ax th A P p) c.0 n (good_judge ax th A P p c.0 g).1) | inr e ↦ same_object-eq q p e ];
      in_range = in_range_too (is_out_of_range q) (is_out_of_range p) b.1;
    }

abbrev pub each_turned_to : Theory → Object → Object → Bool
each_turned_to t (Pair p ps) (Pair q qs) = is_turned_to t.axioms t.theorems (arity_table t.definitions) t.definitions.profile p q && each_turned_to t ps qs
each_turned_to t (Pair p ps) _ = false
each_turned_to t x y = same_object y x

pub each_turned : (t : Theory) (ps qs : Object) → each_turned_to t ps qs ≡ true → EachTurns t ps qs
each_turned t (Pair p ps) (Pair q qs) h =
    let a = and_parts (is_turned_to t.axioms t.theorems (arity_table t.definitions) t.definitions.profile p q) (each_turned_to t ps qs) h in
    (q, qs, refl, turned t.axioms t.theorems (arity_table t.definitions) t.definitions.profile p q a.0, each_turned t ps qs a.1)
each_turned t (Pair p ps) (Natural n) h = cc
each_turned t (Pair p ps) (Symbol s) h = cc
each_turned t (Natural n) x h = same_object-eq x (Natural n) h
each_turned t (Symbol s) x h = same_object-eq x (Symbol s) h

-- an accepted event with these proofs
abbrev pub lowered_by : Option Name → Option EventWord → Object → Object → Object
lowered_by None (Some w) e qs = with_proofs w e qs
lowered_by _ _ e qs = e

abbrev pub is_lowered_by : Option Name → Option EventWord → Theory → Object → Object → Bool
is_lowered_by None (Some w) t e qs = each_turned_to t (proofs_of w e) qs
is_lowered_by _ _ t e qs = true

lowers_by : (f : Option Name) (w : Option EventWord) (t : Theory) (e qs : Object) → is_lowered_by f w t e qs ≡ true → IsLoweredBy f w t e (lowered_by f w e qs)
lowers_by None (Some w) t e qs h = (qs, each_turned t (proofs_of w e) qs h, refl)
lowers_by None None t e qs h = refl
lowers_by (Some f) w t e qs h = refl

abbrev pub lowered : Transition → Object → Object
lowered s qs = lowered_by s.before.checker (event_word s.event) s.event qs

-- the proofs for the accepted events, in order
abbrev pub first_or_nil : List Object → Object
first_or_nil [] = NIL
first_or_nil (x ∷ xs) = x

abbrev pub others : List Object → List Object
others [] = []
others (x ∷ xs) = xs

abbrev pub piece_by : Fate → Transition → Object → List ℕ
piece_by (Accepted value) s qs = text_of (lowered s qs) ++ 10 ∷ []
piece_by (Refused r) s qs = codes "; " ++ line s.number s.event (Refused r)

abbrev pub is_right_by : Fate → Transition → Object → Bool
is_right_by (Accepted value) s qs = is_lowered_by s.before.checker (event_word s.event) s.before s.event qs && is_short (lowered s qs)
is_right_by (Refused r) s qs = true

abbrev pub left_by : Fate → List Object → List Object
left_by (Accepted value) qss = others qss
left_by (Refused r) qss = qss

abbrev pub pieces : List Transition → List Object → List ℕ
pieces [] qss = []
pieces (s ∷ ss) qss = piece_by s.fate s (first_or_nil qss) ++ pieces ss (left_by s.fate qss)

abbrev pub are_right : List Transition → List Object → Bool
are_right [] qss = true
are_right (s ∷ ss) qss = is_right_by s.fate s (first_or_nil qss) && are_right ss (left_by s.fate qss)

right_by : (f : Fate) (s : Transition) (qs : Object) → is_right_by f s qs ≡ true → OwesByFate f s (piece_by f s qs)
right_by (Accepted value) s qs h =
    let a = and_parts (is_lowered_by s.before.checker (event_word s.event) s.before s.event qs) (is_short (lowered s qs)) h in
    (lowered s qs, lowers_by s.before.checker (event_word s.event) s.before s.event qs a.0, short_line (lowered s qs) a.1)
right_by (Refused r) s qs h = refl

pub right : (ss : List Transition) (qss : List Object) → are_right ss qss ≡ true → InOrder OwesLowered ss (pieces ss qss)
right [] qss h = refl
right (s ∷ ss) qss h =
    let a = and_parts (is_right_by s.fate s (first_or_nil qss)) (are_right ss (left_by s.fate qss)) h in
    (piece_by s.fate s (first_or_nil qss), pieces ss (left_by s.fate qss), refl, right_by s.fate s (first_or_nil qss) a.0, right ss (left_by s.fate qss) a.1)
