-- Proofs that are judged one after another, by the objects of their formulas.
use Rattle.std.proofs.Common.{◌≡◌, ℕ, zero, suc, ◌<◌, true, false, cond, Option, Some, None, List, [], ◌∷◌, length, option_map, refl, sym, ap, ap₂, ◌∙◌, arith, one-add, is_some, true≢false}
use Rattle.mw_model.specs.Terms.Object.{Object, Natural, Symbol, Pair, NIL, same_object, car, cdr, has_members}
use Rattle.mw_model.specs.Terms.Term.{Formula, formula_object}
use Rattle.mw_model.specs.Values.Primitive.{is_pair}
use Rattle.mw_model.specs.Laws.RulesInduction.{formulas_object, length_object}
use Rattle.mw_model.specs.Events.Theory.{Theory}
use Rattle.mw_model.specs.Events.Refusal.{Refusal, COUNT}
use Rattle.std.specs.Option.{option_or}
use Rattle.mw_heap.specs.declared.vocabulary.refusal.Refusal.{Refusal as Reason}
use Rattle.mw_heap.specs.Variants.{refusal_of}
use Rattle.mw_heap.specs.Objects.{object_at, IsIn, Grows}
use Rattle.mw_heap.proofs.Objects.{object_at-Grows, Grows-trans}
use Rattle.mw_term.specs.Marking.{ObjectMark, AreMarks}
use Rattle.mw_theory.specs.declared.theory.Theory.{Theory as Kept}
use Rattle.mw_theory.specs.Knowledge.{parts_of, meant, IsHeld}
use Rattle.mw_theory.specs.Proofs.{Judge, judged_each, judged_all}
use Rattle.mw_theory.proofs.Held.{meant-grows}

-- proof by proof, for a list of objects of formulas
abbrev pub judged_each_for : Judge → Theory → Object → Object → Option Refusal
judged_each_for J t (Pair f fs) ps = option_or (J t f (car ps)) (judged_each_for J t fs (cdr ps))
judged_each_for J t (Natural n) ps = None
judged_each_for J t (Symbol s) ps = None

pub judged_each-for : (J : Judge) (t : Theory) (Fs : List Formula) (ps : Object) → judged_each_for J t (formulas_object Fs) ps ≡ judged_each J t Fs ps
judged_each-for J t [] ps = refl
judged_each-for J t (F ∷ Fs) ps = ap (option_or (J t (formula_object F) (car ps))) (judged_each-for J t Fs (cdr ps))

pub judged_none_for : (J : Judge) (t : Theory) (fs ps : Object) → is_pair fs ≡ false → judged_each_for J t fs ps ≡ None
judged_none_for J t (Natural n) ps h = refl
judged_none_for J t (Symbol s) ps h = refl
judged_none_for J t (Pair f fs) ps h = cc

-- as many members as another list has pairs
pub length_formulas : (Fs : List Formula) → length_object (formulas_object Fs) ≡ length Fs
length_formulas [] = refl
length_formulas (F ∷ Fs) = omega (arith, length_formulas Fs)

pub no_members : (x : Object) → is_pair x ≡ false → length_object x ≡ 0
no_members (Natural n) h = refl
no_members (Symbol s) h = refl
no_members (Pair a b) h = cc

-- fewer pairs are not as many members
pub fewer : (n : ℕ) (x : Object) → length_object x < n → has_members n x ≡ false
fewer zero x h = absurd (omega (arith, h))
fewer (suc n) (Natural m) h = refl
fewer (suc n) (Symbol s) h = refl
fewer (suc n) (Pair a b) h = fewer n b (omega (arith, h))

pub as_many-next : (x y a b c d : Object) → x ≡ Pair a b → y ≡ Pair c d → has_members (length_object x) y ≡ has_members (length_object b) d
as_many-next x y a b c d e f = ap₂ (λ u v. has_members (length_object u) v) e f ∙ ap (λ n. has_members n (Pair c d)) (one-add (length_object b))

pub too_few : (x y a b : Object) → x ≡ Pair a b → is_pair y ≡ false → has_members (length_object x) y ≡ false
too_few x (Natural n) a b e h = ap (λ u. has_members (length_object u) (Natural n)) e ∙ ap (λ k. has_members k (Natural n)) (one-add (length_object b))
too_few x (Symbol s) a b e h = ap (λ u. has_members (length_object u) (Symbol s)) e ∙ ap (λ n. has_members n (Symbol s)) (one-add (length_object b))
too_few x (Pair c d) a b e h = cc

pub no_more : (x y : Object) → is_pair x ≡ false → has_members (length_object x) y ≡ same_object y NIL
no_more (Natural n) y h = refl
no_more (Symbol s) y h = refl
no_more (Pair a b) y h = cc

-- the first refusal, or the next ones
pub refused_first : (r : Option Reason) (first others : Option Refusal) → is_some r ≡ true → option_map refusal_of r ≡ first → option_map refusal_of r ≡ option_or first others
refused_first None first others h e = cc
refused_first (Some q) first others h e = ap (λ o. option_or o others) e

pub none_first : (r : Option Reason) (first others : Option Refusal) → is_some r ≡ false → option_map refusal_of r ≡ first → option_or first others ≡ others
none_first None first others h e = ap (λ o. option_or o others) (sym e)
none_first (Some q) first others h e = cc

-- a pair that the grown heap shows
pub pair_before : (os now : List Object) → Grows os now → (x a b : ℕ) → IsIn os x → a < x → b < x → object_at now x ≡ Pair (object_at now a) (object_at now b) → object_at os x ≡ Pair (object_at os a) (object_at os b)
pair_before os now g x a b x_in a_older b_older is =
    sym (object_at-Grows os now g x x_in) ∙ (is ∙ ap₂ Pair (object_at-Grows os now g a (omega (arith, a_older, x_in))) (object_at-Grows os now g b (omega (arith, b_older, x_in))))

-- A walk over formulas and their proofs: those before the rest are not refused.
module _ (os : List Object) (t : Kept) (J : Judge) (obligations proofs : ℕ) where
  abbrev theory : Theory
  theory = meant os (parts_of t)

  pub record Walks (now : List Object) (marks : List ObjectMark) (formulas rest : ℕ) : Type 0 where
    pub grows : Grows os now
    pub marked : AreMarks t.arity now marks
    pub formulas_in : IsIn os formulas
    pub rest_in : IsIn os rest
    pub many : has_members (length_object (object_at os formulas)) (object_at os rest) ≡ true
    pub judged : judged_each_for J theory (object_at os obligations) (object_at os proofs) ≡ judged_each_for J theory (object_at os formulas) (object_at os rest)

  module _ (h : IsHeld os t) (now : List Object) (marks : List ObjectMark) (formulas rest : ℕ) (w : Walks now marks formulas rest) (formula more proof others : ℕ) (formula_older : formula < formulas) (more_older : more < formulas) (proof_older : proof < rest) (others_older : others < rest) (shows : object_at now formulas ≡ Pair (object_at now formula) (object_at now more)) (shows_proof : object_at now rest ≡ Pair (object_at now proof) (object_at now others)) where
    formulas_are : object_at os formulas ≡ Pair (object_at os formula) (object_at os more)
    formulas_are = pair_before os now w.grows formulas formula more w.formulas_in formula_older more_older shows

    rest_is : object_at os rest ≡ Pair (object_at os proof) (object_at os others)
    rest_is = pair_before os now w.grows rest proof others w.rest_in proof_older others_older shows_proof

    abbrev judged_now : Option Refusal
    judged_now = J (meant now (parts_of t)) (object_at now formula) (object_at now proof)

    judged_before : judged_now ≡ J theory (object_at os formula) (object_at os proof)
    judged_before =
        ap (λ u. J u (object_at now formula) (object_at now proof)) (meant-grows os now w.grows t h)
        ∙ ap₂ (J theory) (object_at-Grows os now w.grows formula (omega (arith, formula_older, w.formulas_in))) (object_at-Grows os now w.grows proof (omega (arith, proof_older, w.rest_in)))

    judged_on : judged_each_for J theory (object_at os obligations) (object_at os proofs) ≡ option_or judged_now (judged_each_for J theory (object_at os more) (object_at os others))
    judged_on =
        w.judged
        ∙ (ap₂ (judged_each_for J theory) formulas_are rest_is
        ∙ ap (λ o. option_or o (judged_each_for J theory (object_at os more) (object_at os others))) (sym judged_before))

    -- one more that is not refused
    pub Walks-next : (r : Option Reason) → is_some r ≡ false → option_map refusal_of r ≡ judged_now → (new : List Object) (ms : List ObjectMark) → Grows now new → AreMarks t.arity new ms → Walks new ms more others
    Walks-next r none is new ms g m = record {
      grows = Grows-trans os now new w.grows g;
      marked = m;
      formulas_in = omega (arith, more_older, w.formulas_in);
      rest_in = omega (arith, others_older, w.rest_in);
      many = sym (as_many-next _ _ _ _ _ _ formulas_are rest_is) ∙ w.many;
      judged = judged_on ∙ none_first r judged_now (judged_each_for J theory (object_at os more) (object_at os others)) none is;
    }

    -- one that is refused
    pub refused_here : (r : Option Reason) → is_some r ≡ true → option_map refusal_of r ≡ judged_now → (Fs : List Formula) → object_at os obligations ≡ formulas_object Fs → option_map refusal_of r ≡ judged_each J theory Fs (object_at os proofs)
    refused_here r some is Fs owed =
        refused_first r judged_now (judged_each_for J theory (object_at os more) (object_at os others)) some is
        ∙ (sym judged_on
        ∙ (ap (λ x. judged_each_for J theory x (object_at os proofs)) owed ∙ judged_each-for J theory Fs (object_at os proofs)))

  -- none is refused
  pub none_refused : (now : List Object) (marks : List ObjectMark) (formulas rest : ℕ) → Walks now marks formulas rest → is_pair (object_at now formulas) ≡ false → (Fs : List Formula) → object_at os obligations ≡ formulas_object Fs → None ≡ judged_each J theory Fs (object_at os proofs)
  none_refused now marks formulas rest w end Fs owed =
      sym (judged_none_for J theory (object_at os formulas) (object_at os rest) (ap is_pair (sym (object_at-Grows os now w.grows formulas w.formulas_in)) ∙ end))
      ∙ (sym w.judged
      ∙ (ap (λ x. judged_each_for J theory x (object_at os proofs)) owed ∙ judged_each-for J theory Fs (object_at os proofs)))

  -- a formula has a proof
  pub never_too_few : (now : List Object) (marks : List ObjectMark) (formulas rest formula more : ℕ) → Walks now marks formulas rest → formula < formulas → more < formulas → object_at now formulas ≡ Pair (object_at now formula) (object_at now more) → is_pair (object_at now rest) ≡ false → ⊥
  never_too_few now marks formulas rest formula more w formula_older more_older shows no_proof =
      true≢false
      (sym w.many
      ∙ too_few (object_at os formulas) (object_at os rest) (object_at os formula) (object_at os more) (pair_before os now w.grows formulas formula more w.formulas_in formula_older more_older shows)
      (ap is_pair (sym (object_at-Grows os now w.grows rest w.rest_in)) ∙ no_proof))

-- with as many proofs as formulas, or not
pub not_as_many : (J : Judge) (t : Theory) (Fs : List Formula) (owed ps : Object) → owed ≡ formulas_object Fs → has_members (length_object owed) ps ≡ false → Some COUNT ≡ judged_all J t Fs ps
not_as_many J t Fs owed ps is few = sym (ap (λ b. cond b (judged_each J t Fs ps) (Some COUNT)) (ap (λ n. has_members n ps) (sym (ap length_object is ∙ length_formulas Fs)) ∙ few))

pub as_many : (J : Judge) (t : Theory) (Fs : List Formula) (owed ps : Object) → owed ≡ formulas_object Fs → has_members (length_object owed) ps ≡ true → judged_each J t Fs ps ≡ judged_all J t Fs ps
as_many J t Fs owed ps is enough = sym (ap (λ b. cond b (judged_each J t Fs ps) (Some COUNT)) (ap (λ n. has_members n ps) (sym (ap length_object is ∙ length_formulas Fs)) ∙ enough))
