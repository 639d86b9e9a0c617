-- The first two axioms are among the axioms of each theory of a course, whoever judges the proofs.
use Rattle.std.proofs.Common.{ℕ, suc, List, [], ◌∷◌, Some}
use Rattle.mw_model.specs.Terms.Object.{Name, Object, Pair, NIL, Member, first, later}
use Rattle.mw_model.specs.Terms.Term.{Formula, formula_object}
use Rattle.mw_model.specs.Values.Primitive.{Profile, Two}
use Rattle.mw_model.specs.Values.Definition.{Block, block_axioms}
use Rattle.mw_model.specs.Values.Truth.{Each}
use Rattle.mw_model.specs.Proofs.Axioms.{axiom_1, axiom_2, primitive_axioms}
use Rattle.mw_model.specs.BuiltIns.BuiltIn.{built_in}
use Rattle.mw_model.specs.Events.Theory.{Theory, add_formulas, axioms_of, initial}
use Rattle.mw_model.specs.Events.Admission.{add_to_theory}
use Rattle.mw_model.specs.Events.Fate.{EventWord, Verify, Define, Skolem, Switch, Eval, Print, DefineAll, SetProfile}
use Rattle.mw_model.specs.Events.Demand.{Demand, Denied, Wants, demand, proofs_of, Judge, settled, happens_by_under, happens_under}
use Rattle.mw_commands.specs.Commands.Transition.{course_from, last_theory_from}
use Rattle.mw_commands.proofs.Leading.{Asks, Leads, refuse_leads, accept_leads, need_leads, must_leads, unless_leads, eval_leads, print_leads, asks}

-- the axioms of equality
pub record HasFirst (t : Theory) : Type 0 where
  pub one : Member (formula_object axiom_1) t.axioms
  pub two : Member (formula_object axiom_2) t.axioms

still_there : (x : Object) (Fs : List Formula) (list : Object) → Member x list → Member x (add_formulas Fs list)
still_there x [] list h = h
still_there x (F ∷ Fs) list h = still_there x Fs (Pair (formula_object F) list) (later (formula_object F) list h)

first_there : (F G : Formula) (Fs : List Formula) → Member (formula_object F) (add_formulas (F ∷ G ∷ Fs) NIL) × Member (formula_object G) (add_formulas (F ∷ G ∷ Fs) NIL)
first_there F G Fs =
    let one = Pair (formula_object F) NIL in
    (still_there (formula_object F) Fs (Pair (formula_object G) one) (later (formula_object G) one (first NIL)), still_there (formula_object G) Fs (Pair (formula_object G) one) (first one))

blocks_keep : (x : Object) (P : Profile) (D : List Block) → Member x (add_formulas (primitive_axioms P) NIL) → Member x (axioms_of P D)
blocks_keep x P [] h = h
blocks_keep x P (B ∷ D) h = still_there x (block_axioms B) (axioms_of P D) (blocks_keep x P D h)

abbrev after_two : List Formula → List Formula
after_two (F ∷ G ∷ Fs) = Fs
after_two _ = []

pub initial_first : (P : Profile) → HasFirst (initial P)
initial_first P =
    let h = first_there axiom_1 axiom_2 (after_two (primitive_axioms P)) in
    record { one = blocks_keep (formula_object axiom_1) P (built_in P) h.0; two = blocks_keep (formula_object axiom_2) P (built_in P) h.1 }

module _ (t : Theory) (has : HasFirst t) where
  block_added : (B : Block) → HasFirst (add_to_theory t B)
  block_added B = record { one = still_there (formula_object axiom_1) (block_axioms B) t.axioms has.one; two = still_there (formula_object axiom_2) (block_axioms B) t.axioms has.two }

  theorem_added : (F : Formula) → HasFirst (record t { theorems = Pair (formula_object F) t.theorems })
  theorem_added F = record { one = has.one; two = has.two }

  checker_set : (f : Name) → HasFirst (record t { checker = Some f; level = suc t.level })
  checker_set f = record { one = has.one; two = has.two }

  asks_first : (w : EventWord) (e : Object) → Asks (λ Fs. HasFirst) (demand w t e)
  asks_first w e = asks HasFirst t has block_added theorem_added (initial_first Two) w e

  module _ (J : Judge) (N : ℕ) where
    settled_leads : (ps : Object) (d : Demand) → Asks (λ Fs. HasFirst) d → Leads HasFirst (settled J t N ps d)
    settled_leads ps (Denied r) h = refuse_leads HasFirst t has r
    settled_leads ps (Wants Fs next) h = must_leads HasFirst t has _ _ _ (unless_leads HasFirst t has _ _ (accept_leads HasFirst t has next h))

    word_leads : (w : EventWord) (e : Object) → Leads HasFirst (happens_by_under J w t N e)
    word_leads Verify e = settled_leads (proofs_of Verify e) (demand Verify t e) (asks_first Verify e)
    word_leads Define e = settled_leads (proofs_of Define e) (demand Define t e) (asks_first Define e)
    word_leads DefineAll e = settled_leads (proofs_of DefineAll e) (demand DefineAll t e) (asks_first DefineAll e)
    word_leads Skolem e = settled_leads (proofs_of Skolem e) (demand Skolem t e) (asks_first Skolem e)
    word_leads SetProfile e = settled_leads (proofs_of SetProfile e) (demand SetProfile t e) (asks_first SetProfile e)
    word_leads Switch e = need_leads HasFirst t has _ _ _ (λ f. must_leads HasFirst t has _ _ _ (accept_leads HasFirst t has _ (checker_set f)))
    word_leads Eval e = eval_leads HasFirst t has N e
    word_leads Print e = print_leads HasFirst t has e

    event_leads : (e : Object) → Leads HasFirst (happens_under J t N e)
    event_leads e = need_leads HasFirst t has _ _ _ (λ x. need_leads HasFirst t has _ _ _ (λ w. word_leads w x))

    pub first_stay : (e : Object) → HasFirst (happens_under J t N e).1
    first_stay e = (event_leads e).there

-- both, as the laws say it
abbrev Both : Theory → Type 0
Both t = Member (formula_object axiom_1) t.axioms × Member (formula_object axiom_2) t.axioms

-- along a course
pub each_has_first : (J : Judge) (N k : ℕ) (t : Theory) (es : List Object) → HasFirst t → Each (λ s. Both s.before) (course_from (λ u e. happens_under J u N e) k t es)
each_has_first J N k t [] has = tt
each_has_first J N k t (e ∷ es) has = ((has.one, has.two), each_has_first J N (suc k) (happens_under J t N e).1 es (first_stay t has J N e))

pub last_has_first : (J : Judge) (N k : ℕ) (t : Theory) (es : List Object) → HasFirst t → Both (last_theory_from t (course_from (λ u e. happens_under J u N e) k t es))
last_has_first J N k t [] has = (has.one, has.two)
last_has_first J N k t (e ∷ es) has = last_has_first J N (suc k) (happens_under J t N e).1 es (first_stay t has J N e)
