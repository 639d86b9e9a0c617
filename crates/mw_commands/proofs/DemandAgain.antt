-- An event that is wanted at a theory is wanted at another one that says the same of what occurs in it: with proofs of the same formulas, and
-- changing the theory alike.
use Rattle.std.proofs.Common.{◌≡◌, Bool, true, false, ◌||◌, cond, List, [], ◌∷◌, map, Option, Some, None, refl, sym, ap, ◌∙◌, subst}
use Rattle.std.proofs.lemmas.Bool.{and_from}
use Rattle.mw_model.specs.Terms.Object.{Name, Object, Natural, Symbol, Pair, symbol, same_object, NIL, car, second_of, third_of, fourth_of, fifth_of, has_members}
use Rattle.mw_model.specs.Terms.Term.{are_distinct, Term, Formula, formula_object, is_formula, is_closed}
use Rattle.mw_model.specs.Terms.Reading.{formula_of, formula_under, when}
use Rattle.mw_model.specs.Values.Primitive.{Profile, One, Two, is_symbol}
use Rattle.mw_model.specs.Values.Definition.{Functions, Choice, arity_table}
use Rattle.mw_model.specs.Events.Expansion.{expand}
use Rattle.mw_model.specs.Events.Theory.{Theory, initial}
use Rattle.mw_model.specs.Events.Refusal.{Refusal, EVENT, NAME, FORMALS, TERM, FORMULA, VARIABLES, PROFILE, Fate, accept, need, must}
use Rattle.mw_model.specs.Events.Admission.{Draft, all_of, new_name, formals_of, functions, add_to_theory, draft_of, drafts_of, some_drafts, add_witness, skolem}
use Rattle.mw_model.specs.Events.Fate.{EventWord, Verify, Define, Skolem, Switch, Eval, Print, DefineAll, SetProfile, is_initial, profile_of, begin_profile}
use Rattle.mw_model.specs.Events.Demand.{Demand, Wants, wants_some, wants_that, verify_demand, define_demand, without_proofs, demand}
use Rattle.mw_model.proofs.ReadBack.{some_one, and_more-back, when_some, formula_back}
use Rattle.mw_commands.specs.Commands.Slice.{names_added, begins_with, without_name, first_members}
use Rattle.mw_commands.proofs.SameArities.{formula_under_agrees}
use Rattle.mw_commands.proofs.EventParts.{HasWord, begins_as, claim_within, draft_parts, body_within, measure_within, drafts_within, witness_within}
use Rattle.mw_commands.proofs.BlockNames.{NewBlock, functions_are_new, witness_is_new, drafts_names}
use Rattle.mw_commands.proofs.Changes.{Stays, AddsTheorem, AddsBlock, BeginsSecond}
use Rattle.mw_commands.proofs.DefinedAgain.{Suits, WantedAgain, some_wanted, that_wanted, wants_one, that_back, name_stays, DraftsWithin, define_found, part_agrees, term_again, define_again}
use Rattle.mw_commands.proofs.Within.{Within, first_within, rest_within, within_trans}

-- ---- theorems

module _ (t : Theory) (e : Object) (h : HasWord e Verify) (Fs : List Formula) (next : Theory) where
  verify_again : verify_demand t e ≡ Wants Fs next → WantedAgain t e Verify Fs next
  verify_again k =
      let p = that_wanted NAME (is_symbol (second_of e)) _ Fs next k in
      let q = some_wanted FORMULA (formula_under (arity_table t.definitions) (third_of e)) _ Fs next p.1 in
      let w = wants_one q.2 in
      let F = q.0 in
      record {
        change = AddsTheorem F;
        leads = sym w.1;
        is_change = (begins_as e Verify h (symbol "VERIFY"), formula_back (third_of e) F (that_back (is_formula (arity_table t.definitions)) (formula_of (third_of e)) F q.1).0);
        again = λ u s.
            let same = formula_under_agrees (arity_table t.definitions) (arity_table u.definitions) (third_of e) (part_agrees t u e s (third_of e) (claim_within e h)) in
            ap (λ b. wants_that NAME b (wants_some FORMULA (formula_under (arity_table u.definitions) (third_of e)) (λ G. Wants (G ∷ []) (record u { theorems = Pair (formula_object G) u.theorems })))) p.0
            ∙ (ap (λ o. wants_some FORMULA o (λ G. Wants (G ∷ []) (record u { theorems = Pair (formula_object G) u.theorems }))) (sym same ∙ q.1) ∙ ap (λ z. Wants z (record u { theorems = Pair (formula_object F) u.theorems })) w.0);
      }

-- ---- definitions

abbrev with_head : Object → Object → List Object
with_head e z = cond (same_object z (symbol "DEFINE") || same_object z (symbol "SKOLEM")) (second_of e ∷ []) (cond (same_object z (symbol "DEFINE-ALL")) (first_members (second_of e)) [])

all_inside : (x y : Object) → Within x y → (ds : List Draft) → DraftsWithin x ds → DraftsWithin y ds
all_inside x y w [] h = tt
all_inside x y w (d ∷ ds) h = ((within_trans d.body x y h.0.0 w, within_trans d.measure x y h.0.1 w), all_inside x y w ds h.1)

drafts_are_within : (x : Object) (ds : List Draft) → drafts_of x ≡ Some ds → DraftsWithin x ds
drafts_are_within (Natural n) ds h = cc
drafts_are_within (Symbol s) ds h = let p = when_some (same_object (Symbol s) NIL) (Some []) ds h in subst (DraftsWithin (Symbol s)) (some_one p.1) tt
drafts_are_within (Pair d r) ds h =
    let p = and_more-back (draft_of d) (drafts_of r) ds h in
    let q = when_some (has_members 4 d) (Some (record { name = car d; formals = second_of d; body = third_of d; measure = fourth_of d })) p.0 p.2 in
    let parts = draft_parts d q.0 in
    let third = within_trans (third_of d) d (Pair d r) parts.0 (first_within d r) in
    let fourth = within_trans (fourth_of d) d (Pair d r) parts.1 (first_within d r) in
    let one : Within p.0.body (Pair d r) × Within p.0.measure (Pair d r) = subst (λ z. Within z.body (Pair d r) × Within z.measure (Pair d r)) (some_one q.1) (third, fourth) in
    subst (DraftsWithin (Pair d r)) (sym p.4) (one, all_inside r (Pair d r) (rest_within d r) p.1 (drafts_are_within r p.1 p.3))

module _ (t : Theory) (e : Object) (Fs : List Formula) (next : Theory) where
  -- a block of these drafts
  drafts_again : (w : EventWord) (ds : List Draft) → begins_with "VERIFY" e ≡ false → names_added e ≡ map (λ d. d.name) ds → DraftsWithin (without_name e) ds → ((u : Theory) → demand w u e ≡ define_demand u ds) → demand w t e ≡ Wants Fs next → WantedAgain t e w Fs next
  drafts_again w ds v names inside is k =
      let d = define_found t ds Fs next (sym (is t) ∙ k) in
      let B = Functions (functions d.fs d.xss d.terms.0) in
      let found = that_back are_distinct (all_of (new_name (arity_table t.definitions)) (map (λ d. d.name) ds)) d.fs d.names in
      let new = functions_are_new (arity_table t.definitions) (map (λ d. d.name) ds) d.fs d.xss d.terms.0 found.0 in
      record { change = AddsBlock B; leads = d.leads; is_change = (v, subst (λ z. NewBlock (arity_table t.definitions) z B) (sym names) new); again = λ u s. is u ∙ define_again t u e s ds Fs next inside d }

  define_one_again : HasWord e Define → demand Define t e ≡ Wants Fs next → WantedAgain t e Define Fs next
  define_one_again h k =
      let ds : List Draft = record { name = second_of e; formals = third_of e; body = fourth_of e; measure = fifth_of e } ∷ [] in
      drafts_again Define ds (begins_as e Define h (symbol "VERIFY")) (ap (with_head e) h.head) ((body_within e h, measure_within e h), tt) (λ u. refl) k

  some_are_drafts : (x : Object) (ds : List Draft) → some_drafts x ≡ Some ds → drafts_of x ≡ Some ds
  some_are_drafts (Pair d r) ds h = h
  some_are_drafts (Natural n) ds h = cc
  some_are_drafts (Symbol s) ds h = cc

  define_all_again : HasWord e DefineAll → demand DefineAll t e ≡ Wants Fs next → WantedAgain t e DefineAll Fs next
  define_all_again h k =
      let x = second_of e in
      let p = some_wanted EVENT (some_drafts x) (define_demand t) Fs next k in
      let read = some_are_drafts x p.0 p.1 in
      drafts_again DefineAll p.0 (begins_as e DefineAll h (symbol "VERIFY")) (ap (with_head e) h.head ∙ sym (drafts_names x p.0 read)) (all_inside x (without_name e) (drafts_within e h) p.0 (drafts_are_within x p.0 read)) (λ u. ap (λ o. wants_some EVENT o (define_demand u)) p.1) k

-- ---- events without proofs

abbrev Plain : Fate × Theory → Demand
Plain r = without_proofs r.0 r.1

module _ (t : Theory) (Fs : List Formula) (next : Theory) where
  need_wanted : {X : Type 0} (r : Refusal) (o : Option X) (go : X → Fate × Theory) → Plain (need t r o go) ≡ Wants Fs next → (x : X) × (o ≡ Some x) × (Plain (go x) ≡ Wants Fs next)
  unfolding need
  need_wanted r None go h = cc
  need_wanted r (Some x) go h = (x, refl, h)

  must_wanted : (r : Refusal) (b : Bool) (rest : Fate × Theory) → Plain (must t r b rest) ≡ Wants Fs next → (b ≡ true) × (Plain rest ≡ Wants Fs next)
  unfolding must
  must_wanted r true rest h = (refl, h)
  must_wanted r false rest h = cc

need_some : {X : Type 0} (t : Theory) (r : Refusal) (o : Option X) (x : X) (go : X → Fate × Theory) → o ≡ Some x → need t r o go ≡ go x
unfolding need
need_some t r o x go h = ap (λ z. need t r z go) h

must_true : (t : Theory) (r : Refusal) (b : Bool) (rest : Fate × Theory) → b ≡ true → must t r b rest ≡ rest
unfolding must
must_true t r b rest h = ap (λ z. must t r z rest) h

module _ (t : Theory) (e : Object) (Fs : List Formula) (next : Theory) where
  -- a witness, once its name, its variables and its body are read
  witness_again : HasWord e Skolem → (g : Name) (ys : List Name) (b : Term) → new_name (arity_table t.definitions) (second_of e) ≡ Some g → ((u : Theory) → Suits t u e → skolem u e ≡ add_witness u g ys b) → Plain (add_witness t g ys b) ≡ Wants Fs next → WantedAgain t e Skolem Fs next
  witness_again h g [] b n f k = cc
  witness_again h g (y ∷ xs) b n f k =
      let p = must_wanted t Fs next VARIABLES (is_closed (y ∷ xs) b) _ k in
      let w = wants_one p.1 in
      record {
        change = AddsBlock (Choice g y xs b);
        leads = sym w.1;
        is_change = (begins_as e Skolem h (symbol "VERIFY"), subst (λ z. NewBlock (arity_table t.definitions) z (Choice g y xs b)) (sym (ap (with_head e) h.head)) (witness_is_new (arity_table t.definitions) (second_of e) g y xs b n));
        again = λ u s. ap Plain (f u s ∙ must_true u VARIABLES (is_closed (y ∷ xs) b) (accept (add_to_theory u (Choice g y xs b))) p.0) ∙ ap (λ z. Wants z (add_to_theory u (Choice g y xs b))) w.0;
      }

  skolem_again : HasWord e Skolem → demand Skolem t e ≡ Wants Fs next → WantedAgain t e Skolem Fs next
  skolem_again h k =
      let p = need_wanted t Fs next NAME (new_name (arity_table t.definitions) (second_of e)) _ k in
      let q = need_wanted t Fs next FORMALS (formals_of (Pair (third_of e) (fourth_of e))) _ p.2 in
      let r = need_wanted t Fs next TERM (expand (arity_table t.definitions) (fifth_of e)) _ q.2 in
      witness_again h p.0 q.0 r.0 p.1
      (λ u s.
      let B = arity_table u.definitions in
      need_some u NAME (new_name B (second_of e)) p.0 _ (name_stays (arity_table t.definitions) B s.unknown (second_of e) p.0 p.1)
      ∙ (need_some u FORMALS (formals_of (Pair (third_of e) (fourth_of e))) q.0 _ q.1
      ∙ need_some u TERM (expand B (fifth_of e)) r.0 _ (sym (term_again t u e s (fifth_of e) (witness_within e h)) ∙ r.1)))
      r.2

  profile_is : (x : Object) → profile_of x ≡ Some Two → same_object x (Natural 2) ≡ true
  profile_is x h = go (same_object x (Natural 1)) (same_object x (Natural 2)) h
    where
      go : (a b : Bool) → cond a (Some One) (cond b (Some Two) None) ≡ Some Two → b ≡ true
      go true b h = cc
      go false true h = refl
      go false false h = cc

  begins_again : HasWord e SetProfile → (P : Profile) → is_initial t ≡ true → profile_of (second_of e) ≡ Some P → Plain (accept (begin_profile t P)) ≡ Wants Fs next → WantedAgain t e SetProfile Fs next
  begins_again h One i k w =
      let z = wants_one w in
      record {
        change = Stays;
        leads = sym z.1;
        is_change = begins_as e SetProfile h (symbol "VERIFY");
        again = λ u s. ap Plain (need_some u PROFILE (when (is_initial u) (profile_of (second_of e))) One _ (ap (λ b. when b (profile_of (second_of e))) (s.first i) ∙ k)) ∙ ap (λ x. Wants x u) z.0;
      }
  begins_again h Two i k w =
      let z = wants_one w in
      record {
        change = BeginsSecond;
        leads = sym z.1;
        is_change = (begins_as e SetProfile h (symbol "VERIFY"), and_from (begins_with "PROFILE" e) (same_object (second_of e) (Natural 2)) (begins_as e SetProfile h (symbol "PROFILE")) (profile_is (second_of e) k), i);
        again = λ u s. ap Plain (need_some u PROFILE (when (is_initial u) (profile_of (second_of e))) Two _ (ap (λ b. when b (profile_of (second_of e))) (s.first i) ∙ k)) ∙ ap (λ x. Wants x (initial Two)) z.0;
      }

  profile_again : HasWord e SetProfile → demand SetProfile t e ≡ Wants Fs next → WantedAgain t e SetProfile Fs next
  profile_again h k =
      let p = need_wanted t Fs next PROFILE (when (is_initial t) (profile_of (second_of e))) _ k in
      let q = when_some (is_initial t) (profile_of (second_of e)) p.0 p.1 in
      begins_again h p.0 q.0 q.1 p.2

-- ---- any event that wants something

pub wanted_again : (t : Theory) (w : EventWord) (e : Object) → HasWord e w → (Fs : List Formula) (next : Theory) → demand w t e ≡ Wants Fs next → WantedAgain t e w Fs next
wanted_again t Verify e h Fs next k = verify_again t e h Fs next k
wanted_again t Define e h Fs next k = define_one_again t e Fs next h k
wanted_again t DefineAll e h Fs next k = define_all_again t e Fs next h k
wanted_again t Skolem e h Fs next k = skolem_again t e Fs next h k
wanted_again t SetProfile e h Fs next k = profile_again t e Fs next h k
wanted_again t Switch e h Fs next k = cc
wanted_again t Eval e h Fs next k = cc
wanted_again t Print e h Fs next k = cc
