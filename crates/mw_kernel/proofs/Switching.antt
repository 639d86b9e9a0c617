-- The tests of a SWITCH, what it comes to, and what is kept of the theory after it.
use Rattle.std.proofs.Common.{◌≡◌, ℕ, Bool, true, false, cond, eqb, List, length, Option, Some, None, refl, sym, ap, ap₂, ◌∙◌, is_some}
use Rattle.mw_model.specs.Terms.Object.{Name, Object, Natural, Symbol, Pair, is_member}
use Rattle.mw_model.specs.Terms.Term.{formula_object}
use Rattle.mw_model.specs.Values.Primitive.{is_symbol, name_of}
use Rattle.mw_model.specs.Terms.Reading.{when}
use Rattle.mw_model.specs.Values.Definition.{Function}
use Rattle.mw_model.specs.Events.Evaluation.{code_of}
use Rattle.mw_model.specs.Events.Theory.{Theory, claim}
use Rattle.mw_model.specs.Events.Refusal.{CHECKER, CLAIM, accept, need, must}
use Rattle.mw_model.specs.Events.Fate.{has_four_formals, checker_named, switch}
use Rattle.mw_heap.specs.Objects.{object_at, Grows}
use Rattle.mw_heap.specs.Lists.{list_object}
use Rattle.mw_theory.specs.declared.theory.Theory.{Theory as Kept}
use Rattle.mw_theory.specs.Knowledge.{parts_of, meant, with_checker, IsHeld}
use Rattle.mw_theory.specs.Words.{switch_event}
use Rattle.mw_kernel.specs.Switching.{claim_refusal, switch_refusal, switched_by, switched}
use Rattle.mw_theory.proofs.CallerLemmas.{known-grow}

module _ (t : Theory) where
  -- a checker is the function of its name
  named-when : (b : Bool) (f g : Name) → when b (Some f) ≡ Some g → f ≡ g
  named-when true f g h = ap (or_first f) h
    where
      or_first : Name → Option Name → Name
      or_first f None = f
      or_first f (Some n) = n
  named-when false f g h = cc

  checker-name : (x : Object) (f : Name) → checker_named t x ≡ Some f → name_of x ≡ f
  checker-name (Symbol s) f h = named-when (has_four_formals (code_of t.definitions.blocks s)) s f h
  checker-name (Natural n) f h = cc
  checker-name (Pair a b) f h = cc

  pub checker-symbol : (x : Object) → is_some (checker_named t x) ≡ true → is_symbol x ≡ true
  checker-symbol (Symbol s) h = refl
  checker-symbol (Natural n) h = cc
  checker-symbol (Pair a b) h = cc

  by-claim : (b : Bool) (f : Name) (x : Object) → name_of x ≡ f → must t CLAIM b (accept (with_checker t f)) ≡ switched_by t x (cond b None (Some CLAIM))
  unfolding must
  by-claim true f x is = ap (λ n. accept (with_checker t n)) (sym is)
  by-claim false f x is = refl

  by-checker : (x : Object) (o : Option Name) → ((f : Name) → o ≡ Some f → name_of x ≡ f) → need t CHECKER o (λ f. must t CLAIM (is_member (formula_object (claim f)) t.theorems) (accept (with_checker t f))) ≡ switched_by t x (claim_refusal t o)
  unfolding need
  by-checker x None named = refl
  by-checker x (Some f) named = by-claim (is_member (formula_object (claim f)) t.theorems) f x (named f refl)

  pub switch-is : (x : Object) → switch t (switch_event x) ≡ switched t x
  switch-is x = by-checker x (checker_named t x) (checker-name x)

  -- what the tests of the program find
  pub no-checker : (x : Object) → is_some (checker_named t x) ≡ false → Some CHECKER ≡ switch_refusal t x
  no-checker x h = go (checker_named t x) h
    where
      go : (o : Option Name) → is_some o ≡ false → Some CHECKER ≡ claim_refusal t o
      go None h = refl
      go (Some f) h = cc

  claim-tested : (x : Object) (o : Option Name) → ((f : Name) → o ≡ Some f → name_of x ≡ f) → is_some o ≡ true → cond (is_member (formula_object (claim (name_of x))) t.theorems) None (Some CLAIM) ≡ claim_refusal t o
  claim-tested x None named h = cc
  claim-tested x (Some f) named h = ap (λ n. cond (is_member (formula_object (claim n)) t.theorems) None (Some CLAIM)) (named f refl)

  pub claim-decides : (x : Object) → is_some (checker_named t x) ≡ true → cond (is_member (formula_object (claim (name_of x))) t.theorems) None (Some CLAIM) ≡ switch_refusal t x
  claim-decides x h = claim-tested x (checker_named t x) (checker-name x) h

  -- what is not refused is the name of a function
  pub switched-symbol : (x : Object) → switch_refusal t x ≡ None → is_symbol x ≡ true
  switched-symbol x h = checker-symbol x (go (checker_named t x) h)
    where
      go : (o : Option Name) → claim_refusal t o ≡ None → is_some o ≡ true
      go (Some f) h = refl
      go None h = cc

-- the function of a name, by its code
pub function-found : (t : Theory) (x : Object) (f : Name) (h : Function) (arity : ℕ) → x ≡ Symbol f → code_of t.definitions.blocks f ≡ Some h → arity ≡ length h.formals → eqb arity 4 ≡ is_some (checker_named t x)
function-found t x f h arity is code count =
    ap (λ n. eqb n 4) count ∙ (present (eqb (length h.formals) 4) f ∙ (ap (λ o. is_some (when (has_four_formals o) (Some f))) (sym code) ∙ ap (λ y. is_some (checker_named t y)) (sym is)))
  where
    present : (b : Bool) (f : Name) → b ≡ is_some (when b (Some f))
    present true f = refl
    present false f = refl

pub function-missed : (t : Theory) (x : Object) (f : Name) → x ≡ Symbol f → code_of t.definitions.blocks f ≡ None → false ≡ is_some (checker_named t x)
function-missed t x f is none = ap (λ o. is_some (when (has_four_formals o) (Some f))) (sym none) ∙ ap (λ y. is_some (checker_named t y)) (sym is)

pub no-function : (t : Theory) (x : Object) → is_symbol x ≡ false → false ≡ is_some (checker_named t x)
no-function t (Natural n) h = refl
no-function t (Pair a b) h = refl
no-function t (Symbol s) h = cc

-- a symbol is that of its name
pub symbol-named : (x : Object) → is_symbol x ≡ true → x ≡ Symbol (name_of x)
symbol-named (Symbol s) h = refl
symbol-named (Natural n) h = cc
symbol-named (Pair a b) h = cc

-- of a theory that is kept: whether the claim is known decides
pub claim-decided : (os : List Object) (t : Kept) (h : IsHeld os t) (name : ℕ) → is_some (checker_named (meant os (parts_of t)) (object_at os name)) ≡ true → (new : List Object) (grows : Grows os new) (r : ℕ) → object_at new r ≡ formula_object (claim (name_of (object_at os name))) → (known b : Bool) → known ≡ is_member (object_at new r) (list_object new t.known_theorems) → known ≡ b → cond b None (Some CLAIM) ≡ switch_refusal (meant os (parts_of t)) (object_at os name)
claim-decided os t h name present new grows r r_is known b known_is is_b =
    let u = meant os (parts_of t) in
    let x = object_at os name in
    let same : is_member (formula_object (claim (name_of x))) u.theorems ≡ b =
    ap₂ is_member (sym r_is) (sym (known-grow os new grows t.known_theorems h.each_theorem_in ∙ h.theorems_known)) ∙ (sym known_is ∙ is_b) in
    ap (λ c. cond c None (Some CLAIM)) (sym same) ∙ claim-decides u x present
