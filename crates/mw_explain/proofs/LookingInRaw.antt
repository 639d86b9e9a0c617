-- What is looked for in a raw term is looked for in its parts, one after another.
use Rattle.std.proofs.Common.{◌≡◌, Bool, true, false, cond, List, [], ◌∷◌, ◌++◌, Option, Some, None, is_some, refl, sym, ap, ap₂, ◌∙◌}
use Rattle.std.specs.Option.{option_or}
use Rattle.mw_model.specs.Terms.Object.{Object, Natural, Symbol, Pair}
use Rattle.mw_model.specs.Terms.Term.{ArityTable, arity_of}
use Rattle.mw_model.specs.Events.Expansion.{Abbreviation, COND, LET, LETSTAR, QUOTE, Other, abbreviation_of, expand}
use Rattle.mw_commands.specs.Commands.ExplanationTerms.{or_itself, bad_in_list, bad_in_clauses, bad_in_bindings, bad_in_let, bad_raw}
use Rattle.mw_bad_steps.specs.Members.{members_in}
use Rattle.mw_explain.specs.RawParts.{clause_members, binding_members, let_members, form_members, raw_parts, found_in}

pub option_or-assoc : (a b c : Option Object) → option_or (option_or a b) c ≡ option_or a (option_or b c)
option_or-assoc None b c = refl
option_or-assoc (Some x) b c = refl

pub found-append : (look : Object → Option Object) (xs ys : List Object) → found_in look (xs ++ ys) ≡ option_or (found_in look xs) (found_in look ys)
found-append look [] ys = refl
found-append look (x ∷ xs) ys = ap (option_or (look x)) (found-append look xs ys) ∙ sym (option_or-assoc (look x) (found_in look xs) (found_in look ys))

module _ (A : ArityTable) where
  abbrev good : Object → Bool
  good x = is_some (expand A x)

  abbrev found : List Object → Option Object
  found ps = found_in (bad_raw A) ps

  in_list : (x : Object) → bad_in_list abbreviation_of good A x ≡ found (members_in x)
  in_list (Natural n) = refl
  in_list (Symbol s) = refl
  in_list (Pair a r) = ap (option_or (bad_raw A a)) (in_list r)

  in_clauses : (x : Object) → bad_in_clauses abbreviation_of good A x ≡ found (clause_members x)
  in_clauses (Natural n) = refl
  in_clauses (Symbol s) = refl
  in_clauses (Pair a r) = ap₂ option_or (in_list a) (in_clauses r) ∙ sym (found-append (bad_raw A) (members_in a) (clause_members r))

  in_bindings : (x : Object) → bad_in_bindings abbreviation_of good A x ≡ found (binding_members x)
  in_bindings (Natural n) = refl
  in_bindings (Symbol s) = refl
  in_bindings (Pair (Natural n) r) = refl
  in_bindings (Pair (Symbol s) r) = refl
  in_bindings (Pair (Pair x e) r) = ap₂ option_or (in_list e) (in_bindings r) ∙ sym (found-append (bad_raw A) (members_in e) (binding_members r))

  in_let : (x : Object) → bad_in_let abbreviation_of good A x ≡ found (let_members x)
  in_let (Natural n) = refl
  in_let (Symbol s) = refl
  in_let (Pair ps b) = ap₂ option_or (in_bindings ps) (in_list b) ∙ sym (found-append (bad_raw A) (binding_members ps) (members_in b))

  -- what is looked for behind a word of this meaning
  abbrev in_form : Abbreviation → Bool → Object → Option Object
  in_form meaning known r =
      elim meaning [ QUOTE ↦ None | COND ↦ bad_in_clauses abbreviation_of good A r | LET ↦ bad_in_let abbreviation_of good A r | LETSTAR ↦ bad_in_let abbreviation_of good A r | Other ↦ cond known (bad_in_list abbreviation_of good A r) None | _ ↦ bad_in_list abbreviation_of good A r ]

  called : (known : Bool) (r : Object) → cond known (bad_in_list abbreviation_of good A r) None ≡ found (cond known (members_in r) [])
  called true r = in_list r
  called false r = refl

  by_form : (meaning : Abbreviation) (known : Bool) (r : Object) → in_form meaning known r ≡ found (form_members known meaning r)
  by_form COND known r = in_clauses r
  by_form LET known r = in_let r
  by_form LETSTAR known r = in_let r
  by_form QUOTE known r = refl
  by_form Other known r = called known r
  by_form _ known r = in_list r

  pub by_parts : (x : Object) → bad_raw A x ≡ or_itself good x (found (raw_parts A x))
  by_parts (Natural n) = refl
  by_parts (Symbol s) = refl
  by_parts (Pair (Natural n) r) = refl
  by_parts (Pair (Symbol f) r) = ap (or_itself good (Pair (Symbol f) r)) (by_form (abbreviation_of f) (is_some (arity_of A f)) r)
  by_parts (Pair (Pair l (Natural n)) r) = refl
  by_parts (Pair (Pair l (Symbol s)) r) = refl
  by_parts (Pair (Pair l (Pair xs (Natural n))) r) = refl
  by_parts (Pair (Pair l (Pair xs (Symbol s))) r) = refl
  by_parts (Pair (Pair l (Pair xs (Pair b z))) r) = ap (λ o. or_itself good (Pair (Pair l (Pair xs (Pair b z))) r) (option_or (bad_raw A b) o)) (in_list r)

  pub raw_passes : (x : Object) → good x ≡ true → bad_raw A x ≡ None
  raw_passes x h = by_parts x ∙ ap (λ b. cond b None (option_or (found (raw_parts A x)) (Some x))) h

  something : (x : Object) → good x ≡ false → bad_raw A x ≡ option_or (found (raw_parts A x)) (Some x)
  something x h = by_parts x ∙ ap (λ b. cond b None (option_or (found (raw_parts A x)) (Some x))) h

  some_of : (x : Object) (o : Option Object) → (y : Object) × (option_or o (Some x) ≡ Some y)
  some_of x None = (x, refl)
  some_of x (Some y) = (y, refl)

  -- what comes after something that is shown does not count
  pub raw_shown : (x : Object) (z : Option Object) → good x ≡ false → option_or (bad_raw A x) z ≡ bad_raw A x
  raw_shown x z h =
      let s = some_of x (found (raw_parts A x)) in
      let e : bad_raw A x ≡ Some s.0 = something x h ∙ s.1 in
      ap (λ o. option_or o z) e ∙ sym e

  -- no part is bad, or p is the first
  pub nothing_in : (x : Object) → good x ≡ false → found (raw_parts A x) ≡ None → bad_raw A x ≡ Some x
  nothing_in x h e = something x h ∙ ap (λ o. option_or o (Some x)) e

  pub something_in : (x p : Object) → good x ≡ false → good p ≡ false → found (raw_parts A x) ≡ bad_raw A p → bad_raw A x ≡ bad_raw A p
  something_in x p h k e = something x h ∙ (ap (λ o. option_or o (Some x)) e ∙ raw_shown p (Some x) k)
