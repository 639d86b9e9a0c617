-- A walk over a list: its members so far, and the rest of it.
use Rattle.std.proofs.Common.{◌≡◌, ℕ, true, false, List, [], ◌∷◌, ◌++◌, refl, sym, ap, ◌∙◌, subst}
use Rattle.std.specs.List.{All}
use Rattle.std.proofs.lemmas.List.Elements.{All-push}
use Rattle.mw_model.specs.Terms.Object.{Object, Natural, Symbol, Pair, NIL}
use Rattle.mw_model.specs.Values.Primitive.{is_pair}
use Rattle.mw_model.specs.Laws.RulesInduction.{is_list_object}
use Rattle.mw_model.proofs.Names.{same_object-eq}
use Rattle.mw_heap.specs.Objects.{object_at, IsIn}
use Rattle.mw_heap.specs.Lists.{list_object, proper_list}

-- the objects of these references, and then the rest
abbrev pub put_before : List Object → List ℕ → Object → Object
put_before os [] rest = rest
put_before os (x ∷ xs) rest = Pair (object_at os x) (put_before os xs rest)

put_before-push : (os : List Object) (xs : List ℕ) (x : ℕ) (rest : Object) → put_before os (xs ++ x ∷ []) rest ≡ put_before os xs (Pair (object_at os x) rest)
put_before-push os [] x rest = refl
put_before-push os (y ∷ xs) x rest = ap (Pair (object_at os y)) (put_before-push os xs x rest)

list_object-before : (os : List Object) (xs : List ℕ) → list_object os xs ≡ put_before os xs NIL
list_object-before os [] = refl
list_object-before os (x ∷ xs) = ap (Pair (object_at os x)) (list_object-before os xs)

no_members : (x : Object) → is_pair x ≡ false → proper_list x ≡ NIL
no_members (Natural n) h = refl
no_members (Symbol s) h = refl
no_members (Pair a b) h = cc

-- a list that NIL ends is the list of its members
pub proper_list-is : (x : Object) → is_list_object x ≡ true → proper_list x ≡ x
proper_list-is (Natural n) h = cc
proper_list-is (Symbol s) h = sym (same_object-eq (Symbol s) NIL h)
proper_list-is (Pair a r) h = ap (Pair a) (proper_list-is r h)

pub record AreMembers (os : List Object) (list : ℕ) (members : List ℕ) (rest : ℕ) : Type 0 where
  pub rest_in : IsIn os rest
  pub within : All (IsIn os) members
  pub listed : put_before os members (proper_list (object_at os rest)) ≡ proper_list (object_at os list)

pub AreMembers-next : (os : List Object) (list : ℕ) (members : List ℕ) (rest first more : ℕ) (new : List ℕ) → AreMembers os list members rest → IsIn os first → IsIn os more → object_at os rest ≡ Pair (object_at os first) (object_at os more) → new ≡ members ++ first ∷ [] → AreMembers os list new more
AreMembers-next os list members rest first more new m first_in more_in is pushed =
    subst (λ xs. AreMembers os list xs more) (sym pushed) (record {
      rest_in = more_in;
      within = All-push (IsIn os) members first m.within first_in;
      listed = put_before-push os members first (proper_list (object_at os more)) ∙ (ap (λ x. put_before os members (proper_list x)) (sym is) ∙ m.listed);
    })

pub all_members : (os : List Object) (list : ℕ) (members : List ℕ) (rest : ℕ) → AreMembers os list members rest → is_pair (object_at os rest) ≡ false → list_object os members ≡ proper_list (object_at os list)
all_members os list members rest m end =
    list_object-before os members ∙ (ap (put_before os members) (sym (no_members (object_at os rest) end)) ∙ m.listed)
