-- The value by the word that is found is the logic's.
use Rattle.std.proofs.Common.{◌≡◌, Bool, true, false, cond, List, [], ◌∷◌, Option, Some, None, refl, sym, ap, ap₂, ◌∙◌, option_map}
use Rattle.mw_model.specs.Terms.Object.{Object, Name, Symbol, named, same_name, same_object, car, second_of, third_of}
use Rattle.mw_model.specs.Values.Primitive.{Profile, Primitive, Equality, IsPair, Cons, Car, Cdr, IsSymbol, SymbolLess, IsNatural, Less, Plus, Minus, Times, primitive_named, choose, first_value, second_value}
use Rattle.mw_model.specs.Laws.Rules.{primitive_value, value_by, is_that_value, unquoted, third_value}
use Rattle.mw_model.proofs.SameObject.{same_object-swap}
use Rattle.mw_heap.specs.declared.vocabulary.primitive.Primitive.{Primitive as Word}
use Rattle.mw_heap.specs.declared.vocabulary.primitive.Primitive.TheVariants as word
use Rattle.mw_heap.specs.PrimitiveNames.{word_of, word_named}
use Rattle.mw_base.specs.Answers.{value_of}
use Rattle.mw_base.proofs.ConstantTests.{first_value-unquoted, second_value-unquoted, third_value-unquoted}

abbrev pub value_found : Option Word → List Object → Option Object
value_found None vs = None
value_found (Some w) vs = Some (value_of w vs)

value_by-word : (o : Option Primitive) (vs : List Object) → value_by o vs ≡ value_found (option_map word_of o) vs
value_by-word None vs = refl
value_by-word (Some Equality) vs = refl
value_by-word (Some IsPair) vs = refl
value_by-word (Some Cons) vs = refl
value_by-word (Some Car) vs = refl
value_by-word (Some Cdr) vs = refl
value_by-word (Some IsSymbol) vs = refl
value_by-word (Some SymbolLess) vs = refl
value_by-word (Some IsNatural) vs = refl
value_by-word (Some Less) vs = refl
value_by-word (Some Plus) vs = refl
value_by-word (Some Minus) vs = refl
value_by-word (Some Times) vs = refl

primitive_value-found : (P : Profile) (f : Name) (vs : List Object) → primitive_value P f vs ≡ value_found (word_named P f) vs
primitive_value-found P f vs = go (same_name f (named "IF")) (same_name (named "IF") f) (same_object-swap (Symbol f) (Symbol (named "IF")))
  where
    go : (s t : Bool) → s ≡ t → cond s (Some (choose (first_value vs) (second_value vs) (third_value vs))) (value_by (primitive_named P f) vs) ≡ value_found (cond t (Some word.If) (option_map word_of (primitive_named P f))) vs
    go true true e = refl
    go false false e = value_by-word (primitive_named P f) vs
    go true false e = cc
    go false true e = cc

-- a value looks at the first three of the arguments alone
pub value_of-three : (w : Word) (vs : List Object) (a b c : Object) → first_value vs ≡ a → second_value vs ≡ b → third_value vs ≡ c → value_of w vs ≡ value_of w (a ∷ b ∷ c ∷ [])
value_of-three word.If vs a b c e f g = ap₂ (λ x y. choose x y (third_value vs)) e f ∙ ap (choose a b) g
value_of-three word.Equal vs a b c e f g = ap₂ (λ x y. value_of word.Equal (x ∷ y ∷ [])) e f
value_of-three word.Consp vs a b c e f g = ap₂ (λ x y. value_of word.Consp (x ∷ y ∷ [])) e f
value_of-three word.Cons vs a b c e f g = ap₂ (λ x y. value_of word.Cons (x ∷ y ∷ [])) e f
value_of-three word.Car vs a b c e f g = ap₂ (λ x y. value_of word.Car (x ∷ y ∷ [])) e f
value_of-three word.Cdr vs a b c e f g = ap₂ (λ x y. value_of word.Cdr (x ∷ y ∷ [])) e f
value_of-three word.Symbolp vs a b c e f g = ap₂ (λ x y. value_of word.Symbolp (x ∷ y ∷ [])) e f
value_of-three word.SymbolLess vs a b c e f g = ap₂ (λ x y. value_of word.SymbolLess (x ∷ y ∷ [])) e f
value_of-three word.Natp vs a b c e f g = ap₂ (λ x y. value_of word.Natp (x ∷ y ∷ [])) e f
value_of-three word.Less vs a b c e f g = ap₂ (λ x y. value_of word.Less (x ∷ y ∷ [])) e f
value_of-three word.Plus vs a b c e f g = ap₂ (λ x y. value_of word.Plus (x ∷ y ∷ [])) e f
value_of-three word.Minus vs a b c e f g = ap₂ (λ x y. value_of word.Minus (x ∷ y ∷ [])) e f
value_of-three word.Times vs a b c e f g = ap₂ (λ x y. value_of word.Times (x ∷ y ∷ [])) e f

-- where a word is found
pub is_that_value-some : (P : Profile) (f : Name) (ts v : Object) (w : Word) → Some w ≡ word_named P f → same_object (value_of w (second_of (car ts) ∷ second_of (second_of ts) ∷ second_of (third_of ts) ∷ [])) v ≡ is_that_value (primitive_value P f (unquoted ts)) v
is_that_value-some P f ts v w e =
    ap (λ x. same_object x v) (sym (value_of-three w (unquoted ts) _ _ _ (first_value-unquoted ts) (second_value-unquoted ts) (third_value-unquoted ts)))
    ∙ (ap (λ o. is_that_value (value_found o (unquoted ts)) v) e ∙ ap (λ o. is_that_value o v) (sym (primitive_value-found P f (unquoted ts))))

pub is_that_value-none : (P : Profile) (f : Name) (ts v : Object) → None ≡ word_named P f → false ≡ is_that_value (primitive_value P f (unquoted ts)) v
is_that_value-none P f ts v e =
    ap (λ o. is_that_value (value_found o (unquoted ts)) v) e ∙ ap (λ o. is_that_value o v) (sym (primitive_value-found P f (unquoted ts)))
