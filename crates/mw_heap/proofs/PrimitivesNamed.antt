-- The first of the words that has a name is the logic's primitive of this name.
use Rattle.std.proofs.Common.{◌≡◌, ℕ, ◌+◌, suc, ◌<◌, add-one, Bool, true, false, cond, List, Option, Some, None, length, take, drop, get_or, refl, sym, ap, ◌∙◌, option_map}
use Rattle.std.proofs.Math.Seq.{drop-cons}
use Rattle.mw_model.specs.Terms.Object.{Name, named, same_bytes, same_name}
use Rattle.mw_model.specs.Values.Primitive.{Profile, One, Two, Equality, IsPair, Cons, Car, Cdr, IsSymbol, SymbolLess, IsNatural, Less, Plus, Minus, Times, or_product}
use Rattle.mw_heap.specs.declared.vocabulary.primitive.Primitive.{Primitive as Word}
use Rattle.mw_heap.specs.declared.vocabulary.primitive.Primitive.TheVariants as word
use Rattle.mw_heap.specs.declared.vocabulary.primitive_name.TheConstants.{PRIMITIVES}
use Rattle.mw_heap.specs.PrimitiveNames.{primitive_bytes, word_of, word_named, first_named}

pub first_named-later : (ws : List Word) (i : ℕ) (d : Word) (bytes : List ℕ) → i < length ws → same_bytes (primitive_bytes (get_or ws i d)) bytes ≡ false → first_named (drop i ws) bytes ≡ first_named (drop (i + 1) ws) bytes
first_named-later ws i d bytes h e =
    ap (λ l. first_named l bytes) (drop-cons ws i d h)
    ∙ (ap (λ t. cond t (Some (get_or ws i d)) (first_named (drop (suc i) ws) bytes)) e ∙ ap (λ k. first_named (drop k ws) bytes) (sym (add-one i)))

-- the tests of a name, one after another; the rest is what none of them takes
one_by_one : (P : Profile) (f : Name) (rest : Option Word) → rest ≡ option_map word_of (or_product P f None) → (b0 b1 b2 b3 b4 b5 b6 b7 b8 b9 b10 b11 : Bool)
    → cond b0 (Some word.If) (cond b1 (Some word.Equal) (cond b2 (Some word.Consp) (cond b3 (Some word.Cons) (cond b4 (Some word.Car) (cond b5 (Some word.Cdr) (cond b6 (Some word.Symbolp) (cond b7 (Some word.SymbolLess) (cond b8 (Some word.Natp) (cond b9 (Some word.Less) (cond b10 (Some word.Plus) (cond b11 (Some word.Minus) rest)))))))))))
    ≡ cond b0 (Some word.If) (option_map word_of (or_product P f (cond b1 (Some Equality) (cond b2 (Some IsPair) (cond b3 (Some Cons) (cond b4 (Some Car) (cond b5 (Some Cdr) (cond b6 (Some IsSymbol) (cond b7 (Some SymbolLess) (cond b8 (Some IsNatural) (cond b9 (Some Less) (cond b10 (Some Plus) (cond b11 (Some Minus) None)))))))))))))
one_by_one P f rest e true b1 b2 b3 b4 b5 b6 b7 b8 b9 b10 b11 = refl
one_by_one P f rest e false true b2 b3 b4 b5 b6 b7 b8 b9 b10 b11 = refl
one_by_one P f rest e false false true b3 b4 b5 b6 b7 b8 b9 b10 b11 = refl
one_by_one P f rest e false false false true b4 b5 b6 b7 b8 b9 b10 b11 = refl
one_by_one P f rest e false false false false true b5 b6 b7 b8 b9 b10 b11 = refl
one_by_one P f rest e false false false false false true b6 b7 b8 b9 b10 b11 = refl
one_by_one P f rest e false false false false false false true b7 b8 b9 b10 b11 = refl
one_by_one P f rest e false false false false false false false true b8 b9 b10 b11 = refl
one_by_one P f rest e false false false false false false false false true b9 b10 b11 = refl
one_by_one P f rest e false false false false false false false false false true b10 b11 = refl
one_by_one P f rest e false false false false false false false false false false true b11 = refl
one_by_one P f rest e false false false false false false false false false false false true = refl
one_by_one P f rest e false false false false false false false false false false false false = e

-- the product alone
last : (t : Bool) → cond t (Some word.Times) None ≡ option_map word_of (cond t (Some Times) None)
last true = refl
last false = refl

none : (t : Bool) → None ≡ option_map word_of (cond t None None)
none true = refl
none false = refl

in_one : (f : Name) → first_named (take 12 PRIMITIVES) f.bytes ≡ word_named One f
in_one f = one_by_one One f None (none (same_name (named "*") f)) _ _ _ _ _ _ _ _ _ _ _ _

in_two : (f : Name) → first_named PRIMITIVES f.bytes ≡ word_named Two f
in_two f = one_by_one Two f _ (last (same_name (named "*") f)) _ _ _ _ _ _ _ _ _ _ _ _

pub first_named-one : (bytes : List ℕ) (f : Name) → f.bytes ≡ bytes → first_named (take 12 PRIMITIVES) bytes ≡ word_named One f
first_named-one bytes f e = ap (first_named (take 12 PRIMITIVES)) (sym e) ∙ in_one f

pub first_named-two : (bytes : List ℕ) (f : Name) → f.bytes ≡ bytes → first_named PRIMITIVES bytes ≡ word_named Two f
first_named-two bytes f e = ap (first_named PRIMITIVES) (sym e) ∙ in_two f
