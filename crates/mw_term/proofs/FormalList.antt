-- A list of formals, read from the front.
use Rattle.std.proofs.Common.{◌≡◌, ℕ, suc, Bool, true, false, ◌&&◌, ◌||◌, not, cond, List, [], ◌∷◌, ◌++◌, length, Option, Some, None, refl, sym, ap, ap₂, ◌∙◌, subst, append_assoc}
use Rattle.std.proofs.lemmas.Bool.{and_parts, and_from, not-true}
use Rattle.mw_model.specs.Terms.Object.{Name, Object, Natural, Symbol, Pair, same_name}
use Rattle.mw_model.specs.Terms.Term.{is_among, is_variable, are_variables, are_distinct, are_formals}
use Rattle.mw_model.specs.Terms.Reading.{names_of, and_more}
use Rattle.mw_model.specs.Values.Primitive.{is_symbol, name_of}
use Rattle.mw_model.proofs.Names.{same_name-eq, same_name-from}
use Rattle.mw_heap.specs.Objects.{object_at, IsIn}
use Rattle.mw_term.proofs.Gathered.{names, among-append, differ-sym}
use Rattle.mw_term.specs.Parts.{if_formals, formals_of, is_new_variable, names_at, AreSymbols}

-- the names before those of a list
abbrev pub prepend : List Name → Option (List Name) → Option (List Name)
prepend before None = None
prepend before (Some xs) = Some (before ++ xs)

-- the formals are those before the rest of the list x
pub record AreBefore (os : List Object) (x : ℕ) (formals : List ℕ) (rest : ℕ) : Type 0 where
  pub within : IsIn os rest
  pub symbols : AreSymbols os formals
  pub so_far : are_formals (names_at os formals) ≡ true
  pub goes_on : formals_of (object_at os x) ≡ if_formals (prepend (names_at os formals) (names_of (object_at os rest)))

pub before-start : (os : List Object) (x : ℕ) (formals : List ℕ) → formals ≡ [] → IsIn os x → AreBefore os x formals x
before-start os x formals e within = subst (λ l. AreBefore os x l x) (sym e) (record { within = within; symbols = tt; so_far = refl; goes_on = ap if_formals (start (names_of (object_at os x))) })
  where
    start : (o : Option (List Name)) → o ≡ prepend [] o
    start None = refl
    start (Some xs) = refl

prepend-and_more : (before : List Name) (y : Name) (o : Option (List Name)) → prepend before (and_more (Some y) o) ≡ prepend (before ++ y ∷ []) o
prepend-and_more before y None = refl
prepend-and_more before y (Some ys) = ap Some (sym (append_assoc before (y ∷ []) ys))

-- what is new at the end
and_false : (a : Bool) → (a && false) ≡ false
and_false true = refl
and_false false = refl

or_true : (a : Bool) → (a || true) ≡ true
or_true true = refl
or_true false = refl

or_parts : (a b : Bool) → (a || b) ≡ false → (a ≡ false) × (b ≡ false)
or_parts true b h = cc
or_parts false b h = (refl, h)

variables-append : (xs ys : List Name) → are_variables (xs ++ ys) ≡ (are_variables xs && are_variables ys)
variables-append [] ys = refl
variables-append (x ∷ xs) ys = ap (λ b. is_variable x && b) (variables-append xs ys) ∙ sym (and_assoc (is_variable x) (are_variables xs) (are_variables ys))
  where
    and_assoc : (a b c : Bool) → ((a && b) && c) ≡ (a && (b && c))
    and_assoc true b c = refl
    and_assoc false b c = refl

variables-refused : (before : List Name) (y : Name) (ys : List Name) → is_variable y ≡ false → are_variables (before ++ y ∷ ys) ≡ false
variables-refused before y ys h = variables-append before (y ∷ ys) ∙ (ap (λ b. are_variables before && (b && are_variables ys)) h ∙ and_false (are_variables before))

pub distinct-refused : (before : List Name) (y : Name) (ys : List Name) → is_among y before ≡ true → are_distinct (before ++ y ∷ ys) ≡ false
distinct-refused [] y ys h = cc
distinct-refused (x ∷ xs) y ys h = go (same_name y x) refl (distinct-refused xs y ys) h
  where
    go : (b : Bool) → same_name y x ≡ b → (is_among y xs ≡ true → are_distinct (xs ++ y ∷ ys) ≡ false) → (b || is_among y xs) ≡ true → are_distinct (x ∷ xs ++ y ∷ ys) ≡ false
    go true e rest k =
        let there : is_among x (xs ++ y ∷ ys) ≡ true = among-append names x xs (y ∷ ys) ∙ (ap (λ b. is_among x xs || (b || is_among x ys)) (same_name-from x y (sym (same_name-eq y x e))) ∙ or_true (is_among x xs)) in
        ap (λ b. not b && are_distinct (xs ++ y ∷ ys)) there
    go false e rest k = ap (λ b. not (is_among x (xs ++ y ∷ ys)) && b) (rest k) ∙ and_false (not (is_among x (xs ++ y ∷ ys)))

pub distinct-push : (before : List Name) (y : Name) → are_distinct before ≡ true → is_among y before ≡ false → are_distinct (before ++ y ∷ []) ≡ true
distinct-push [] y d h = refl
distinct-push (x ∷ xs) y d h =
    let p = and_parts (not (is_among x xs)) (are_distinct xs) d in
    let q = or_parts (same_name y x) (is_among y xs) h in
    let apart : is_among x (xs ++ y ∷ []) ≡ false = among-append names x xs (y ∷ []) ∙ ap₂ (λ a b. a || (b || false)) (not-true (is_among x xs) p.0) (differ-sym names x y q.0) in
    and_from (not (is_among x (xs ++ y ∷ []))) (are_distinct (xs ++ y ∷ [])) (ap not apart) (distinct-push xs y p.1 q.1)

formals-push : (before : List Name) (y : Name) → are_formals before ≡ true → is_variable y ≡ true → is_among y before ≡ false → are_formals (before ++ y ∷ []) ≡ true
formals-push before y f v n =
    let p = and_parts (are_variables before) (are_distinct before) f in
    and_from (are_variables (before ++ y ∷ [])) (are_distinct (before ++ y ∷ [])) (variables-append before (y ∷ []) ∙ and_from (are_variables before) (is_variable y && true) p.0 (and_from (is_variable y) true v refl)) (distinct-push before y p.1 n)

formals-refused : (before : List Name) (y : Name) (ys : List Name) → (is_variable y && not (is_among y before)) ≡ false → are_formals (before ++ y ∷ ys) ≡ false
formals-refused before y ys h = go (is_variable y) (is_among y before) refl refl h
  where
    go : (v n : Bool) → is_variable y ≡ v → is_among y before ≡ n → (v && not n) ≡ false → are_formals (before ++ y ∷ ys) ≡ false
    go true true e k r = ap (λ b. are_variables (before ++ y ∷ ys) && b) (distinct-refused before y ys k) ∙ and_false (are_variables (before ++ y ∷ ys))
    go true false e k r = cc
    go false n e k r = ap (λ b. b && are_distinct (before ++ y ∷ ys)) (variables-refused before y ys e)

-- an object that is no new variable cannot follow
pub refused : (before : List Name) (y r : Object) → is_new_variable before y ≡ false → if_formals (prepend before (names_of (Pair y r))) ≡ None
refused before (Natural n) r h = refl
refused before (Pair a b) r h = refl
refused before (Symbol y) r h = go (names_of r)
  where
    go : (o : Option (List Name)) → if_formals (prepend before (and_more (Some y) o)) ≡ None
    go None = refl
    go (Some ys) = ap (λ b. cond b (Some (before ++ y ∷ ys)) None) (formals-refused before y ys h)

pub names_at-push : (os : List Object) (rs : List ℕ) (r : ℕ) → names_at os (rs ++ r ∷ []) ≡ names_at os rs ++ name_of (object_at os r) ∷ []
names_at-push os [] r = refl
names_at-push os (q ∷ rs) r = ap (λ l. name_of (object_at os q) ∷ l) (names_at-push os rs r)

pub symbols-push : (os : List Object) (rs : List ℕ) (r : ℕ) → AreSymbols os rs → IsIn os r → is_symbol (object_at os r) ≡ true → AreSymbols os (rs ++ r ∷ [])
symbols-push os [] r h within s = (within, s, tt)
symbols-push os (q ∷ rs) r h within s = (h.0, h.1, symbols-push os rs r h.2 within s)

-- what a new variable is
new_variable : (before : List Name) (x : Object) → is_new_variable before x ≡ true → (is_symbol x ≡ true) × (is_variable (name_of x) ≡ true) × (is_among (name_of x) before ≡ false) × (x ≡ Symbol (name_of x))
new_variable before (Natural n) h = cc
new_variable before (Pair a b) h = cc
new_variable before (Symbol y) h = let p = and_parts (is_variable y) (not (is_among y before)) h in (refl, p.0, not-true (is_among y before) p.1, refl)

-- one more formal
pub before-step : (os : List Object) (x : ℕ) (formals new : List ℕ) (rest first more : ℕ) → AreBefore os x formals rest → object_at os rest ≡ Pair (object_at os first) (object_at os more) → IsIn os first → IsIn os more → is_new_variable (names_at os formals) (object_at os first) ≡ true → new ≡ formals ++ first ∷ [] → AreBefore os x new more
before-step os x formals new rest first more b shape in_first in_more h e =
    let before = names_at os formals in
    let p = new_variable before (object_at os first) h in
    let y = name_of (object_at os first) in
    let pushed : names_at os (formals ++ first ∷ []) ≡ before ++ y ∷ [] = names_at-push os formals first in
    subst (λ l. AreBefore os x l more) (sym e) (record {
      within = in_more;
      symbols = symbols-push os formals first b.symbols in_first p.0;
      so_far = ap are_formals pushed ∙ formals-push before y b.so_far p.1 p.2;
      goes_on =
          b.goes_on
          ∙ (ap (λ o. if_formals (prepend before (names_of o))) (shape ∙ ap (λ z. Pair z (object_at os more)) p.3)
          ∙ (ap if_formals (prepend-and_more before y (names_of (object_at os more))) ∙ ap (λ l. if_formals (prepend l (names_of (object_at os more)))) (sym pushed)));
    })

-- the list goes on with no formal
pub before-refused : (os : List Object) (x : ℕ) (formals : List ℕ) (rest first more : ℕ) → AreBefore os x formals rest → object_at os rest ≡ Pair (object_at os first) (object_at os more) → is_new_variable (names_at os formals) (object_at os first) ≡ false → formals_of (object_at os x) ≡ None
before-refused os x formals rest first more b shape h = b.goes_on ∙ (ap (λ o. if_formals (prepend (names_at os formals) (names_of o))) shape ∙ refused (names_at os formals) (object_at os first) (object_at os more) h)

pub length-names_at : (os : List Object) (rs : List ℕ) → length (names_at os rs) ≡ length rs
length-names_at os [] = refl
length-names_at os (r ∷ rs) = ap suc (length-names_at os rs)
