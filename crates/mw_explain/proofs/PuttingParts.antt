-- Parts that are put behind others.
use Rattle.std.proofs.Common.{◌≡◌, ℕ, ◌<◌, ◌≤◌, List, [], ◌∷◌, ◌++◌, map, false, true, is_some, refl, sym, ap, ◌∙◌, subst, arith, append_assoc}
use Rattle.std.proofs.lemmas.List.{append-nil}
use Rattle.mw_model.specs.Terms.Object.{Object, Symbol, Pair}
use Rattle.mw_model.specs.Terms.Term.{ArityTable, arity_of}
use Rattle.mw_model.specs.Values.Primitive.{is_pair, is_symbol, name_of}
use Rattle.mw_model.specs.Events.Expansion.{abbreviation_of}
use Rattle.mw_heap.specs.declared.store.view.View.{View}
use Rattle.mw_heap.specs.declared.store.view.View.TheVariants.{Nat, Symbol as Named, Pair as Parts}
use Rattle.mw_heap.specs.Objects.{object_at, IsIn, Shows}
use Rattle.mw_bad_steps.specs.Members.{members_in}
use Rattle.mw_explain.specs.RawParts.{clause_members, binding_members, let_members, form_members, lambda_members, raw_parts, AreBefore, PutsParts}

map-push : (f : ℕ → Object) (rs : List ℕ) (r : ℕ) → map f (rs ++ r ∷ []) ≡ map f rs ++ f r ∷ []
map-push f [] r = refl
map-push f (x ∷ rs) r = ap (λ l. f x ∷ l) (map-push f rs r)

before-push : (n : ℕ) (rs : List ℕ) (r : ℕ) → AreBefore n rs → r < n → AreBefore n (rs ++ r ∷ [])
before-push n [] r h l = (l, tt)
before-push n (x ∷ rs) r h l = (h.0, before-push n rs r h.1 l)

-- the parts in `rest` are still to be put, where in all the parts in `whole` are
pub record IsPutting (os : List Object) (x : ℕ) (whole rest : List Object) (old now : List ℕ) : Type 0 where
  pub parts : map (object_at os) now ++ rest ≡ map (object_at os) old ++ whole
  pub before : (n : ℕ) → x ≤ n → AreBefore n old → AreBefore n now

module _ (os : List Object) (x : ℕ) where
  pub putting-start : (whole : List Object) (old : List ℕ) → IsPutting os x whole whole old old
  putting-start whole old = record { parts = refl; before = λ n l h. h }

  -- one more part
  pub putting-one : (whole rest all : List Object) (r : ℕ) (old now more : List ℕ) → IsPutting os x whole all old now → all ≡ object_at os r ∷ rest → r < x → more ≡ now ++ r ∷ [] → IsPutting os x whole rest old more
  putting-one whole rest all r old now more h e l k = record {
    parts =
        ap (λ rs. map (object_at os) rs ++ rest) k
        ∙ (ap (λ l. l ++ rest) (map-push (object_at os) now r)
        ∙ (append_assoc (map (object_at os) now) (object_at os r ∷ []) rest
        ∙ (ap (λ l. map (object_at os) now ++ l) (sym e) ∙ h.parts)));
    before = λ n m b. let b : AreBefore n (now ++ r ∷ []) = before-push n now r (h.before n m b) (omega (arith, l, m)) in subst (AreBefore n) (sym k) b;
  }

  -- all parts of y
  pub putting-more : (whole rest all ps : List Object) (y : ℕ) (old now more : List ℕ) → IsPutting os x whole all old now → all ≡ ps ++ rest → y ≤ x → PutsParts os y ps now more → IsPutting os x whole rest old more
  putting-more whole rest all ps y old now more h e l p = record {
    parts =
        ap (λ l. l ++ rest) p.parts
        ∙ (append_assoc (map (object_at os) now) ps rest
        ∙ (ap (λ l. map (object_at os) now ++ l) (sym e) ∙ h.parts));
    before = λ n m b. p.before n (omega (arith, l, m)) (h.before n m b);
  }

  pub putting-end : (whole rest : List Object) (old now : List ℕ) → IsPutting os x whole rest old now → rest ≡ [] → PutsParts os x whole old now
  putting-end whole rest old now h e = record {
    parts = sym (append-nil (map (object_at os) now)) ∙ (ap (λ l. map (object_at os) now ++ l) (sym e) ∙ h.parts);
    before = h.before;
  }

  -- nothing is put
  pub puts-none : (ps : List Object) (old : List ℕ) → ps ≡ [] → PutsParts os x ps old old
  puts-none ps old e = putting-end ps ps old old (putting-start ps old) e

-- A walk over the list at x, of which f says the parts: those of the rest are still to be put.
module _ (f : Object → List Object) (os : List Object) (x : ℕ) where
  pub record Walks (rest : ℕ) (old now : List ℕ) : Type 0 where
    pub within : IsIn os rest
    pub older : rest ≤ x
    pub putting : IsPutting os x (f (object_at os x)) (f (object_at os rest)) old now

  pub Walks-start : (old : List ℕ) → IsIn os x → Walks x old old
  Walks-start old within = record { within = within; older = omega arith; putting = putting-start os x (f (object_at os x)) old }

  module _ (rest : ℕ) (old now : List ℕ) (w : Walks rest old now) where
    -- a member that is a part itself, and one that has the parts of y
    pub Walks-one : (r more : ℕ) (new : List ℕ) → f (object_at os rest) ≡ object_at os r ∷ f (object_at os more) → IsIn os more → r < rest → more < rest → new ≡ now ++ r ∷ [] → Walks more old new
    Walks-one r more new is within before below pushed = record {
      within = within;
      older = omega (arith, below, w.older);
      putting = putting-one os x (f (object_at os x)) (f (object_at os more)) (f (object_at os rest)) r old now new w.putting is (omega (arith, before, w.older)) pushed;
    }

    pub Walks-more : (ps : List Object) (y more : ℕ) (new : List ℕ) → f (object_at os rest) ≡ ps ++ f (object_at os more) → IsIn os more → y < rest → more < rest → PutsParts os y ps now new → Walks more old new
    Walks-more ps y more new is within before below puts = record {
      within = within;
      older = omega (arith, below, w.older);
      putting = putting-more os x (f (object_at os x)) (f (object_at os more)) (f (object_at os rest)) ps y old now new w.putting is (omega (arith, before, w.older)) puts;
    }

    pub Walks-end : f (object_at os rest) ≡ [] → PutsParts os x (f (object_at os x)) old now
    Walks-end none = putting-end os x (f (object_at os x)) (f (object_at os rest)) old now w.putting none

-- parts of y are parts of x
pub puts-older : (os : List Object) (x y : ℕ) (all ps : List Object) (old new : List ℕ) → all ≡ ps → y ≤ x → PutsParts os y ps old new → PutsParts os x all old new
puts-older os x y all ps old new e l p = record { parts = p.parts ∙ ap (λ qs. map (object_at os) old ++ qs) (sym e); before = λ n m b. p.before n (omega (arith, l, m)) b }

-- the body of a lambda call, and then its actuals
pub puts-lambda : (os : List Object) (x head actuals body : ℕ) (l xs z : Object) (old pushed new : List ℕ) → object_at os head ≡ Pair l (Pair xs (Pair (object_at os body) z)) → body < head → pushed ≡ old ++ body ∷ [] → PutsParts os actuals (members_in (object_at os actuals)) pushed new → head < x → actuals < x → PutsParts os x (lambda_members (object_at os head) (object_at os actuals)) old new
puts-lambda os x head actuals body l xs z old pushed new e b k p h a =
    let r = object_at os actuals in
    let all = lambda_members (object_at os head) r in
    let is : all ≡ object_at os body ∷ members_in r = ap (λ y. lambda_members y r) e in
    let one = putting-one os x all (members_in r) all body old old pushed (putting-start os x all old) is (omega (arith, b, h)) k in
    let two = putting-more os x all [] (members_in r) (members_in r) actuals old pushed new one (sym (append-nil (members_in r))) (omega (arith, a)) p in
    putting-end os x all [] old new two refl

-- what is no pair has no members
pub no-members : (x : Object) → is_pair x ≡ false → members_in x ≡ []
no-members (Pair a b) h = cc
no-members _ h = refl

pub no-clauses : (x : Object) → is_pair x ≡ false → clause_members x ≡ []
no-clauses (Pair a b) h = cc
no-clauses _ h = refl

pub no-bindings : (x : Object) → is_pair x ≡ false → binding_members x ≡ []
no-bindings (Pair a b) h = cc
no-bindings _ h = refl

pub no-binding : (x r : Object) → is_pair x ≡ false → binding_members (Pair x r) ≡ []
no-binding (Pair a b) r h = cc
no-binding _ r h = refl

pub no-let : (x : Object) → is_pair x ≡ false → let_members x ≡ []
no-let (Pair a b) h = cc
no-let _ h = refl

-- the parts of y, and then those of z
pub puts-both : (os : List Object) (x y z : ℕ) (all ps qs : List Object) (old now more : List ℕ) → all ≡ ps ++ qs → y ≤ x → z ≤ x → PutsParts os y ps old now → PutsParts os z qs now more → PutsParts os x all old more
puts-both os x y z all ps qs old now more e l m p q =
    let one = putting-more os x all qs all ps y old old now (putting-start os x all old) e l p in
    let two = putting-more os x all [] qs qs z old now more one (sym (append-nil qs)) m q in
    putting-end os x all [] old more two refl

-- what begins with a symbol, and with something else
pub symbol-parts : (A : ArityTable) (h r : Object) → is_symbol h ≡ true → raw_parts A (Pair h r) ≡ form_members (is_some (arity_of A (name_of h))) (abbreviation_of (name_of h)) r
symbol-parts A (Symbol f) r s = refl
symbol-parts A _ r s = cc

pub other-parts : (A : ArityTable) (h r : Object) → is_symbol h ≡ false → raw_parts A (Pair h r) ≡ lambda_members h r
other-parts A (Symbol f) r s = cc
other-parts A _ r s = refl

pub no_symbol : (os : List Object) (v : View) (x : Object) → Shows os v x → (v ≡ Named → ⊥) → is_symbol x ≡ false
no_symbol os (Nat n) x h other = ap is_symbol h
no_symbol os Named x h other = absurd (other refl)
no_symbol os (Parts a b) x h other = ap is_symbol h.2
