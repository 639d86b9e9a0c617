-- What the theory's checker finds of a proof, by its answer.
use Rattle.std.proofs.Common.{◌≡◌, ℕ, Bool, true, false, cond, List, [], ◌∷◌, length, Option, Some, None, refl, sym, ap, ◌∙◌, subst, is_some}
use Rattle.mw_model.specs.Terms.Object.{Name, Object, NIL, name_of_bytes, same_object, second_of}
use Rattle.mw_model.specs.Terms.Term.{Term, Call, Formula, table_object}
use Rattle.mw_model.specs.Values.Primitive.{name_of}
use Rattle.mw_model.specs.Values.Definition.{Function, Block, Definitions}
use Rattle.mw_model.specs.Proofs.Proof.{constants}
use Rattle.mw_model.specs.Events.Evaluation.{Value, evaluate, code_of}
use Rattle.mw_model.specs.Events.Theory.{Theory, IsClaimed}
use Rattle.mw_model.specs.Events.Refusal.{CONCLUSION, PROOF, NILVALUE}
use Rattle.mw_model.specs.Events.Checking.{no_unless, verdict, judged, judged_by}
use Rattle.mw_model.proofs.Names.{name_of_bytes-bytes}
use Rattle.mw_heap.specs.Objects.{object_at}
use Rattle.mw_code.specs.declared.table.Table.{Table}
use Rattle.mw_code.specs.declared.entry.Entry.{Entry}
use Rattle.mw_code.specs.Tables.{StandsFor, IsCodeOf, IsEntry}
use Rattle.mw_theory.specs.declared.theory.Theory.{Theory as Kept}
use Rattle.mw_theory.specs.Knowledge.{parts_of, definitions_of, name_read, meant, IsHeld}
use Rattle.mw_kernel.specs.Proofs.{judged_for}

-- the second member is another than the formula
pub judged-other : (t : Theory) (N : ℕ) (formula p : Object) → same_object (second_of p) formula ≡ false → Some CONCLUSION ≡ judged_for N t formula p
judged-other t N formula p other = ap (λ b. cond b (Some CONCLUSION) (Some CONCLUSION)) (sym other) ∙ go (same_object (second_of p) formula) other
  where
    go : (b : Bool) → b ≡ false → cond b (Some CONCLUSION) (Some CONCLUSION) ≡ cond b (judged t p N) (Some CONCLUSION)
    go false h = refl
    go true h = cc

-- it is the formula
pub judged-concluded : (t : Theory) (N : ℕ) (formula p : Object) → same_object (second_of p) formula ≡ true → judged t p N ≡ judged_for N t formula p
judged-concluded t N formula p same = sym (ap (λ b. cond b (judged t p N) (Some CONCLUSION)) same)

-- the built-in checker's answer
pub found-good : (o : Option Formula) → is_some o ≡ true → None ≡ no_unless PROOF o
found-good (Some F) h = refl
found-good None h = cc

pub found-bad : (o : Option Formula) → is_some o ≡ false → Some PROOF ≡ no_unless PROOF o
found-bad None h = refl
found-bad (Some F) h = cc

-- a value of a checker's run
pub value-nil : (v : Object) (n : ℕ) → same_object v NIL ≡ true → Some NILVALUE ≡ verdict (Value v n)
value-nil v n h = sym (ap (λ b. cond b (Some NILVALUE) None) h)

pub value-other : (v : Object) (n : ℕ) → same_object v NIL ≡ false → None ≡ verdict (Value v n)
value-other v n h = sym (ap (λ b. cond b (Some NILVALUE) None) h)

-- what has code is not without
pub never-none : (D : List Block) (f : Name) (h : Function) → code_of D f ≡ Some h → code_of D f ≡ None → ⊥
never-none D f h some none = cc

-- a name has one code
pub same-code : (D : List Block) (f : Name) (h k : Function) → code_of D f ≡ Some h → code_of D f ≡ Some k → h ≡ k
same-code D f h k is_h is_k = ap (or_else h) (sym is_h ∙ is_k)
  where
    or_else : Function → Option Function → Function
    or_else h None = h
    or_else h (Some k) = k

-- a checker has code, of four formals
pub claimed-coded : (t : Theory) (c : Option Name) (f : Name) → IsClaimed t c → c ≡ Some f → (h : Function) × (code_of t.definitions.blocks f ≡ Some h) × (length h.formals ≡ 4)
claimed-coded t None f h is = cc
claimed-coded t (Some g) f h is = go (ap (λ o. name_or g o) is)
  where
    name_or : Name → Option Name → Name
    name_or g None = g
    name_or g (Some n) = n

    go : g ≡ f → (k : Function) × (code_of t.definitions.blocks f ≡ Some k) × (length k.formals ≡ 4)
    go e = subst (λ n. (k : Function) × (code_of t.definitions.blocks n ≡ Some k) × (length k.formals ≡ 4)) e (h.0, h.1, h.2)

-- A checker of a theory that is kept: its code is found, and its run is that of its call on a proof and the theory.
module _ (os : List Object) (t : Kept) (h : IsHeld os t) (checker : ℕ) (is : t.checker ≡ Some checker) where
  abbrev named : Name
  named = name_of (object_at os checker)

  abbrev D : Definitions
  D = definitions_of os (parts_of t)

  coded : (k : Function) × (code_of D.blocks named ≡ Some k) × (length k.formals ≡ 4)
  coded = claimed-coded (meant os (parts_of t)) (name_read os t.checker) named h.sound.claimed (ap (name_read os) is)

  pub code-found : (T : Table) → T ≡ t.table.value → (bytes : List ℕ) → named.bytes ≡ bytes → (r : Option Entry) → ((E : Definitions) → StandsFor os T E → IsCodeOf os T E (name_of_bytes bytes) r) → IsCodeOf os t.table.value D named r
  code-found T same bytes spelled r found =
      subst (λ U. IsCodeOf os U D named r) same
      (subst (λ g. IsCodeOf os T D g r) (ap name_of_bytes (sym spelled) ∙ name_of_bytes-bytes named) (found D (subst (λ U. StandsFor os U D) (sym same) h.coded)))

  pub never-missed : (r : Option Entry) → r ≡ None → IsCodeOf os t.table.value D named r → ⊥
  never-missed r none found = never-none D.blocks named coded.0 coded.1 (subst (IsCodeOf os t.table.value D named) none found)

  abbrev pub values : ℕ → List Object
  values p = object_at os p ∷ object_at os t.axioms ∷ object_at os t.theorems ∷ object_at os t.arity_list ∷ []

  abbrev pub checker_call : ℕ → Term
  checker_call p = Call named (constants (values p))

  pub checker-count : (e : Entry) (r : Option Entry) → r ≡ Some e → IsCodeOf os t.table.value D named r → 4 ≡ e.arity
  checker-count e r some found =
      let code = subst (IsCodeOf os t.table.value D named) some found in
      sym (code.2 ∙ (ap (λ k. length k.formals) (same-code D.blocks named code.0 coded.0 code.1 coded.1) ∙ coded.2))

  pub checker-entry : (p : ℕ) (T : Table) → T ≡ t.table.value → (e : Entry) (r : Option Entry) → r ≡ Some e → IsCodeOf os t.table.value D named r → IsEntry D.profile os T e (values p) (checker_call p)
  checker-entry p T same e r some found =
      let code = subst (IsCodeOf os t.table.value D named) some found in
      subst (λ U. IsEntry D.profile os U e (values p) (checker_call p)) (sym same) (code.3 (values p) (checker-count e r some found))

  pub checker-verdict : (p N : ℕ) → verdict (evaluate D N [] (checker_call p)) ≡ judged_by (name_read os (Some checker)) (meant os (parts_of t)) (object_at os p) N
  checker-verdict p N =
      ap (λ a. verdict (evaluate D N [] (Call named (constants (object_at os p ∷ object_at os t.axioms ∷ object_at os t.theorems ∷ a ∷ []))))) (h.arities_listed ∙ ap table_object h.arities)
