-- Proofs of premises, one after another.
use Rattle.std.proofs.Common.{◌≡◌, ℕ, ◌+◌, ◌<◌, ◌≤◌, List, [], ◌∷◌, ◌++◌, drop, get_or, length, refl, sym, ap, ap₂, ◌∙◌, subst, arith, append_assoc}
use Rattle.std.specs.List.{All}
use Rattle.std.proofs.lemmas.List.{at_drop_more, drop_all}
use Rattle.std.proofs.lemmas.List.Elements.{All-append, All-cons}
use Rattle.mw_model.specs.Terms.Object.{Object, Pair, NIL, symbol, second_of, list2, list3}
use Rattle.mw_model.specs.Terms.Term.{Formula, formula_object}
use Rattle.mw_model.specs.Proofs.Proof.{ProveEach, no_proofs, more_proofs}
use Rattle.mw_commands.proofs.LogAccepted.{conclusion_is}
use Rattle.mw_heap.specs.Objects.{object_at, IsIn}
use Rattle.mw_proof.specs.Step.{conclusions_object}
use Rattle.mw_heap.specs.Lists.{list_object}
use Rattle.mw_proof.specs.Judging.{Basis}
use Rattle.mw_lower.specs.Proofs.{IsProof}
use Rattle.mw_lower.specs.Methods.{ProvesSome}
use Rattle.mw_lower.proofs.StepTests.{no_object}
use Rattle.mw_lower.specs.Unless.{unless_all, MakesUnless, DetachesOne, DetachesAll}

abbrev pub Proofs : Basis → Object → List Formula → Type 0
Proofs b ps Fs = ProveEach b.axioms b.theorems b.table b.profile ps Fs

-- the first of a list of proofs, and the others
pub record Split (b : Basis) (p ps : Object) (Fs : List Formula) : Type 0 where
  pub first : Formula
  pub others : List Formula
  pub is : Fs ≡ first ∷ others
  pub proves : IsProof b p first
  pub prove : Proofs b ps others
  pub concludes : second_of p ≡ formula_object first

pub split : (b : Basis) (p ps : Object) (Fs : List Formula) → Proofs b (Pair p ps) Fs → Split b p ps Fs
split b p ps Fs (more_proofs q qs F Gs h hs) = record { first = F; others = Gs; is = refl; proves = h; prove = hs; concludes = conclusion_is b.axioms b.theorems b.table b.profile q F h }

pub none_left : (b : Basis) (x : Object) (Fs : List Formula) → x ≡ NIL → Proofs b x Fs → Fs ≡ []
none_left b x Fs e no_proofs = refl
none_left b x Fs e (more_proofs p ps F Gs h hs) = cc

-- what a list of conclusions is followed by, where these are of what stands before the proof i
pub record Concludes (os : List Object) (ps : List ℕ) (i : ℕ) (cs : List ℕ) : Type 0 where
  pub within : All (IsIn os) cs
  pub rest : (b : Basis) → ProvesSome b (list_object os ps) → ProvesSome b (list_object os (drop i ps))
  pub whole : (b : Basis) → ProvesSome b (list_object os ps) → (more : List ℕ) → list_object os more ≡ conclusions_object (list_object os (drop i ps)) → list_object os (cs ++ more) ≡ conclusions_object (list_object os ps)

-- from the whole and the step that were given to those that are left with the proofs from i on
abbrev pub LeavesRest : List Object → ℕ → ℕ → List ℕ → ℕ → List Object → ℕ → ℕ → Type 0
LeavesRest os whole step ps i new left proof = (b : Basis) (F : Formula) (Fs : List Formula) → object_at os whole ≡ formula_object (unless_all Fs F) → IsProof b (object_at os step) (unless_all Fs F) → Proofs b (list_object os ps) Fs → (Gs : List Formula) × (object_at new left ≡ formula_object (unless_all Gs F)) × IsProof b (object_at new proof) (unless_all Gs F) × Proofs b (list_object os (drop i ps)) Gs

-- one conclusion more
module _ (os : List Object) (ps cs : List ℕ) (i : ℕ) (d : ℕ) (l : i < length ps) (before : Concludes os ps i cs) where
  next : list_object os (drop i ps) ≡ Pair (object_at os (get_or ps i d)) (list_object os (drop (i + 1) ps))
  next = at_drop_more (list_object os) ps i d l

  pub rest_proves : (b : Basis) (h : ProvesSome b (list_object os ps)) → Split b (object_at os (get_or ps i d)) (list_object os (drop (i + 1) ps)) (before.rest b h).0
  rest_proves b h = split b _ _ _ (subst (λ x. Proofs b x (before.rest b h).0) next (before.rest b h).1)

  pub Concludes-more : (k : ℕ) → IsIn os k → object_at os k ≡ second_of (object_at os (get_or ps i d)) → Concludes os ps (i + 1) (cs ++ k ∷ [])
  Concludes-more k k_in e = record {
    within = All-append (IsIn os) cs (k ∷ []) before.within (All-cons (IsIn os) k [] k_in (λ j x m. absurd (omega arith)));
    rest = λ b h. ((rest_proves b h).others, (rest_proves b h).prove);
    whole = λ b h more m. ap (list_object os) (append_assoc cs (k ∷ []) more) ∙ before.whole b h (k ∷ more) (ap₂ Pair e m ∙ sym (ap conclusions_object next));
  }

  pub Concludes-none : {X : Type 0} → NIL ≡ second_of (object_at os (get_or ps i d)) → (b : Basis) → ProvesSome b (list_object os ps) → X
  Concludes-none e b h = no_object (rest_proves b h).first (e ∙ (rest_proves b h).concludes)

-- one premise more before the disjunction
pub MakesUnless-more : (c p ps whole new : Object) (k : Object) → MakesUnless c ps whole → k ≡ second_of p → new ≡ list3 (symbol "POR*") (list2 (symbol "PNOT*") k) whole → MakesUnless c (Pair p ps) new
MakesUnless-more c p ps whole new k m e n b F Fs d h =
    let s = split b p ps Fs h in
    n ∙ (ap₂ (λ x y. list3 (symbol "POR*") (list2 (symbol "PNOT*") x) y) (e ∙ s.concludes) (m b F s.others d s.prove) ∙ ap (λ Gs. formula_object (unless_all Gs F)) (sym s.is))

pub MakesUnless-none : (c p ps whole : Object) → NIL ≡ second_of p → MakesUnless c (Pair p ps) whole
MakesUnless-none c p ps whole e b F Fs d h = let s = split b p ps Fs h in no_object s.first (e ∙ s.concludes)

pub MakesUnless-first : (c ps : Object) → ps ≡ NIL → MakesUnless c ps c
MakesUnless-first c ps e b F Fs d h = d ∙ ap (λ Gs. formula_object (unless_all Gs F)) (sym (none_left b ps Fs e h))

pub MakesUnless-at : (os : List Object) (ps : List ℕ) (i d : ℕ) (c whole : Object) → i < length ps → MakesUnless c (Pair (object_at os (get_or ps i d)) (list_object os (drop (i + 1) ps))) whole → MakesUnless c (list_object os (drop i ps)) whole
MakesUnless-at os ps i d c whole l m = subst (λ x. MakesUnless c x whole) (sym (at_drop_more (list_object os) ps i d l)) m

-- one premise more is detached
pub LeavesRest-more : (os : List Object) (whole step : ℕ) (ps : List ℕ) (i d : ℕ) (old : List Object) (left proof : ℕ) (new : List Object) (rest q : ℕ) → i < length ps → object_at old (get_or ps i d) ≡ object_at os (get_or ps i d) → LeavesRest os whole step ps i old left proof → DetachesOne (object_at old left) (object_at old proof) (object_at old (get_or ps i d)) (object_at new rest) (object_at new q) → LeavesRest os whole step ps (i + 1) new rest q
LeavesRest-more os whole step ps i d old left proof new rest q l same before one b F Fs w h hs =
    let now = before b F Fs w h hs in
    let s = split b _ _ now.0 (subst (λ x. Proofs b x now.0) (at_drop_more (list_object os) ps i d l) now.3) in
    let is = ap (λ Gs. unless_all Gs F) s.is in
    let made = one b s.first (unless_all s.others F) (now.1 ∙ ap formula_object is) (subst (IsProof b (object_at old proof)) is now.2) (subst (λ x. IsProof b x s.first) (sym same) s.proves) in
    (s.others, made.0, made.1, s.prove)

pub LeavesRest-all : (os : List Object) (whole step : ℕ) (ps : List ℕ) (i : ℕ) (new : List Object) (left proof : ℕ) → list_object os (drop i ps) ≡ NIL → LeavesRest os whole step ps i new left proof → DetachesAll (object_at os whole) (object_at os step) (list_object os ps) (object_at new proof)
LeavesRest-all os whole step ps i new left proof none all b F Fs w h hs =
    let now = all b F Fs w h hs in
    subst (λ Gs. IsProof b (object_at new proof) (unless_all Gs F)) (none_left b _ now.0 none now.3) now.2

pub nothing_left : (os : List Object) (ps : List ℕ) (i : ℕ) → length ps ≤ i → list_object os (drop i ps) ≡ NIL
nothing_left os ps i l = ap (list_object os) (drop_all i ps l)

-- a proof has a conclusion
pub Concludes-skip : (os : List Object) (ps cs : List ℕ) (i d : ℕ) → i < length ps → Concludes os ps i cs → NIL ≡ second_of (object_at os (get_or ps i d)) → Concludes os ps (i + 1) cs
Concludes-skip os ps cs i d l before e = record {
  within = before.within;
  rest = λ b h. Concludes-none os ps cs i d l before e b h;
  whole = λ b h more m. Concludes-none os ps cs i d l before e b h;
}
