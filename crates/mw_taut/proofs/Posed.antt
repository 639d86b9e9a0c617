-- What is left to decide, in heaps that grow and after one more choice.
use Rattle.std.proofs.Common.{◌≡◌, ℕ, ◌<◌, arith, nat_eq, Bool, true, false, not, cond, List, [], ◌∷◌, ◌++◌, map, length, Some, None, Result, Ok, Err, OnOk, refl, sym, ap, ◌∙◌, subst, append_assoc, length-append}
use Rattle.std.proofs.lemmas.List.{length-map}
use Rattle.std.specs.Prelude.{All}
use Rattle.std.proofs.Common.{eqb-true}
use Rattle.mw_model.specs.Terms.Object.{Object}
use Rattle.mw_model.specs.Terms.Term.{Formula, Not, Or, formula_object, ArityTable, is_formula}
use Rattle.mw_model.specs.Values.Truth.{Each}
use Rattle.mw_model.proofs.Read.{formula_object-one}
use Rattle.mw_heap.specs.Objects.{object_at, IsIn, Grows}
use Rattle.mw_heap.proofs.Objects.{IsIn-Grows, object_at-Grows}
use Rattle.indexmap.specs.IndexMap.{IndexMap, get, IsEmpty}
use Rattle.std.specs.Map.{lookup}
use Rattle.mw_commands.specs.Commands.Tautology.{IsTautology}
use Rattle.mw_taut.specs.declared.table.Table.{Table}
use Rattle.mw_taut.specs.Meaning.{literal, IsEquation, AreApart}
use Rattle.mw_taut.specs.Cases.{Follows, IsPosed, IsProvedAt, AreProved}
use Rattle.mw_taut.specs.Decided.{IsTableOf}
use Rattle.mw_taut.proofs.Proved.{Good, left_part}
use Rattle.mw_taut.proofs.Kept.{map_kept, table_in_kept}
use Rattle.mw_taut.proofs.CaseDecided.{over_none}

pub on_ok : {X Y P : Type 0} (r : Result X Y) → P → OnOk r P
on_ok (Ok x) p = p
on_ok (Err y) p = tt

module _ (A : ArityTable) (old new : List Object) (grows : Grows old new) where
  pub posed_kept : (equations : List ℕ) (chosen : List Bool) (f : ℕ) (F : Formula) (before rest : List Formula) → IsIn old f → All (IsIn old) equations → IsPosed A old equations chosen f F before rest → IsPosed A new equations chosen f F before rest
  posed_kept equations chosen f F before rest f_in es_in p = record {
    object = object_at-Grows old new grows f f_in ∙ p.object;
    formed = p.formed;
    equations_are = map_kept old new grows equations es_in ∙ p.equations_are;
    many = p.many;
    apart = p.apart;
    all = p.all;
    all_formed = p.all_formed;
    over = p.over;
  }

  pub table_kept : (F : Formula) (t : Table) → IsTableOf old F t → IsTableOf new F t
  table_kept F t h = record {
    parts = h.parts;
    nodes = h.nodes;
    root = h.root;
    formulas = map_kept old new grows t.formulas.items h.inside.formulas ∙ h.formulas;
    equations_are = map_kept old new grows t.equations.items h.inside.equations ∙ h.equations_are;
    inside = table_in_kept old new grows t h.inside;
  }

  pub proved_kept : {S : Type 0} (m : IndexMap ℕ ℕ S) → AreProved A old m → AreProved A new m
  proved_kept m h f p e =
      let k = h f p e in (
        IsIn-Grows old new grows f k.0,
        IsIn-Grows old new grows p k.1,
        λ F is formed.
            let q = k.2 F (sym (object_at-Grows old new grows f k.0) ∙ is) formed in
            (subst (λ x. Good A x F) (sym (object_at-Grows old new grows p k.1)) q.0, q.1),
      )

  -- after one more choice
  pub next_posed : (equations : List ℕ) (chosen : List Bool) (f g : ℕ) (b : Bool) (F H : Formula) (before : List Formula) (E : Formula) (rest : List Formula) (d q : Object) → All (IsIn old) equations →
      IsPosed A old equations chosen f F before (E ∷ rest) → Follows A E b rest d (object_at new g) q F H → IsPosed A new equations (chosen ++ b ∷ []) g H (before ++ E ∷ []) rest
  next_posed equations chosen f g b F H before E rest d q es_in p h =
      let same = sym (append_assoc before (E ∷ []) rest) in
      record {
        object = h.formula;
        formed = left_part A (Not H) (Or F (literal (not b) E)) q h.from;
        equations_are = map_kept old new grows equations es_in ∙ (p.equations_are ∙ ap (map formula_object) same);
        many = omega (arith, p.many, length-append chosen (b ∷ []), length-append before (E ∷ []));
        apart = subst AreApart same p.apart;
        all = subst (Each IsEquation) same p.all;
        all_formed = subst (Each (λ G. is_formula A G ≡ true)) same p.all_formed;
        over = h.over;
      }

-- at first nothing is proved
pub none_proved : {S : Type 0} (A : ArityTable) (os : List Object) (m : IndexMap ℕ ℕ S) → IsEmpty m → AreProved A os m
none_proved A os m none f p e = absurd (never (sym (ap (lookup (nat_eq f)) none) ∙ e))
  where
    never : None ≡ Some p → ⊥
    never k = cc

-- an equation is left to choose
pub record HasNext (A : ArityTable) (os : List Object) (equations : List ℕ) (chosen : List Bool) (f : ℕ) (F : Formula) (before rest : List Formula) : Type 0 where
  pub first : Formula
  pub others : List Formula
  pub is : rest ≡ first ∷ others
  pub posed : IsPosed A os equations chosen f F before (first ∷ others)
  pub fewer : length chosen < length equations

pub has_next : (A : ArityTable) (os : List Object) (equations : List ℕ) (chosen : List Bool) (f : ℕ) (F : Formula) (before rest : List Formula) → IsPosed A os equations chosen f F before rest → HasNext A os equations chosen f F before rest
has_next A os equations chosen f F before [] p = absurd (over_none F p.over)
has_next A os equations chosen f F before (E ∷ rest) p = record {
  first = E;
  others = rest;
  is = refl;
  posed = p;
  fewer = let e : length equations ≡ length (before ++ E ∷ rest) = sym (length-map equations (object_at os)) ∙ (ap length p.equations_are ∙ length-map (before ++ E ∷ rest) formula_object) in omega (arith, e, p.many, length-append before (E ∷ rest));
}

-- a proof that is kept is one of the only formula of its object
pub proof_kept : {S : Type 0} (A : ArityTable) (os : List Object) (m n : IndexMap ℕ ℕ S) (f p : ℕ) (F : Formula) →
    AreProved A os m → ((g : ℕ) → get nat_eq n g ≡ cond (nat_eq f g) (Some p) (get nat_eq m g)) → IsIn os f → IsIn os p → object_at os f ≡ formula_object F → is_formula A F ≡ true → Good A (object_at os p) F × IsTautology F → AreProved A os n
proof_kept A os m n f p F all keeps f_in p_in is formed holds = λ g q e. go g q (nat_eq f g) refl (sym (keeps g) ∙ e)
  where
    new_one : IsProvedAt A os f p
    new_one = (f_in, p_in, λ G same formed_G. let e : F ≡ G = formula_object-one A A F G formed formed_G (sym is ∙ same) in subst (λ X. Good A (object_at os p) X × IsTautology X) e holds)

    go : (g q : ℕ) (b : Bool) → nat_eq f g ≡ b → cond (nat_eq f g) (Some p) (get nat_eq m g) ≡ Some q → IsProvedAt A os g q
    go g q true i e =
        let at_f : f ≡ g = eqb-true f g i in
        let at_p : p ≡ q = some (ap (λ c. cond c (Some p) (get nat_eq m g)) (sym i) ∙ e) in
        subst (λ x. IsProvedAt A os x q) at_f (subst (IsProvedAt A os f) at_p new_one)
      where
        some : Some p ≡ Some q → p ≡ q
        some k = cc
    go g q false i e = all g q (ap (λ c. cond c (Some p) (get nat_eq m g)) (sym i) ∙ e)
