-- A theory whose checker is a function of the book.
use Rattle.std.proofs.Common.{◌≡◌, ℕ, suc, ◌+◌, Bool, true, false, ◌&&◌, eqb, List, Some, refl, sym, ap, ◌∙◌, subst, arith}
use Rattle.mw_model.specs.Terms.Object.{Name, Object, NIL, same_object}
use Rattle.mw_model.specs.Values.Primitive.{One, name_of}
use Rattle.mw_model.specs.Events.Theory.{Theory, initial, IsSound}
use Rattle.mw_model.specs.Events.Fate.{same_blocks, is_one}
use Rattle.mw_heap.specs.Objects.{object_at}
use Rattle.mw_theory.specs.declared.theory.Theory.{Theory as Kept}
use Rattle.mw_theory.specs.Knowledge.{parts_of, definitions_of, theory_with, meant, with_checker, is_first, IsNameIn, IsHeld}
use Rattle.mw_theory.proofs.Held.{held-changed}

-- it is not the initial one
fifth_false : (a b c d e : Bool) → (a && (b && (c && (d && (false && e))))) ≡ false
fifth_false true true true true e = refl
fifth_false true true true false e = refl
fifth_false true true false d e = refl
fifth_false true false c d e = refl
fifth_false false b c d e = refl

checker-later : (t : Theory) (f : Name) → is_first (with_checker t f) ≡ false
unfolding is_first
checker-later t f =
    let i = initial One in
    fifth_false (is_one t.definitions.profile) (same_blocks t.definitions.blocks i.definitions.blocks) (same_object t.axioms i.axioms) (same_object t.theorems NIL) (eqb (suc t.level) 1)

-- a checker of this name, and the next level
module _ (os : List Object) (t : Kept) (h : IsHeld os t) (name level : ℕ) (named : IsNameIn os name) (next : level ≡ t.level + 1) where
  abbrev with_name : Kept
  with_name = record t { checker = Some name; level = level; is_initial = false }

  pub checker-meant : meant os (parts_of with_name) ≡ with_checker (meant os (parts_of t)) (name_of (object_at os name))
  checker-meant =
      let e : level ≡ suc t.level = omega (arith, next) in
      ap (theory_with (object_at os t.axioms) (object_at os t.theorems) (definitions_of os (parts_of t)) (Some (name_of (object_at os name)))) e

  pub checker-held : IsSound (with_checker (meant os (parts_of t)) (name_of (object_at os name))) → IsHeld os with_name
  checker-held sound =
      held-changed os t with_name h h.coded named (sym (ap is_first checker-meant ∙ checker-later (meant os (parts_of t)) (name_of (object_at os name)))) (subst IsSound (sym checker-meant) sound)
