-- Which rule a symbol names: a further one, or a method.
use Rattle.std.proofs.Common.{◌≡◌, Bool, true, false, cond, List, [], ◌∷◌, ◌++◌, map, Some, None, option_map, refl, sym, ap, ◌∙◌}
use Rattle.mw_model.specs.Terms.Object.{Object, Symbol, same_object}
use Rattle.mw_model.specs.Proofs.Proof.{Method, method_name}
use Rattle.mw_model.specs.Proofs.Judgment.{methods, method_among}
use Rattle.mw_model.proofs.Names.{same_object-eq}
use Rattle.mw_model.proofs.ReadBack.{some_one}
use Rattle.mw_model.proofs.SameObject.{same_object-swap}
use Rattle.mw_commands.specs.Commands.Derivation.{Rule, By, rule_name}
use Rattle.mw_commands.specs.Commands.DerivationTest.{rules, rule_among}
use Rattle.mw_lower.specs.declared.further.Further.{Further}
use Rattle.mw_lower.specs.declared.further.Further.TheVariants.{CommuteOr, ModusPonens, Symmetry, Transitivity, Replace}
use Rattle.mw_lower.specs.Further.{rule_of, further_rules, further_among}

-- one name after another
pub not_named : (x : Object) (f : Further) (fs : List Further) (t : Bool) → t ≡ same_object x (Symbol (rule_name (rule_of f))) → t ≡ false → further_among (f ∷ fs) x ≡ further_among fs x
not_named x f fs t e h = ap (λ s. cond s (Some f) (further_among fs x)) (sym e ∙ h)

pub named : (x : Object) (f : Further) (fs : List Further) (t : Bool) → t ≡ same_object x (Symbol (rule_name (rule_of f))) → t ≡ true → further_among (f ∷ fs) x ≡ Some f
named x f fs t e h = ap (λ s. cond s (Some f) (further_among fs x)) (sym e ∙ h)

module _ (x : Object) where
  by_methods : (ms : List Method) → rule_among (map By ms) x ≡ option_map By (method_among ms x)
  by_methods [] = refl
  by_methods (m ∷ ms) = go (same_object (Symbol (method_name m)) x) (by_methods ms)
    where
      go : (t : Bool) → rule_among (map By ms) x ≡ option_map By (method_among ms x) → cond t (Some (By m)) (rule_among (map By ms) x) ≡ option_map By (cond t (Some m) (method_among ms x))
      go true ih = refl
      go false ih = ih

  among_some : (fs : List Further) (rs : List Rule) (f : Further) → further_among fs x ≡ Some f → rule_among (map rule_of fs ++ rs) x ≡ Some (rule_of f)
  among_some [] rs f h = cc
  among_some (g ∷ fs) rs f h = go (same_object x (Symbol (rule_name (rule_of g)))) (same_object-swap (Symbol (rule_name (rule_of g))) x) h (among_some fs rs f)
    where
      go : (t : Bool) → same_object (Symbol (rule_name (rule_of g))) x ≡ t → cond t (Some g) (further_among fs x) ≡ Some f → (further_among fs x ≡ Some f → rule_among (map rule_of fs ++ rs) x ≡ Some (rule_of f)) → cond (same_object (Symbol (rule_name (rule_of g))) x) (Some (rule_of g)) (rule_among (map rule_of fs ++ rs) x) ≡ Some (rule_of f)
      go true e k ih = ap (λ s. cond s (Some (rule_of g)) (rule_among (map rule_of fs ++ rs) x)) e ∙ ap (λ z. Some (rule_of z)) (some_one k)
      go false e k ih = ap (λ s. cond s (Some (rule_of g)) (rule_among (map rule_of fs ++ rs) x)) e ∙ ih k

  among_none : (fs : List Further) (rs : List Rule) → further_among fs x ≡ None → rule_among (map rule_of fs ++ rs) x ≡ rule_among rs x
  among_none [] rs h = refl
  among_none (g ∷ fs) rs h = go (same_object x (Symbol (rule_name (rule_of g)))) (same_object-swap (Symbol (rule_name (rule_of g))) x) h (among_none fs rs)
    where
      go : (t : Bool) → same_object (Symbol (rule_name (rule_of g))) x ≡ t → cond t (Some g) (further_among fs x) ≡ None → (further_among fs x ≡ None → rule_among (map rule_of fs ++ rs) x ≡ rule_among rs x) → cond (same_object (Symbol (rule_name (rule_of g))) x) (Some (rule_of g)) (rule_among (map rule_of fs ++ rs) x) ≡ rule_among rs x
      go true e k ih = cc
      go false e k ih = ap (λ s. cond s (Some (rule_of g)) (rule_among (map rule_of fs ++ rs) x)) e ∙ ih k

  among_name : (fs : List Further) (f : Further) → further_among fs x ≡ Some f → x ≡ Symbol (rule_name (rule_of f))
  among_name [] f h = cc
  among_name (g ∷ fs) f h = go (same_object x (Symbol (rule_name (rule_of g)))) refl h (among_name fs f)
    where
      go : (t : Bool) → same_object x (Symbol (rule_name (rule_of g))) ≡ t → cond t (Some g) (further_among fs x) ≡ Some f → (further_among fs x ≡ Some f → x ≡ Symbol (rule_name (rule_of f))) → x ≡ Symbol (rule_name (rule_of f))
      go true e k ih = same_object-eq x (Symbol (rule_name (rule_of g))) e ∙ ap (λ z. Symbol (rule_name (rule_of z))) (some_one k)
      go false e k ih = ih k

  pub is_further : (f : Further) → further_among further_rules x ≡ Some f → rule_among rules x ≡ Some (rule_of f)
  is_further f h = among_some further_rules (map By methods) f h

  pub is_method : further_among further_rules x ≡ None → rule_among rules x ≡ option_map By (method_among methods x)
  is_method h = among_none further_rules (map By methods) h ∙ by_methods methods

  no_method_named : (f : Further) → method_among methods (Symbol (rule_name (rule_of f))) ≡ None
  no_method_named CommuteOr = refl
  no_method_named ModusPonens = refl
  no_method_named Symmetry = refl
  no_method_named Transitivity = refl
  no_method_named Replace = refl

  -- a further rule is no method
  pub no_method : (f : Further) → further_among further_rules x ≡ Some f → method_among methods x ≡ None
  no_method f h = ap (method_among methods) (among_name further_rules f h) ∙ no_method_named f
