-- Lists at their end, and with a member less.
use Rattle.std.proofs.Common.{◌≡◌, ℕ, zero, suc, false, ◌&&◌, eqb, refl, sym, ap}
use Rattle.std.proofs.Math.Dec.{eqb-suc-zero}
use Rattle.mw_model.specs.Terms.Object.{Object, Natural, Symbol, Pair, same_object, NIL, has_members}
use Rattle.mw_model.specs.Values.Primitive.{is_pair}
use Rattle.mw_model.specs.Laws.RulesInduction.{is_list_object}

pub end_of_list : (y : Object) → is_pair y ≡ false → is_list_object y ≡ same_object y NIL
end_of_list (Natural n) h = refl
end_of_list (Symbol s) h = refl
end_of_list (Pair a b) h = cc

pub end_of_members : (n : ℕ) (y : Object) → is_pair y ≡ false → has_members n y ≡ (eqb n 0 && same_object y NIL)
end_of_members zero y h = refl
end_of_members (suc n) (Natural k) h = ap (λ b. b && false) (sym (eqb-suc-zero n))
end_of_members (suc n) (Symbol s) h = ap (λ b. b && same_object (Symbol s) NIL) (sym (eqb-suc-zero n))
end_of_members (suc n) (Pair a b) h = cc

pub more_members : (n : ℕ) (y a b : Object) → y ≡ Pair a b → has_members (suc n) y ≡ has_members n b
more_members n y a b h = ap (has_members (suc n)) h
